-- `line::skip::stray_run` meets its contract: the bytes behind the blocks are the rest of the run.
use Rattle.std.proofs.Common.{◌≡◌, ℕ, ◌+◌, ◌-◌, ◌≤◌, List, length, take, drop, ap, arith, length-drop, take_all}
use Rattle.line_rules.specs.Runs.{stray_run}
use Rattle.line_rules.proofs.RunLaws.{stray_ends}
use Rattle.line.proofs.skip.stray_run.Goals as goal

module _ (piece : List ℕ) (skipped : ℕ) (split : skipped + stray_run (drop skipped piece) ≡ stray_run piece) where
  within : skipped ≤ length piece
  within = omega (arith, split, (stray_ends piece).0)

  joined : (rest : ℕ) → rest ≡ stray_run (take (length piece - skipped) (drop skipped piece)) → skipped + rest ≡ stray_run piece
  joined rest is = omega (arith, split, is, ap stray_run (take_all (length piece - skipped) (drop skipped piece) (omega (arith, length-drop skipped piece))))

pub slice_bounds-stray_bytes-count : goal.slice_bounds-stray_bytes-count
slice_bounds-stray_bytes-count c = within c.args.piece.now c.stray_blocks-skipped.result c.stray_blocks-skipped.ensures

pub slice_bounds-stray_bytes-start : goal.slice_bounds-stray_bytes-start
slice_bounds-stray_bytes-start c = within c.args.piece.now c.stray_blocks-skipped.result c.stray_blocks-skipped.ensures

pub overflow_add-result : goal.overflow_add-result
overflow_add-result c =
    let piece = c.args.piece.now in
    let blocks = c.stray_blocks-skipped in
    let bytes = c.stray_bytes in
    omega (arith, joined piece blocks.result blocks.ensures bytes.result bytes.ensures, (stray_ends piece).0)

pub returns : goal.returns
returns c =
    let blocks = c.stray_blocks-skipped in
    joined c.args.piece.now blocks.result blocks.ensures c.stray_bytes.result c.stray_bytes.ensures
