-- `line::Reader::feed_from_stx` meets its contract.
use Rattle.std.proofs.Common.{◌≡◌, ℕ, ◌+◌, ◌-◌, ◌<◌, ◌≤◌, List, length, take, drop, ap, ◌∙◌, arith, length-drop, take_all}
use Rattle.line_rules.specs.Line.{places}
use Rattle.line_rules.specs.Runs.{roomy_run}
use Rattle.line_rules.proofs.RunLaws.{run_within}
use Rattle.line.proofs.Reader.feed_from_stx.Goals as goal

module _ (piece : List ℕ) (skipped run : ℕ) (some : skipped < length piece) (is : run ≡ roomy_run 1 (take (length piece - (skipped + 1)) (drop (skipped + 1) piece))) where
  behind : run ≡ roomy_run 1 (drop (skipped + 1) piece)
  behind = is ∙ ap (roomy_run 1) (take_all (length piece - (skipped + 1)) (drop (skipped + 1) piece) (omega (arith, length-drop (skipped + 1) piece)))

  within : skipped + 1 + run ≤ length piece
  within = omega (arith, behind, (run_within (places - 1) (drop (skipped + 1) piece)).1, length-drop (skipped + 1) piece)

pub overflow_add-end : goal.overflow_add-end
overflow_add-end c =
    omega (arith, within c.args.piece.now c.args.skipped c.roomy_run.result c.requires.1 c.roomy_run.ensures)

pub bounds-piece-end : goal.bounds-piece-end
bounds-piece-end c =
    omega (arith, within c.args.piece.now c.args.skipped c.roomy_run.result c.requires.1 c.roomy_run.ensures)

pub feed_whole-requires : goal.feed_whole-requires
feed_whole-requires c =
    let piece = c.args.piece.now in
    let skipped = c.args.skipped in
    let run = c.roomy_run in
    record {
      begins = c.requires.0;
      ends = ap (λ n. skipped + 1 + n) (behind piece skipped run.result c.requires.1 run.ensures);
      inside = omega (arith, within piece skipped run.result c.requires.1 run.ensures);
      ended = c.if-piece-end-eq-ETX.true;
    }
