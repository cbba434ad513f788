use Rattle.std.proofs.Common.{◌≡◌, ◌+◌, ◌-◌, ◌≤◌, ◌++◌, length, take, drop, sym, ap, ◌∙◌, arith, length-drop, length-take, length-take-le, take-take}
use Rattle.std.proofs.Math.Seq.{paste}
use Rattle.std.proofs.lemmas.Slice.{put_mid-paste}
use Rattle.line_rules.specs.Line.{places}
use Rattle.line_rules.proofs.RunLaws.{run_within}
use Rattle.line.proofs.runs.gather.Goals as goal

pub overflow_add-len : goal.overflow_add-len
overflow_add-len c = omega (arith, c.roomy_run-added.ensures, (run_within (places - c.args.len) c.args.piece.now).0)

pub slice_bounds-all-end : goal.slice_bounds-all-end
slice_bounds-all-end c = omega (arith, c.roomy_run-added.ensures, (run_within (places - c.args.len) c.args.piece.now).0)

pub slice_bounds-copy_from_slice-end : goal.slice_bounds-copy_from_slice-end
slice_bounds-copy_from_slice-end c =
    let n = c.roomy_run-added.result in
    let fits : n ≤ length c.args.piece.now = omega (arith, c.roomy_run-added.ensures, (run_within (places - c.args.len) c.args.piece.now).1) in
    sym (length-take-le n c.args.piece.now fits)

pub copy_from_slice-requires : goal.copy_from_slice-requires
copy_from_slice-requires c =
    let n = c.roomy_run-added.result in
    let len = c.args.len in
    let held = c.args.held in
    let within = run_within (places - len) c.args.piece.now in
    let fits : n ≤ length c.args.piece.now = omega (arith, c.roomy_run-added.ensures, within.1) in
    let size : length held ≡ places = omega (arith, c.well_formed) in
    omega (arith, c.roomy_run-added.ensures, within.0, length-take-le n c.args.piece.now fits, length-take (len + n - len) (drop len held), length-drop len held, size)

pub returns-clause-laid : goal.returns-clause-laid
returns-clause-laid c =
    let n = c.roomy_run-added.result in
    let len = c.args.len in
    let held = c.args.held in
    let piece = c.args.piece.now in
    let fits : n ≤ length piece = omega (arith, c.roomy_run-added.ensures, (run_within (places - len) piece).1) in
    put_mid-paste len _ held _ (take n piece) n c.copy_from_slice.ensures.after (omega arith) (sym (length-take-le n piece fits))
    ∙ ap (λ mid. (take len held ++ mid) ++ drop (len + n) held) (take-take n n piece (omega arith))
    ∙ ap (paste held len piece) c.roomy_run-added.ensures
