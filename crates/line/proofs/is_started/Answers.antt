use Rattle.std.proofs.Common.{◌<◌, ◌-◌, length, drop, ap, ◌∙◌, arith, eq-eqb, take_all, length-drop}
use Rattle.line_rules.specs.Line.{all_plain}
use Rattle.line.proofs.Forms.{started_parts}
use Rattle.line.proofs.is_started.Goals as goal

pub returns-then-first-eq-STX : goal.returns-then-first-eq-STX
returns-then-first-eq-STX c =
    let held = c.args.held.now in
    let some : 0 < length held = omega arith in
    rw (started_parts held some, eq-eqb _ _ c.if-first-eq-STX.true)
    (c.is_all_plain.ensures ∙ ap all_plain (take_all (length held - 1) (drop 1 held) (omega (arith, length-drop 1 held))))
