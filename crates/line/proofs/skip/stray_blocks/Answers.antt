use Rattle.std.proofs.Common.{◌∙◌, sym, arith}
use Rattle.line_rules.proofs.RunLaws.{stray_block}
use Rattle.line.proofs.skip.stray_blocks.Goals as goal

pub loop-at-preserved : goal.loop-at-preserved
loop-at-preserved c =
    let piece = c.args.piece.now in
    let none = sym c.has_stx.ensures ∙ c.if-has_stx.false in
    (omega arith, stray_block piece c.loop-at.at _ (omega arith) (omega arith) none ∙ c.loop-at.invariant.1)
