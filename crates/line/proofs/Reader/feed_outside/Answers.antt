-- `line::Reader::feed_outside` meets its contract.
use Rattle.std.proofs.Common.{sym, refl, ◌∙◌, arith}
use Rattle.line_rules.proofs.RunLaws.{begins_at_once, stray_ends}
use Rattle.line.proofs.Strays.{outside_all}
use Rattle.line.proofs.Reader.feed_outside.Goals as goal

pub feed_from_stx-requires : goal.feed_from_stx-requires
feed_from_stx-requires c = begins_at_once c.args.piece.now (sym c.begins_with_stx.ensures ∙ c.if-begins_with_stx.true)

pub returns-then-skipped-piece : goal.returns-then-skipped-piece
returns-then-skipped-piece c =
    let self = c.args.self in
    outside_all self.order self.fed self.stray c.args.piece.now _ _ _ _
    c.stray_run-skipped.ensures
    c.if-skipped-piece.true
    refl
    refl
    c.outside.ensures

pub feed_from_stx-requires-2 : goal.feed_from_stx-requires-2
feed_from_stx-requires-2 c =
    let run = c.stray_run-skipped.ensures in
    (run, omega (arith, run, (stray_ends c.args.piece.now).0))
