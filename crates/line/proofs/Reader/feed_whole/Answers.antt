use Rattle.std.proofs.Common.{refl, arith}
use Rattle.line.proofs.Strays.{whole_fits, whole_read}
use Rattle.line.proofs.Reader.feed_whole.Goals as goal

pub overflow_cast-result : goal.overflow_cast-result
overflow_cast-result c =
    let self = c.args.self in
    omega (arith, whole_fits self.order self.fed self.stray c.args.piece.now c.args.skipped c.args.end c.requires)

pub returns : goal.returns
returns c =
    let self = c.args.self in
    whole_read self.order self.fed self.stray c.args.piece.now c.args.skipped c.args.end c.requires _ _ _ _ _
    refl
    refl
    c.outside.ensures
    c.moved.ensures
    c.read_in-answer.ensures
