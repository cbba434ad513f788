-- `measured::events` is safe: what is taken of a piece ends in it.
use Rattle.std.proofs.Common.{ap, arith}
use Rattle.line.specs.Pieces.{room}
use Rattle.line.proofs.PieceLaws.{passing_fits}
use Rattle.measured.proofs.events.Goals as goal

pub slice_bounds-rest-count : goal.slice_bounds-rest-count
slice_bounds-rest-count c =
    omega (arith, ap (λ passed. passed.taken) c.use_up-passed.ensures, (passing_fits room c.loop-rest.reader c.loop-rest.rest.now).0)

pub slice_bounds-rest-start : goal.slice_bounds-rest-start
slice_bounds-rest-start c =
    omega (arith, ap (λ passed. passed.taken) c.use_up-passed.ensures, (passing_fits room c.loop-rest.reader c.loop-rest.rest.now).0)
