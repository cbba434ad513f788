-- `clock::clock_second` meets its contract.
use mathlib.Core.Path.{sym}
use Rattle.refusals.specs.Refusals.{unless}
use Rattle.refusals.proofs.NumberLaws.{passed_on}
use Rattle.clock.specs.Stepping.{clock_second}
use Rattle.clock.proofs.clock_second.Goals as goal

pub returns-in_err-next : goal.returns-in_err-next
unfolding clock_second
returns-in_err-next c = rw (sym c.in_err-next.ensures) (passed_on _ _ c.from_residual.ensures.1)

pub returns-in-TimeOnly : goal.returns-in-TimeOnly
unfolding clock_second unless
returns-in-TimeOnly c = rw (sym c.in_ok-next.ensures, c.in-TimeOnly.is)

pub returns-in-Dated : goal.returns-in-Dated
unfolding clock_second unless
returns-in-Dated c = rw (sym c.in_ok-next.ensures, c.in-Dated.is)
