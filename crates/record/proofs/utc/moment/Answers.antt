-- `record::utc::moment` meets its contract.
use mathlib.Core.Path.{sym, ap}
use native.Mathlib.Omega.{arith}
use Rattle.refusals.specs.Refusals.{done}
use Rattle.refusals.proofs.NumberLaws.{passed_on}
use Rattle.calendar_rules.proofs.Laws.{day_number_bound, second_bound}
use Rattle.record_rules.specs.Moment.{moment_of}
use Rattle.record.proofs.utc.moment.Goals as goal

pub overflow_mul-day : goal.overflow_mul-day
overflow_mul-day c = omega (arith, day_number_bound _ _ (sym c.in_ok-day.ensures))

pub overflow_add-day : goal.overflow_add-day
overflow_add-day c =
    omega (arith, day_number_bound _ _ (sym c.in_ok-day.ensures), second_bound _ _ (sym c.in_ok-second.ensures))

pub returns-in_err-day : goal.returns-in_err-day
unfolding moment_of
returns-in_err-day c = rw (sym c.in_err-day.ensures) (passed_on _ _ c.from_residual.ensures.1)

pub returns-in_err-second : goal.returns-in_err-second
unfolding moment_of
returns-in_err-second c =
    rw (sym c.in_ok-day.ensures, sym c.in_err-second.ensures) (passed_on _ _ c.from_residual-in_err-second.ensures.1)

pub returns : goal.returns
unfolding moment_of
returns c = rw (sym c.in_ok-day.ensures, sym c.in_ok-second.ensures) (ap done c.as_marked.ensures)
