-- `calendar::date::check` meets its contract.
use native.Mathlib.Omega.{arith}
use Rattle.std.proofs.lemmas.Grind.{common_steps}
use Rattle.calendar_rules.specs.Calendar.{date_refusal, date_in_range, day_exists}
use Rattle.calendar.proofs.date.check.Goals as goal

pub returns-then-not-month_in_range : goal.returns-then-not-month_in_range
unfolding date_refusal date_in_range
returns-then-not-month_in_range c = grind (arith, common_steps)

pub returns-then-month_length-date : goal.returns-then-month_length-date
unfolding date_refusal date_in_range day_exists
returns-then-month_length-date c = grind (arith, common_steps)

pub returns : goal.returns
unfolding date_refusal date_in_range day_exists
returns c = grind (arith, common_steps)
