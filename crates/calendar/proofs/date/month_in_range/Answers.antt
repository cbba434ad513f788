-- `calendar::date::month_in_range` meets its contract.
use native.Mathlib.Omega.{arith}
use Rattle.std.proofs.lemmas.Grind.{common_steps}
use Rattle.calendar_rules.specs.Calendar.{month_in_range}
use Rattle.calendar.proofs.date.month_in_range.Goals as goal

pub returns-then-contains : goal.returns-then-contains
unfolding month_in_range
returns-then-contains c = grind (arith, common_steps)

pub returns-else-contains : goal.returns-else-contains
unfolding month_in_range
returns-else-contains c = grind (arith, common_steps)
