-- `calendar::time::time_in_range` meets its contract.
use native.Mathlib.Omega.{arith}
use Rattle.std.proofs.lemmas.Grind.{common_steps}
use Rattle.calendar_rules.specs.TimeOfDay.{time_in_range}
use Rattle.calendar.proofs.time.time_in_range.Goals as goal

pub returns-then-time-le59 : goal.returns-then-time-le59
unfolding time_in_range
returns-then-time-le59 c = grind (arith, common_steps)

pub returns-else-time-le59 : goal.returns-else-time-le59
unfolding time_in_range
returns-else-time-le59 c = grind (arith, common_steps)
