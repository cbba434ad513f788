-- `calendar::date::is_leap` meets its contract.
use native.Mathlib.Omega.{arith}
use Rattle.std.proofs.lemmas.Grind.{common_steps}
use Rattle.calendar_rules.specs.Calendar.{is_leap}
use Rattle.calendar.proofs.date.is_leap.Goals as goal

pub returns-then-year-ne0 : goal.returns-then-year-ne0
unfolding is_leap
returns-then-year-ne0 c = grind (arith, common_steps)

pub returns-else-year-ne0 : goal.returns-else-year-ne0
unfolding is_leap
returns-else-year-ne0 c = grind (arith, common_steps)

pub returns-else-year-eq0 : goal.returns-else-year-eq0
unfolding is_leap
returns-else-year-eq0 c = grind (arith, common_steps)
