-- `calendar::date::month_length` meets its contract.
use mathlib.Core.Path.{sym, ◌∙◌}
use native.Mathlib.Omega.{arith}
use Rattle.std.proofs.lemmas.Grind.{common_steps}
use Rattle.calendar_rules.specs.Calendar.{month_length}
use Rattle.calendar.proofs.date.month_length.Goals as goal

pub returns-in-2 : goal.returns-in-2
unfolding month_length
returns-in-2 c = simp (c.in-2.is, sym c.is_leap.ensures ∙ c.if-is_leap.true)

pub returns-in-2-2 : goal.returns-in-2-2
unfolding month_length
returns-in-2-2 c = simp (c.in-2.is, sym c.is_leap.ensures ∙ c.if-is_leap.false)

pub returns-in-4 : goal.returns-in-4
unfolding month_length
returns-in-4 c = grind (arith, common_steps)

pub returns-in_default : goal.returns-in_default
unfolding month_length
returns-in_default c = grind (arith, common_steps)
