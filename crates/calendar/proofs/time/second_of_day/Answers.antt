-- `calendar::time::second_of_day` meets its contract.
use mathlib.Core.Path.{sym, ◌∙◌}
use Rattle.refusals.specs.Refusals.{unless}
use Rattle.calendar_rules.specs.TimeOfDay.{time_refusal, seconds_of, second_of_day}
use Rattle.calendar.proofs.time.second_of_day.Goals as goal

pub returns-then-not-time_in_range : goal.returns-then-not-time_in_range
unfolding unless time_refusal second_of_day
returns-then-not-time_in_range c = rw (sym c.time_in_range.ensures ∙ c.if-not-time_in_range.true)

pub returns : goal.returns
unfolding unless time_refusal seconds_of second_of_day
returns c = rw (sym c.time_in_range.ensures ∙ c.if-not-time_in_range.false)
