-- `calendar::date::days_in_month` meets its contract.
use mathlib.Core.Path.{sym, ap, ◌∙◌}
use Rattle.refusals.specs.Refusals.{done, unless}
use Rattle.calendar.proofs.date.days_in_month.Goals as goal

pub returns-then-not-month_in_range : goal.returns-then-not-month_in_range
unfolding unless
returns-then-not-month_in_range c = rw (sym c.month_in_range.ensures ∙ c.if-not-month_in_range.true)

pub returns : goal.returns
unfolding unless
returns c =
    rw (sym c.month_in_range.ensures ∙ c.if-not-month_in_range.false) (ap done c.month_length.ensures)
