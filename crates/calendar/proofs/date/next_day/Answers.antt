-- `calendar::date::next_day` meets its contract.
use mathlib.Core.Path.{sym, ◌∙◌}
use borrow.Author.Tests.{lt-ltb, le-ltb}
use Rattle.refusals.specs.Refusals.{unless}
use Rattle.refusals.proofs.NumberLaws.{passed_on, refused_first_by}
use Rattle.calendar_rules.specs.Calendar.{next_day, day_after}
use Rattle.calendar_rules.proofs.Dates.{good, not_last_day, not_last_month, not_last_year, last_day}
use Rattle.calendar.proofs.date.next_day.Goals as goal

pub returns-in_err-check : goal.returns-in_err-check
unfolding next_day
returns-in_err-check c = passed_on _ _ c.from_residual.ensures.1 ∙ refused_first_by _ _ _ c.in_err-check.ensures

pub returns-then-date-month_length : goal.returns-then-date-month_length
unfolding unless next_day day_after
returns-then-date-month_length c =
    let short = rw c.month_length.ensures at c.if-date-month_length.true in
    let none = sym c.in_ok-check.ensures in
    simp (none, not_last_day _ short, lt-ltb _ _ short)

pub returns-then-date-lt12 : goal.returns-then-date-lt12
unfolding unless next_day day_after
returns-then-date-lt12 c =
    let full = rw c.month_length.ensures at c.if-date-month_length.false in
    let none = sym c.in_ok-check.ensures in
    let date = c.args.date in
    simp (none, not_last_month date c.if-date-lt12.true, le-ltb _ _ full, lt-ltb date.month 12 c.if-date-lt12.true)

pub returns-then-date-lt2079 : goal.returns-then-date-lt2079
unfolding unless next_day day_after
returns-then-date-lt2079 c =
    let full = rw c.month_length.ensures at c.if-date-month_length.false in
    let none = sym c.in_ok-check.ensures in
    let date = c.args.date in
    simp (none, not_last_year date c.if-date-lt2079.true, le-ltb _ _ full, le-ltb date.month 12 c.if-date-lt12.false)

pub returns : goal.returns
unfolding unless next_day
returns c =
    let none = sym c.in_ok-check.ensures in
    let full = rw c.month_length.ensures at c.if-date-month_length.false in
    simp (none, last_day _ (good _ none) c.if-date-lt2079.false c.if-date-lt12.false full)
