-- `calendar::date::date_of` meets its contract: each day of the calendar lies in a month of the table.
use native.Mathlib.Omega.{arith}
use borrow.Author.Tests.{le-leb, lt-leb}
use Rattle.refusals.specs.Refusals.{unless}
use Rattle.calendar_rules.specs.Calendar.{year_at, month_at, month_holding, date_at, date_of}
use Rattle.calendar_rules.proofs.Months.{month_28_to_31, holding_within, holding_from, holding_to}
use Rattle.calendar.proofs.date.date_of.Goals as goal

pub returns-then-day-ge36525 : goal.returns-then-day-ge36525
unfolding unless date_of
returns-then-day-ge36525 c = rw (le-leb 36525 _ c.if-day-ge36525.true)

pub overflow_cast-result : goal.overflow_cast-result
overflow_cast-result c =
    omega (arith, c.month_holding-month.ensures.0, holding_within c.args.day c.if-day-ge36525.false)

pub overflow_sub-result : goal.overflow_sub-result
overflow_sub-result c =
    omega (arith, c.month_holding-month.ensures.1, holding_from c.args.day c.if-day-ge36525.false)

pub overflow_cast-result-3 : goal.overflow_cast-result-3
overflow_cast-result-3 c =
    let day = c.args.day in
    let month = month_holding day in
    omega
    (arith, c.month_holding-month.ensures.1, holding_to day c.if-day-ge36525.false, (month_28_to_31 (year_at month) (month_at month)).1)

pub returns : goal.returns
unfolding unless date_of date_at
returns c =
    let found = c.month_holding-month.ensures in
    rw (lt-leb 36525 _ c.if-day-ge36525.false, ← found.0, found.1, found.0)
