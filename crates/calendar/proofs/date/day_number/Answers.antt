-- `calendar::date::day_number` meets its contract: a good date's month stands in the table.
use mathlib.Core.Path.{sym, ◌∙◌}
use native.Mathlib.Omega.{arith}
use Rattle.refusals.specs.Refusals.{unless}
use Rattle.refusals.proofs.NumberLaws.{passed_on, refused_by}
use Rattle.calendar_rules.specs.Calendar.{day_number, day_of, month_index}
use Rattle.calendar_rules.proofs.Months.{start_bound}
use Rattle.calendar_rules.proofs.Dates.{good, index_within, entry_of}
use Rattle.calendar.proofs.date.day_number.Goals as goal

pub returns-in_err-check : goal.returns-in_err-check
unfolding day_number
returns-in_err-check c = passed_on _ _ c.from_residual.ensures.1 ∙ refused_by _ _ c.in_err-check.ensures

pub month_starts-starts-requires : goal.month_starts-starts-requires
month_starts-starts-requires c =
    let g = good c.args.date (sym c.in_ok-check.ensures) in
    (g.from_year, g.to_year)

pub overflow_sub-first : goal.overflow_sub-first
overflow_sub-first c =
    (good c.args.date (sym c.in_ok-check.ensures)).from_month

pub bounds-starts-date : goal.bounds-starts-date
bounds-starts-date c =
    omega (arith, good c.args.date (sym c.in_ok-check.ensures))

pub overflow_sub-result : goal.overflow_sub-result
overflow_sub-result c =
    (good c.args.date (sym c.in_ok-check.ensures)).from_day

-- the table's entry for the date's month, where the date is good
pub overflow_add-result : goal.overflow_add-result
overflow_add-result c =
    let date = c.args.date in
    let g = good date (sym c.in_ok-check.ensures) in
    rw (entry_of date g _ c.month_starts-starts.ensures)
    (omega (arith, start_bound (month_index date), index_within date g))

pub returns : goal.returns
unfolding unless day_number day_of
returns c =
    let date = c.args.date in
    let none = sym c.in_ok-check.ensures in
    rw (none, entry_of date (good date none) _ c.month_starts-starts.ensures)
