-- `calendar::year::day_of_year` meets its contract: the year of a date with a day number stands in the table.
use mathlib.Core.Path.{sym, ap, ◌∙◌}
use native.Mathlib.Omega.{arith}
use Rattle.refusals.specs.Refusals.{done}
use Rattle.refusals.proofs.Laws.{was_refused}
use Rattle.refusals.proofs.NumberLaws.{passed_on, refused_by}
use Rattle.calendar_rules.specs.Calendar.{day_number}
use Rattle.calendar_rules.specs.DayOfYear.{day_of_year}
use Rattle.calendar_rules.proofs.Years.{numbered, from_row, year_day_bounds, has_year_day}
use Rattle.calendar.proofs.year.day_of_year.Goals as goal

pub month_starts-starts-requires : goal.month_starts-starts-requires
month_starts-starts-requires c =
    let e = sym c.in_ok-day.ensures in
    let g = (numbered _ _ e).0 in
    (g.from_year, g.to_year)

pub overflow_sub-result : goal.overflow_sub-result
overflow_sub-result c =
    let date = c.args.date in
    let e = sym c.in_ok-day.ensures in
    (from_row date _ _ e c.month_starts-starts.ensures).0

pub overflow_cast-result-2 : goal.overflow_cast-result-2
overflow_cast-result-2 c =
    let date = c.args.date in
    let e = sym c.in_ok-day.ensures in
    omega (arith, (from_row date _ _ e c.month_starts-starts.ensures).1, (year_day_bounds date (numbered date _ e).0).1)

pub overflow_add-result : goal.overflow_add-result
overflow_add-result c = omega (arith, overflow_cast-result-2 c)

pub returns : goal.returns
returns c =
    let date = c.args.date in
    let e = sym c.in_ok-day.ensures in
    ap done (from_row date _ _ e c.month_starts-starts.ensures).1 ∙ sym (has_year_day date (numbered date _ e).0)

pub returns-in_err-day : goal.returns-in_err-day
unfolding day_number day_of_year
returns-in_err-day c =
    passed_on _ _ c.from_residual.ensures.1 ∙ refused_by _ _ (sym (was_refused _ _ _ (sym c.in_err-day.ensures)))
