-- The calendar is as it is printed, computed from the definitions. Assumes nothing.
use mathlib.Core.Path.{◌≡◌, refl, ap}
use mathlib.Core.Bool.{Bool, true, false, not, ◌||◌, ◌&&◌}
use native.Mathlib.Omega.{arith}
use Prim.Native.Nat.{ℕ, ◌+◌, ◌*◌, ◌/◌, ◌%◌, ◌≤◌}
use lib.Dec.{eqb}
use borrow.Author.Tests.{eq-eqb, ne_eqb, le-leb, eqb-true}
use Rattle.refusals.specs.Refusals.{unless}
use Rattle.calendar_rules.specs.Calendar.{is_leap, month_length, month_in_range, date_in_range, day_exists, date_refusal, month_start, starts_from}
use Rattle.calendar_rules.specs.Calendar.{month_starts, day_of, day_number, seek, month_holding, date_at, date_of, day_after, is_last_day, next_day}
use Rattle.calendar_rules.specs.TimeOfDay.{time_in_range, time_refusal, seconds_of, second_of_day, time_after, is_last_second, next_second}
use Rattle.calendar_rules.specs.DayOfYear.{days_of_months, year_day, day_of_year}
use Rattle.calendar_rules.specs.AsPrinted.{TheMonthStartsAreAsPrinted, TheCalendarIsAsPrinted, TheMonthsOfEveryYear, lengths_in, leap_year, other_year, TheDaysOfTheYearAreAsPrinted}

pub month_starts_as_printed : TheMonthStartsAreAsPrinted
unfolding is_leap month_length starts_from month_starts
month_starts_as_printed = (refl, refl, refl)

pub calendar_as_printed : TheCalendarIsAsPrinted
unfolding unless is_leap month_length month_in_range date_in_range day_exists date_refusal month_start day_of day_number seek month_holding
    date_at date_of day_after is_last_day next_day time_in_range time_refusal seconds_of second_of_day time_after is_last_second next_second
calendar_as_printed = (refl, refl, refl, refl, refl, refl, refl, refl)

pub days_of_the_year_as_printed : TheDaysOfTheYearAreAsPrinted
unfolding unless is_leap month_length month_in_range date_in_range day_exists date_refusal days_of_months year_day day_of_year
days_of_the_year_as_printed = refl

-- the months of a year of which it is known whether it is a leap year
of_leap : (year : ℕ) → is_leap year ≡ true → 1980 ≤ year → year ≤ 2079 → lengths_in year ≡ leap_year
unfolding unless month_length month_in_range
of_leap year leap from to = rw (le-leb 1980 year from, le-leb year 2079 to, leap)

of_other : (year : ℕ) → is_leap year ≡ false → 1980 ≤ year → year ≤ 2079 → lengths_in year ≡ other_year
unfolding unless month_length month_in_range
of_other year leap from to = rw (le-leb 1980 year from, le-leb year 2079 to, leap)

is_other : (year : ℕ) → (year % 4 ≡ 0 → ⊥) → is_leap year ≡ false
unfolding is_leap
is_other year no_four = rw (ne_eqb (year % 4) 0 no_four)

is_four : (year : ℕ) → year % 4 ≡ 0 → 1980 ≤ year → year ≤ 2079 → is_leap year ≡ true
unfolding is_leap
is_four year four from to = go (eqb (year % 100) 0) refl
  where
    go : (hundred : Bool) → eqb (year % 100) 0 ≡ hundred → (eqb (year % 4) 0 && (not hundred || eqb (year % 400) 0)) ≡ true
    go false is = rw (eq-eqb (year % 4) 0 four)
    go true is =
        let in_hundreds : year / 100 ≡ 20 = omega (arith, eqb-true (year % 100) 0 is) in
        let two_thousand : year ≡ 2000 = omega (arith, in_hundreds, eqb-true (year % 100) 0 is) in
        let at : year % 400 ≡ 0 = ap (λ y. y % 400) two_thousand in
        rw (eq-eqb (year % 4) 0 four, eq-eqb (year % 400) 0 at)

pub the_months_of_every_year : TheMonthsOfEveryYear
the_months_of_every_year n below =
    let year = 1980 + 4 * n in (
      of_leap year (is_four year (omega arith) (omega arith) (omega arith)) (omega arith) (omega arith),
      of_other (year + 1) (is_other (year + 1) (λ e. omega (arith, e))) (omega arith) (omega arith),
      of_other (year + 2) (is_other (year + 2) (λ e. omega (arith, e))) (omega arith) (omega arith),
      of_other (year + 3) (is_other (year + 3) (λ e. omega (arith, e))) (omega arith) (omega arith),
    )
