-- The day of the year and day numbers: what is counted, how far, and that the year and the day of the year say the date.
use Rattle.std.specs.Prelude.{◌≡◌, cond, ℕ, ◌+◌, ◌-◌, ◌≤◌}
use Rattle.refusals.specs.Refusals.{done}
use Rattle.calendar_rules.specs.declared.date.Date.{Date}
use Rattle.calendar_rules.specs.Literals.{date}
use Rattle.calendar_rules.specs.Calendar.{is_leap, day_number}
use Rattle.calendar_rules.specs.DayOfYear.{day_of_year}

-- the day of the year counts the days from 1 January of that year, which the calendar has too
abbrev pub TheDayOfTheYearCountsFromTheFirstOfJanuary : Type 0
TheDayOfTheYearCountsFromTheFirstOfJanuary =
    (on : Date) (day : ℕ) → day_number on ≡ done day
    → (first : ℕ) × (day_number (date on.year 1 1) ≡ done first) × (first ≤ day) × (day_of_year on ≡ done (day - first + 1))

-- how many days a year has
abbrev pub year_length : ℕ → ℕ
year_length year = cond (is_leap year) 366 365

-- the day of the year is 1 or more, and no more than the year has days
abbrev pub TheDayOfTheYearLiesInTheYear : Type 0
TheDayOfTheYearLiesInTheYear = (on : Date) (n : ℕ) → day_of_year on ≡ done n → (1 ≤ n) × (n ≤ year_length on.year)

-- 1 January is the first day of each year of the calendar, and 31 December the last
abbrev pub TheYearGoesFromJanuaryToDecember : Type 0
TheYearGoesFromJanuaryToDecember =
    (year : ℕ) → 1980 ≤ year → year ≤ 2079
    → (day_of_year (date year 1 1) ≡ done 1) × (day_of_year (date year 12 31) ≡ done (year_length year))

-- two dates of one year with the same day of the year are one date
abbrev pub TheDayOfTheYearSaysTheDate : Type 0
TheDayOfTheYearSaysTheDate =
    (a b : Date) (n : ℕ) → a.year ≡ b.year → day_of_year a ≡ done n → day_of_year b ≡ done n → a ≡ b
