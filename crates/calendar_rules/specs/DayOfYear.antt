-- Document 02, a: "the day of year must agree with the date": 1 January is day 1, and 31 December is 365 or, in a leap year, 366.
use Rattle.std.specs.Prelude.{ℕ, zero, suc, ◌+◌, ◌-◌}
use Rattle.refusals.specs.Refusals.{Outcome, unless}
use Rattle.calendar_rules.specs.Calendar.{month_length, date_refusal}
use Rattle.calendar_rules.specs.declared.date.Date.{Date}

-- the days of a year's first so many months
unfoldable pub days_of_months : ℕ → ℕ → ℕ
days_of_months year zero = 0
days_of_months year (suc months) = days_of_months year months + month_length year (suc months)

-- the day of the year: the days of the months before, and the day of the month
unfoldable pub year_day : Date → ℕ
year_day date = days_of_months date.year (date.month - 1) + date.day

-- of a date that the calendar has; 6 and 7 as for a day number
unfoldable pub day_of_year : Date → Outcome ℕ
day_of_year date = unless (date_refusal date) (year_day date)
