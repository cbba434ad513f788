-- Document 01, "Calendar, UTC and the station clock": the calendar 1980 to 2079, by day numbers.
use Rattle.std.specs.Prelude.{Bool, cond, not, ◌&&◌, ◌||◌, List, [], ◌∷◌, ℕ, zero, suc, ◌+◌, ◌-◌, ◌*◌, ◌/◌, ◌%◌, leb, ltb, eqb}
use Rattle.refusals.specs.Refusals.{◌when◌, ◌else◌, Outcome, unless}
use Rattle.calendar_rules.specs.Ranges.{inside}
use Rattle.calendar_rules.specs.declared.date.Date.{Date}

-- Gregorian: every fourth year is a leap year; of the full hundreds, every fourth
unfoldable pub is_leap : ℕ → Bool
is_leap year = eqb (year % 4) 0 && (not (eqb (year % 100) 0) || eqb (year % 400) 0)

-- how many days a month has
unfoldable pub month_length : ℕ → ℕ → ℕ
month_length year month =
    cond (eqb month 2) (cond (is_leap year) 29 28)
    (cond (eqb month 4 || eqb month 6 || eqb month 9 || eqb month 11) 30 31)

-- "year (1980 to 2079)", month 1 to 12
unfoldable pub month_in_range : ℕ → ℕ → Bool
month_in_range year month = inside 1980 year 2079 && inside 1 month 12

-- "day, month or year out of range": the day is 1 to 31
unfoldable pub date_in_range : Date → Bool
date_in_range date = month_in_range date.year date.month && inside 1 date.day 31

-- "a day of that month"
unfoldable pub day_exists : Date → Bool
day_exists date = leb date.day (month_length date.year date.month)

unfoldable pub date_refusal : Date → ℕ
date_refusal date = 6 when not (date_in_range date) else 7 when not (day_exists date)

-- days in a month
abbrev pub days_in_month : ℕ → ℕ → Outcome ℕ
days_in_month year month = unless (6 when not (month_in_range year month)) (month_length year month)

-- months are counted from January 1980 as 0, twelve to a year
abbrev pub month_index : Date → ℕ
month_index date = 12 * (date.year - 1980) + (date.month - 1)

abbrev pub year_at : ℕ → ℕ
year_at index = 1980 + index / 12

abbrev pub month_at : ℕ → ℕ
month_at index = index % 12 + 1

-- "the day number of each month's first day": the first month begins at 0, each other where the one before it ends
unfoldable pub month_start : ℕ → ℕ
month_start zero = 0
month_start (suc index) = month_start index + month_length (year_at index) (month_at index)

-- "stands in a table of 1,200 entries": the first days of so many months, from a month and its first day on
unfoldable pub starts_from : ℕ → ℕ → ℕ → List ℕ
starts_from zero index first = []
starts_from (suc months) index first =
    first ∷ starts_from months (suc index) (first + month_length (year_at index) (month_at index))

unfoldable pub month_starts : List ℕ
month_starts = starts_from 1200 0 0

-- "day number counts from 1 January 1980 as 0"
unfoldable pub day_of : Date → ℕ
day_of date = month_start (month_index date) + (date.day - 1)

unfoldable pub day_number : Date → Outcome ℕ
day_number date = unless (date_refusal date) (day_of date)

-- the month that holds a day: the first, from index on, behind which the day does not lie
unfoldable pub seek : ℕ → ℕ → ℕ → ℕ
seek zero index day = index
seek (suc months) index day = cond (ltb day (month_start (suc index))) index (seek months (suc index) day)

unfoldable pub month_holding : ℕ → ℕ
month_holding day = seek 1199 0 day

unfoldable pub date_at : ℕ → Date
date_at day =
    record { year = year_at (month_holding day); month = month_at (month_holding day); day = day - month_start (month_holding day) + 1 }

-- the date of a day number, within the calendar's 36,525 days
unfoldable pub date_of : ℕ → Outcome Date
date_of day = unless (12 when leb 36525 day) (date_at day)

-- "1 Monday to 7 Sunday"; "1 January 1980 is a Tuesday"
abbrev pub weekday_of : ℕ → ℕ
weekday_of day = (day + 1) % 7 + 1

-- the day after: in the same month, else the first of the next month, else the first of the next year
unfoldable pub day_after : Date → Date
day_after date =
    cond (ltb date.day (month_length date.year date.month))
    (record { year = date.year; month = date.month; day = date.day + 1 })
    (cond (ltb date.month 12)
    (record { year = date.year; month = date.month + 1; day = 1 })
    (record { year = date.year + 1; month = 1; day = 1 }))

-- 31.12.2079
unfoldable pub is_last_day : Date → Bool
is_last_day date = eqb date.year 2079 && eqb date.month 12 && eqb date.day 31

unfoldable pub next_day : Date → Outcome Date
next_day date = unless (date_refusal date else 12 when is_last_day date) (day_after date)
