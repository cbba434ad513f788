-- The calendar as document 01 and the manuals print it: numbers and dates, and the statements over them.
use Rattle.std.specs.Prelude.{◌≡◌, Bool, true, false, List, [], ◌∷◌, map, ℕ, ◌+◌, ◌*◌, ◌<◌, length, take, drop}
use Rattle.refusals.specs.Refusals.{Outcome, done, refused, after}
use Rattle.calendar_rules.specs.declared.date.Date.{Date}
use Rattle.calendar_rules.specs.declared.time.Time.{Time}
use Rattle.calendar_rules.specs.Literals.{date, time}
use Rattle.calendar_rules.specs.Calendar.{days_in_month, month_starts, day_number, date_of, weekday_of, next_day}
use Rattle.calendar_rules.specs.TimeOfDay.{second_of_day, next_second}
use Rattle.calendar_rules.specs.DayOfYear.{day_of_year}

-- "the day number of each month's first day stands in a table of 1,200 entries; it begins 0, 31, 60 and its last is 36,494"
abbrev pub TheMonthStartsAreAsPrinted : Type 0
TheMonthStartsAreAsPrinted =
    (length month_starts ≡ 1200) × (take 3 month_starts ≡ 0 ∷ 31 ∷ 60 ∷ []) × (drop 1199 month_starts ≡ 36494 ∷ [])

-- a table holds: what stands on the left of each row gives what stands on its right
abbrev pub GivesTheTable : {A B : Type 0} → (A → B) → List (A × B) → Type 0
GivesTheTable answer rows = map (λ row. answer row.0) rows ≡ map (λ row. row.1) rows

-- "Gregorian": the lengths of a year's months, in a leap year and in another
abbrev pub month_lengths : List (ℕ × List (Outcome ℕ))
month_lengths =
    (1996, map done (31 ∷ 29 ∷ 31 ∷ 30 ∷ 31 ∷ 30 ∷ 31 ∷ 31 ∷ 30 ∷ 31 ∷ 30 ∷ 31 ∷ []))
    ∷ (1997, map done (31 ∷ 28 ∷ 31 ∷ 30 ∷ 31 ∷ 30 ∷ 31 ∷ 31 ∷ 30 ∷ 31 ∷ 30 ∷ 31 ∷ []))
    ∷ []

abbrev pub lengths_in : ℕ → List (Outcome ℕ)
lengths_in year = map (days_in_month year) (1 ∷ 2 ∷ 3 ∷ 4 ∷ 5 ∷ 6 ∷ 7 ∷ 8 ∷ 9 ∷ 10 ∷ 11 ∷ 12 ∷ [])

-- and so in every year of the calendar: 1980 is a leap year, and behind each leap year come three others
abbrev pub leap_year : List (Outcome ℕ)
leap_year = map done (31 ∷ 29 ∷ 31 ∷ 30 ∷ 31 ∷ 30 ∷ 31 ∷ 31 ∷ 30 ∷ 31 ∷ 30 ∷ 31 ∷ [])

abbrev pub other_year : List (Outcome ℕ)
other_year = map done (31 ∷ 28 ∷ 31 ∷ 30 ∷ 31 ∷ 30 ∷ 31 ∷ 31 ∷ 30 ∷ 31 ∷ 30 ∷ 31 ∷ [])

abbrev pub four_from : ℕ → Type 0
four_from year =
    (lengths_in year ≡ leap_year) × (lengths_in (year + 1) ≡ other_year) × (lengths_in (year + 2) ≡ other_year) × (lengths_in (year + 3) ≡ other_year)

abbrev pub TheMonthsOfEveryYear : Type 0
TheMonthsOfEveryYear = (fours : ℕ) → fours < 25 → four_from (1980 + 4 * fours)

-- "month or year (1980 to 2079) out of range"
abbrev pub no_months : List ((ℕ × ℕ) × Outcome ℕ)
no_months =
    ((1996, 0), refused 6) ∷ ((1996, 13), refused 6) ∷ ((1979, 12), refused 6) ∷ ((2080, 1), refused 6) ∷ []

-- dates, each with its weekday, 1 Monday to 7 Sunday, or the number that refuses it
abbrev pub weekdays : List (Date × Outcome ℕ)
weekdays =
    -- "1 January 1980 is a Tuesday"
    (date 1980 1 1, done 2)
    -- P1, P7, and "003 prints 23.09.96 as a Sunday. It was a Monday."
    ∷ (date 1996 4 17, done 3)
    ∷ (date 2000 2 29, done 2)
    ∷ (date 1996 9 23, done 1)
    -- the last day
    ∷ (date 2079 12 31, done 7)
    -- "day, month or year (1980 to 2079) out of range"
    ∷ (date 1979 12 31, refused 6)
    ∷ (date 2080 1 1, refused 6)
    ∷ (date 1996 0 1, refused 6)
    ∷ (date 1996 13 1, refused 6)
    ∷ (date 1996 4 0, refused 6)
    ∷ (date 1996 4 32, refused 6)
    -- P6, and "no such day in that month"
    ∷ (date 1997 2 29, refused 7)
    ∷ (date 1996 4 31, refused 7)
    ∷ []

abbrev pub weekday_on : Date → Outcome ℕ
weekday_on date = after (day_number date) (λ day. done (weekday_of day))

-- "day number counts from 1 January 1980 as 0"
abbrev pub day_numbers : List (Date × Outcome ℕ)
day_numbers = (date 1980 1 1, done 0) ∷ (date 2079 12 31, done 36524) ∷ []

-- the dates of day numbers: outside the calendar 12
abbrev pub dates_of_days : List (ℕ × Outcome Date)
dates_of_days = (0, done (date 1980 1 1)) ∷ (36525, refused 12) ∷ []

-- the day after: at the end of a month, of a year, and of the calendar
abbrev pub days_after : List (Date × Outcome Date)
days_after =
    (date 1996 2 28, done (date 1996 2 29))
    ∷ (date 1996 2 29, done (date 1996 3 1))
    ∷ (date 1999 12 31, done (date 2000 1 1))
    ∷ (date 2079 12 31, refused 12)
    ∷ []

-- "hour 0 to 23, minute 0 to 59, second 0 to 59": times, each with the second of its day, or 6
abbrev pub seconds_of_the_day : List (Time × Outcome ℕ)
seconds_of_the_day =
    (time 0 0 0, done 0)
    ∷ (time 12 34 56, done 45296)
    ∷ (time 23 59 59, done 86399)
    ∷ (time 24 0 0, refused 6)
    ∷ (time 23 60 0, refused 6)
    ∷ (time 23 59 60, refused 6)
    ∷ []

-- the next second, and whether the next day begins with it: "from 23:59:59 to 00:00:00"
abbrev pub seconds_after : List (Time × Outcome (Time × Bool))
seconds_after =
    (time 12 34 56, done (time 12 34 57, false))
    ∷ (time 12 34 59, done (time 12 35 0, false))
    ∷ (time 12 59 59, done (time 13 0 0, false))
    ∷ (time 23 59 59, done (time 0 0 0, true))
    ∷ (time 24 0 0, refused 6)
    ∷ []

abbrev pub TheCalendarIsAsPrinted : Type 0
TheCalendarIsAsPrinted =
    GivesTheTable lengths_in month_lengths
    × GivesTheTable (λ month. days_in_month month.0 month.1) no_months
    × GivesTheTable weekday_on weekdays
    × GivesTheTable day_number day_numbers
    × GivesTheTable date_of dates_of_days
    × GivesTheTable next_day days_after
    × GivesTheTable second_of_day seconds_of_the_day
    × GivesTheTable next_second seconds_after

-- "the day of year must agree with the date": dates, each with its day of the year, or the number that refuses it
abbrev pub days_of_the_year : List (Date × Outcome ℕ)
days_of_the_year =
    -- a year of 365 days: the first and the last day of each month
    (date 1997 1 1, done 1)
    ∷ (date 1997 1 31, done 31)
    ∷ (date 1997 2 1, done 32)
    ∷ (date 1997 2 28, done 59)
    ∷ (date 1997 3 1, done 60)
    ∷ (date 1997 3 31, done 90)
    ∷ (date 1997 4 1, done 91)
    ∷ (date 1997 4 30, done 120)
    ∷ (date 1997 5 1, done 121)
    ∷ (date 1997 5 31, done 151)
    ∷ (date 1997 6 1, done 152)
    ∷ (date 1997 6 30, done 181)
    ∷ (date 1997 7 1, done 182)
    ∷ (date 1997 7 31, done 212)
    ∷ (date 1997 8 1, done 213)
    ∷ (date 1997 8 31, done 243)
    ∷ (date 1997 9 1, done 244)
    ∷ (date 1997 9 30, done 273)
    ∷ (date 1997 10 1, done 274)
    ∷ (date 1997 10 31, done 304)
    ∷ (date 1997 11 1, done 305)
    ∷ (date 1997 11 30, done 334)
    ∷ (date 1997 12 1, done 335)
    ∷ (date 1997 12 31, done 365)
    -- a leap year
    ∷ (date 1996 1 1, done 1)
    ∷ (date 1996 1 31, done 31)
    ∷ (date 1996 2 1, done 32)
    ∷ (date 1996 2 29, done 60)
    ∷ (date 1996 3 1, done 61)
    ∷ (date 1996 3 31, done 91)
    ∷ (date 1996 4 1, done 92)
    ∷ (date 1996 4 30, done 121)
    ∷ (date 1996 5 1, done 122)
    ∷ (date 1996 5 31, done 152)
    ∷ (date 1996 6 1, done 153)
    ∷ (date 1996 6 30, done 182)
    ∷ (date 1996 7 1, done 183)
    ∷ (date 1996 7 31, done 213)
    ∷ (date 1996 8 1, done 214)
    ∷ (date 1996 8 31, done 244)
    ∷ (date 1996 9 1, done 245)
    ∷ (date 1996 9 30, done 274)
    ∷ (date 1996 10 1, done 275)
    ∷ (date 1996 10 31, done 305)
    ∷ (date 1996 11 1, done 306)
    ∷ (date 1996 11 30, done 335)
    ∷ (date 1996 12 1, done 336)
    ∷ (date 1996 12 31, done 366)
    -- the leap year of a full hundred, and the ends of the calendar
    ∷ (date 2000 2 29, done 60)
    ∷ (date 2000 12 31, done 366)
    ∷ (date 1980 1 1, done 1)
    ∷ (date 2079 12 31, done 365)
    -- "day, month or year (1980 to 2079) out of range"
    ∷ (date 1979 12 31, refused 6)
    ∷ (date 2080 1 1, refused 6)
    ∷ (date 1996 0 1, refused 6)
    ∷ (date 1996 13 1, refused 6)
    ∷ (date 1996 4 0, refused 6)
    ∷ (date 1996 4 32, refused 6)
    -- "no such day in that month"
    ∷ (date 1997 2 29, refused 7)
    ∷ (date 1996 4 31, refused 7)
    ∷ []

abbrev pub TheDaysOfTheYearAreAsPrinted : Type 0
TheDaysOfTheYearAreAsPrinted = GivesTheTable day_of_year days_of_the_year
