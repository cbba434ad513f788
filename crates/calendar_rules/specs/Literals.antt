-- A date and a time of day in numbers, for the tables as they are printed.
use Rattle.std.specs.Prelude.{ℕ}
use Rattle.calendar_rules.specs.declared.date.Date.{Date}
use Rattle.calendar_rules.specs.declared.time.Time.{Time}

abbrev pub date : ℕ → ℕ → ℕ → Date
date year month day = record { year = year; month = month; day = day }

abbrev pub time : ℕ → ℕ → ℕ → Time
time hour minute second = record { hour = hour; minute = minute; second = second }
