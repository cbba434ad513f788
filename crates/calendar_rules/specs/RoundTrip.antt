-- Dates and day numbers, there and back: each has one of the other, and the day after is one day on.
use Rattle.std.specs.Prelude.{◌≡◌, ℕ, ◌+◌}
use Rattle.refusals.specs.Refusals.{done}
use Rattle.calendar_rules.specs.declared.date.Date.{Date}
use Rattle.calendar_rules.specs.Calendar.{day_number, date_of, next_day}

-- the date of a date's day number is that date
abbrev pub ADateComesBackFromItsDayNumber : Type 0
ADateComesBackFromItsDayNumber = (date : Date) (day : ℕ) → day_number date ≡ done day → date_of day ≡ done date

-- the day number of a day's date is that day
abbrev pub ADayNumberComesBackFromItsDate : Type 0
ADayNumberComesBackFromItsDate = (day : ℕ) (date : Date) → date_of day ≡ done date → day_number date ≡ done day

-- the day after has the next day number
abbrev pub TheNextDayHasTheNextNumber : Type 0
TheNextDayHasTheNextNumber =
    (date next : Date) (day : ℕ) → next_day date ≡ done next → day_number date ≡ done day → day_number next ≡ done (day + 1)
