-- Document 02, b, "Second 60": which seconds 60 are accepted, in the request's words.
use Rattle.std.specs.Prelude.{Bool, false, cond, ◌&&◌, ◌/◌, ◌%◌, eqb}
use Rattle.refusals.specs.Refusals.{Outcome, done, refused}
use Rattle.calendar_rules.specs.Calendar.{month_length, date_at}
use Rattle.calendar_rules.specs.TimeOfDay.{time_in_range}
use Rattle.calendar_rules.specs.declared.date.Date.{Date}
use Rattle.calendar_rules.specs.declared.time.Time.{Time}
use Rattle.record_rules.specs.declared.Status.{Status}
use Rattle.record_rules.specs.declared.season.UtcSeconds.{UtcSeconds}
use Rattle.record_rules.specs.Moment.{utc_moment}

-- "second 60"
abbrev pub is_sixty : Time → Bool
is_sixty time = eqb time.second 60

-- "with second 59"
abbrev pub at59 : Time → Time
at59 time = record { hour = time.hour; minute = time.minute; second = 59 }

-- "60 when the minute is 59": in an hour that the day has
unfoldable pub sixty_behind59 : Time → Bool
sixty_behind59 time = is_sixty time && (eqb time.minute 59 && time_in_range (at59 time))

-- a month's last day
abbrev pub is_months_last_day : Date → Bool
is_months_last_day date = eqb date.day (month_length date.year date.month)

-- "the last second of a UTC month": the last of a day that is its month's last
abbrev pub is_months_last_second : UtcSeconds → Bool
is_months_last_second utc = eqb (utc.0 % 86400) 86399 && is_months_last_day (date_at (utc.0 / 86400))

-- "where that UTC moment lies before the calendar, 60 stays refused"; so it does where the date is none
abbrev pub ends_utc_month : Outcome UtcSeconds → Bool
ends_utc_month (done utc) = is_months_last_second utc
ends_utc_month (refused number) = false

-- "60 when the minute is 59 and the same record with second 59, its weekday aside, is the last second of a UTC month"
unfoldable pub takes_sixty : Status → Date → Time → Bool
takes_sixty status date time = sixty_behind59 time && ends_utc_month (utc_moment status date (at59 time))

-- what is behind a second 60 is what is behind the 59 before it: the time that the calendar is asked about
unfoldable pub up_to59 : Time → Time
up_to59 time = cond (is_sixty time) (at59 time) time
