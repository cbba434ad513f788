-- Document 02, b, "Second 60": the same by the fields of a record, as the code asks for it.
use Rattle.std.specs.Prelude.{Bool, cond, not, ◌&&◌, ◌≡◌, eqb}
use Rattle.calendar_rules.specs.Calendar.{month_in_range}
use Rattle.calendar_rules.specs.declared.date.Date.{Date}
use Rattle.calendar_rules.specs.declared.time.Time.{Time}
use Rattle.record_rules.specs.declared.Status.{Status}
use Rattle.record_rules.specs.Sixty.{sixty_behind59, is_months_last_day, takes_sixty}

-- marked UTC: 23:59:60 on a month's last day
unfoldable pub ends_in_utc : Date → Time → Bool
ends_in_utc date time = eqb time.hour 23 && is_months_last_day date

-- local: 00:59:60 in standard time, 01:59:60 in daylight time, on a month's first day; before the calendar's first there is no UTC month
unfoldable pub ends_in_local : Bool → Date → Time → Bool
ends_in_local daylight date time =
    eqb time.hour (cond daylight 1 0) && (eqb date.day 1 && not (eqb date.year 1980 && eqb date.month 1))

-- behind 59:59, in a month that the calendar has, at its end in UTC
unfoldable pub sixty_by_fields : Status → Date → Time → Bool
sixty_by_fields status date time =
    sixty_behind59 time && (month_in_range date.year date.month
    && cond status.utc (ends_in_utc date time) (ends_in_local status.daylight date time))

-- for every status, date and time, good or not
abbrev pub TheFieldsSayTheSame : Type 0
TheFieldsSayTheSame = (status : Status) (date : Date) (time : Time) → sixty_by_fields status date time ≡ takes_sixty status date time
