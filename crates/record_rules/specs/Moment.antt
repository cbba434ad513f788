-- Document 01, "Calendar, UTC and the station clock": the seconds of a date and a time of day, whatever weekday is told with them.
-- It rests on no rule of a record, so that the rule may rest on it.
use Rattle.std.specs.Prelude.{Bool, cond, ℕ, ◌+◌, ◌*◌}
use Rattle.refusals.specs.Refusals.{Outcome, done, after}
use Rattle.calendar_rules.specs.Calendar.{day_number}
use Rattle.calendar_rules.specs.TimeOfDay.{second_of_day}
use Rattle.calendar_rules.specs.declared.date.Date.{Date}
use Rattle.calendar_rules.specs.declared.time.Time.{Time}
use Rattle.record_rules.specs.declared.Status.{Status}
use Rattle.record_rules.specs.declared.season.UtcSeconds.{UtcSeconds}
use Rattle.record_rules.specs.declared.season.Count.{Count}
use Rattle.record_rules.specs.declared.season.Count.TheVariants.{Local, Utc}
use Rattle.record_rules.specs.Season.{to_utc}

-- "a count of local seconds and a count of UTC seconds are kept apart throughout": which of the two, the record's mark says
abbrev pub as_marked : Bool → ℕ → Count
as_marked utc seconds = cond utc (Utc (record { 0 = seconds })) (Local (record { 0 = seconds }))

-- only the season shift turns local seconds into UTC seconds; "a record marked UTC is not shifted"
abbrev pub in_utc : Bool → Count → Outcome UtcSeconds
in_utc daylight (Local local) = to_utc local daylight
in_utc daylight (Utc utc) = done utc

-- "86,400 times the day number plus the second of the day"; 6 and 7 where the calendar or the day has no such
unfoldable pub moment_of : Bool → Date → Time → Outcome Count
moment_of utc date time =
    after (day_number date) (λ day. after (second_of_day time) (λ second. done (as_marked utc (86400 * day + second))))

-- the same moment in UTC, by a record's own season bit and mark; 12 before the calendar
abbrev pub utc_moment : Status → Date → Time → Outcome UtcSeconds
utc_moment status date time = after (moment_of status.utc date time) (λ count. in_utc status.daylight count)
