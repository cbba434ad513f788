-- Document 01, "Refusal numbers" and "Calendar, UTC and the station clock", and document 02, b: the next second of a record.
use Rattle.std.specs.Prelude.{Bool, false, cond, ◌&&◌, ℕ, ◌+◌, ◌%◌}
use Rattle.refusals.specs.Refusals.{◌when◌, ◌else◌, Outcome, unless}
use Rattle.calendar_rules.specs.Calendar.{is_last_day, day_after}
use Rattle.calendar_rules.specs.TimeOfDay.{is_last_second, time_after}
use Rattle.record_rules.specs.declared.Record.{Record}
use Rattle.record_rules.specs.declared.Record.TheVariants.{Dated, TimeOnly}
use Rattle.record_rules.specs.Sixty.{up_to59}
use Rattle.record_rules.specs.Rule.{refusal_of}

-- behind Sunday comes Monday
abbrev pub weekday_after : ℕ → ℕ
weekday_after weekday = weekday % 7 + 1

-- "the next second, date and weekday included"; "time-only layouts go from 23:59:59 to 00:00:00"; "from 60 to 00"
abbrev pub record_after : Record → Record
record_after (Dated layout status weekday date time) =
    cond (is_last_second (up_to59 time))
    (Dated layout status (weekday_after weekday) (day_after date) (time_after (up_to59 time)))
    (Dated layout status weekday date (time_after (up_to59 time)))
record_after (TimeOnly layout time) = TimeOnly layout (time_after (up_to59 time))

-- 31.12.2079 23:59:59, or 23:59:60
abbrev pub is_last_of_calendar : Record → Bool
is_last_of_calendar (Dated layout status weekday date time) = is_last_second (up_to59 time) && is_last_day date
is_last_of_calendar (TimeOnly layout time) = false

-- "12 after 31.12.2079 23:59:59", and after 23:59:60 too
unfoldable pub next_second_of : Record → Outcome Record
next_second_of rec = unless (refusal_of rec else 12 when is_last_of_calendar rec) (record_after rec)
