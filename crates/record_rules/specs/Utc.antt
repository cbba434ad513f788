-- Document 01, "Calendar, UTC and the station clock", and document 02, b: the count of a record's seconds, and its UTC seconds.
use Rattle.std.specs.Prelude.{Bool, cond, ◌&&◌}
use Rattle.refusals.specs.Refusals.{◌else◌, Outcome, refused, unless, after}
use Rattle.record_rules.specs.declared.Record.{Record}
use Rattle.record_rules.specs.declared.Record.TheVariants.{Dated, TimeOnly}
use Rattle.record_rules.specs.declared.season.UtcSeconds.{UtcSeconds}
use Rattle.record_rules.specs.declared.season.Count.{Count}
use Rattle.record_rules.specs.Moment.{moment_of, in_utc}
use Rattle.record_rules.specs.Rule.{is60, refusal_of}
use Rattle.record_rules.specs.Next.{is_last_of_calendar, next_second_of}

-- the record whose number a record has: "a second 60 has the number of the second that follows it, 12 if there is none", any other its own
unfoldable pub numbered_as : Record → Outcome Record
numbered_as rec = cond (is60 rec) (next_second_of rec) (unless (refusal_of rec) rec)

-- a second 60 with none behind it, which has no number
abbrev pub none_follows : Record → Bool
none_follows rec = is60 rec && is_last_of_calendar rec

-- the seconds of a record's date and time; 14 where the layout carries no date
abbrev pub own_seconds : Record → Outcome Count
own_seconds (Dated layout status weekday date time) = moment_of status.utc date time
own_seconds (TimeOnly layout time) = refused 14

-- local or UTC seconds as the record is marked; 5 to 8, then 12 and 14
abbrev pub count_of : Record → Outcome Count
count_of rec = after (numbered_as rec) own_seconds

-- 5 to 8, then 12 and 14
abbrev pub utc_seconds : Record → Outcome UtcSeconds
utc_seconds (Dated layout status weekday date time) =
    after (count_of (Dated layout status weekday date time)) (λ counted. in_utc status.daylight counted)
utc_seconds (TimeOnly layout time) = refused (refusal_of (TimeOnly layout time) else 14)
