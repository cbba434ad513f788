-- Document 01, "The seven layouts", and document 02, b: what the fields of a record may be, and the one rule that refuses a record.
use Rattle.std.specs.Prelude.{Bool, true, false, not, ◌&&◌, ◌||◌, ℕ, eqb}
use Rattle.refusals.specs.Refusals.{◌when◌, ◌else◌}
use Rattle.calendar_rules.specs.Ranges.{inside}
use Rattle.calendar_rules.specs.Calendar.{date_in_range, day_exists, day_of, weekday_of}
use Rattle.calendar_rules.specs.TimeOfDay.{time_in_range}
use Rattle.calendar_rules.specs.declared.date.Date.{Date}
use Rattle.calendar_rules.specs.declared.time.Time.{Time}
use Rattle.record_rules.specs.declared.DatedLayout.{DatedLayout}
use Rattle.record_rules.specs.declared.DatedLayout.TheVariants.{L6021, L2000, L5500, L5050}
use Rattle.record_rules.specs.declared.Reception.{Reception}
use Rattle.record_rules.specs.declared.Reception.TheVariants.{Invalid, Crystal, Radio, High}
use Rattle.record_rules.specs.declared.Status.{Status}
use Rattle.record_rules.specs.declared.Record.{Record}
use Rattle.record_rules.specs.declared.Record.TheVariants.{Dated, TimeOnly}
use Rattle.record_rules.specs.Sixty.{is_sixty, sixty_behind59, takes_sixty}

-- "b0 crystal, else radio": the status of 5500 and 5050 knows no other reception
abbrev pub crystal_or_radio : Reception → Bool
crystal_or_radio Invalid = false
crystal_or_radio Crystal = true
crystal_or_radio Radio = true
crystal_or_radio High = false

-- "b3 UTC, and then b2 and b1 must be 0": with UTC neither summer nor an announcement
unfoldable pub plain_utc : Status → Bool
plain_utc status = not status.utc || not (status.daylight || status.announced)

-- what the status table of 5500 and 5050 can say
unfoldable pub table_can_say : Status → Bool
table_can_say status = crystal_or_radio status.reception && plain_utc status

-- 6021 and 2000 have one status table, 5500 and 5050 the other
abbrev pub table_of6021 : DatedLayout → Bool
table_of6021 L6021 = true
table_of6021 L2000 = true
table_of6021 L5500 = false
table_of6021 L5050 = false

-- "all sixteen are legal" in 6021 and 2000
unfoldable pub status_allowed : DatedLayout → Status → Bool
status_allowed layout status = table_of6021 layout || table_can_say status

-- "weekday is 1 to 7"
unfoldable pub weekday_allowed : ℕ → Bool
weekday_allowed weekday = inside 1 weekday 7

-- "weekday equal to the calendar's"
unfoldable pub weekday_agrees : ℕ → Date → Bool
weekday_agrees weekday date = eqb (weekday_of (day_of date)) weekday

-- "second 0 to 59", and 60 at the end of a UTC month
unfoldable pub time_allowed : Status → Date → Time → Bool
time_allowed status date time = time_in_range time || takes_sixty status date time

-- "in time-only layouts when the minute is 59"
unfoldable pub time_alone_allowed : Time → Bool
time_alone_allowed time = time_in_range time || sixty_behind59 time

-- 5 status or weekday not allowed; 6 out of range; 7 no such day; 8 weekday disagrees
unfoldable pub dated_refusal : DatedLayout → Status → ℕ → Date → Time → ℕ
dated_refusal layout status weekday date time =
    5 when not (status_allowed layout status && weekday_allowed weekday)
    else 6 when not (time_allowed status date time && date_in_range date)
    else 7 when not (day_exists date)
    else 8 when not (weekday_agrees weekday date)

-- "a time-only record is checked for its time alone"
unfoldable pub time_alone_refusal : Time → ℕ
time_alone_refusal time = 6 when not (time_alone_allowed time)

abbrev pub refusal_of : Record → ℕ
refusal_of (Dated layout status weekday date time) = dated_refusal layout status weekday date time
refusal_of (TimeOnly layout time) = time_alone_refusal time

-- "a date is needed and the layout carries none": whether it carries one
abbrev pub carries_date : Record → Bool
carries_date (Dated layout status weekday date time) = true
carries_date (TimeOnly layout time) = false

-- whether its second is 60
abbrev pub is60 : Record → Bool
is60 (Dated layout status weekday date time) = is_sixty time
is60 (TimeOnly layout time) = is_sixty time
