-- Document 02, a: what the fields of a reply may be, and with which number it is refused.
use Rattle.std.specs.Prelude.{Bool, false, not, ◌&&◌, ◌||◌, ℕ, leb, eqb}
use Rattle.refusals.specs.Refusals.{◌when◌, ◌else◌, Outcome, done, refused}
use Rattle.calendar_rules.specs.Ranges.{inside}
use Rattle.calendar_rules.specs.Calendar.{date_in_range, day_exists, day_of, weekday_of}
use Rattle.calendar_rules.specs.DayOfYear.{day_of_year}
use Rattle.calendar_rules.specs.TimeOfDay.{time_in_range}
use Rattle.calendar_rules.specs.declared.date.Date.{Date}
use Rattle.leitch_rules.specs.declared.Reply.{Reply}

-- "the status, one of the ten characters listed": $30-33, 41-46
unfoldable pub status_listed : ℕ → Bool
status_listed status = inside 0x30 status 0x33 || inside 0x41 status 0x46

-- "day of the week", $31-37: 1 to 7
unfoldable pub weekday_listed : ℕ → Bool
weekday_listed weekday = inside 1 weekday 7

-- the time of day, whose seconds end at 59; "a millisecond above 999 is 6"; day, month and year of the calendar
unfoldable pub all_in_range : Reply → Bool
all_in_range reply = time_in_range reply.time && (leb reply.millisecond 999 && date_in_range reply.date)

-- the weekday is the calendar's
unfoldable pub weekday_agrees : ℕ → Date → Bool
weekday_agrees weekday date = eqb (weekday_of (day_of date)) weekday

-- 5 status or weekday not listed; 6 out of range; 7 no such day; 8 weekday disagrees
unfoldable pub fields_refusal : Reply → ℕ
fields_refusal reply =
    5 when not (status_listed reply.status && weekday_listed reply.weekday)
    else 6 when not (all_in_range reply)
    else 7 when not (day_exists reply.date)
    else 8 when not (weekday_agrees reply.weekday reply.date)

-- "the day of year must agree with the date"
abbrev pub is : Outcome ℕ → ℕ → Bool
is (done day) given = eqb day given
is (refused n) given = false

unfoldable pub day_agrees : Reply → Bool
day_agrees reply = is (day_of_year reply.date) reply.day_of_year

-- "17 day of year disagrees"
unfoldable pub day_refusal : Reply → ℕ
day_refusal reply = 17 when not (day_agrees reply)
