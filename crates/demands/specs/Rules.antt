-- Document 01, "Refusal numbers", and document 02, b, e and f: for each entry point its rows of the table, "given exactly when", in the order of their numbers.
use Rattle.std.specs.Prelude.{Bool, false, not, ◌&&◌, ◌||◌, List, [], ◌∷◌, ◌++◌, map, ℕ, ◌+◌, ◌*◌, ltb, length}
use Rattle.refusals.specs.Refusals.{Outcome, done, refused}
use Rattle.places_rules.specs.Places.{Place, fixed_holds, decimal_holds, code_holds, every}
use Rattle.calendar_rules.specs.Ranges.{inside}
use Rattle.calendar_rules.specs.Calendar.{date_in_range, day_exists, day_of}
use Rattle.calendar_rules.specs.TimeOfDay.{time_in_range, seconds_of}
use Rattle.calendar_rules.specs.declared.date.Date.{Date}
use Rattle.record_rules.specs.declared.Record.{Record}
use Rattle.record_rules.specs.declared.Record.TheVariants.{Dated, TimeOnly}
use Rattle.record_rules.specs.declared.season.LocalSeconds.{LocalSeconds}
use Rattle.record_rules.specs.Season.{season_shift}
use Rattle.record_rules.specs.Sixty.{sixty_behind59, takes_sixty}
use Rattle.record_rules.specs.Rule.{status_allowed, weekday_allowed, weekday_agrees, carries_date}
use Rattle.record_rules.specs.Next.{is_last_of_calendar}
use Rattle.record_rules.specs.Utc.{none_follows}
use Rattle.layouts_rules.specs.declared.Layout.{Layout}
use Rattle.layouts_rules.specs.Layouts.{places_of, own_layout, layout_of}
use Rattle.trailer_rules.specs.declared.Order.{Order}
use Rattle.telegram_rules.specs.declared.write.Setting.{Setting}
use Rattle.telegram_rules.specs.declared.write.Choice.{Choice}
use Rattle.telegram_rules.specs.declared.write.Choice.TheVariants.{Named, NamedIn, Unnamed}
use Rattle.telegram_rules.specs.Reading.{body_in, framed, carried}
use Rattle.demands.specs.Lengths.{seven_layouts, length_of}
use Rattle.demands.specs.Numbers.{Rule, ◌given_when◌, among}

-- a date: 6 "day, month or year out of range", 7 "no such day in that month"
abbrev pub date_rules : Date → List Rule
date_rules date = 6 given_when not (date_in_range date) ∷ 7 given_when not (day_exists date) ∷ []

-- a record: 5 "status or weekday not one the layout allows", 6 "out of range", 7 "no such day in that month", 8 "weekday disagrees
-- with the date"; "a time-only record is checked for its time alone". A second 60 is in range at the end of a UTC month, and alone in minute 59
abbrev pub record_rules : Record → List Rule
record_rules (Dated layout status weekday date time) =
    5 given_when not (status_allowed layout status && weekday_allowed weekday)
    ∷ 6 given_when not ((time_in_range time || takes_sixty status date time) && date_in_range date)
    ∷ 7 given_when not (day_exists date)
    ∷ 8 given_when not (weekday_agrees weekday date)
    ∷ []
record_rules (TimeOnly layout time) = 6 given_when not (time_in_range time || sixty_behind59 time) ∷ []

-- the places of a row: 3 "a space, CR or LF of the layout isn't in its place", 4 "a decimal place holds no 0 to 9", 5 a status or
-- weekday character that is none
abbrev pub place_rules : List Place → List ℕ → List Rule
place_rules row bytes =
    3 given_when not (every fixed_holds row bytes)
    ∷ 4 given_when not (every decimal_holds row bytes)
    ∷ 5 given_when not (every code_holds row bytes)
    ∷ []

-- reading, once the layout is found: 2 "control characters wanted, first isn't STX or last isn't ETX", 3 "a space, CR or LF of the
-- layout isn't in its place", 4 "a decimal place holds no 0 to 9", 5 a status or weekday character that is none, then the record's; all
-- but 1 and 2 of the body with its trailer as printed, so that the order counts "for the trailer check and all that rests on it"
abbrev pub rules_in : Order → Bool → List ℕ → Outcome Layout → List Rule
rules_in order control bytes (done layout) =
    2 given_when (control && not (framed bytes))
    ∷ 3 given_when not (every fixed_holds (places_of layout) (body_in order control bytes))
    ∷ 4 given_when not (every decimal_holds (places_of layout) (body_in order control bytes))
    ∷ 5 given_when not (every code_holds (places_of layout) (body_in order control bytes))
    ∷ record_rules (carried layout (body_in order control bytes))
rules_in order control bytes (refused n) = []

-- reading: 1 "length isn't one in the table", then the rest
abbrev pub reading_rules : Order → Bool → List ℕ → List Rule
reading_rules order control bytes =
    1 given_when not (among (map (length_of control) seven_layouts) (length bytes)) ∷ rules_in order control bytes (layout_of (body_in order control bytes))

-- the next second: 12 "after 31.12.2079 23:59:59", and 23:59:60
abbrev pub next_second_rules : Record → List Rule
next_second_rules rec = record_rules rec ++ 12 given_when is_last_of_calendar rec ∷ []

-- writing: 13 "the lent buffer is shorter than what is to be written", in any order of the trailer. Without a named setting that is a
-- 6021 with control characters, 18 bytes, or nothing: 14 "a date is needed and the layout carries none"
abbrev pub setting_rules : Setting → Record → ℕ → List Rule
setting_rules setting rec room =
    record_rules rec
    ++ 12 given_when (setting.advance && is_last_of_calendar rec)
    ∷ 13 given_when ltb room (length_of setting.control (own_layout rec))
    ∷ []

abbrev pub writing_rules : Choice → Record → ℕ → List Rule
writing_rules (Named setting) rec room = setting_rules setting rec room
writing_rules (NamedIn setting order) rec room = setting_rules setting rec room
writing_rules Unnamed rec room =
    record_rules rec ++ 13 given_when (carries_date rec && ltb room 18) ∷ 14 given_when not (carries_date rec) ∷ []

-- the count of a record's seconds: 12 for a second 60 that none follows, 14 "a date is needed and the layout carries none"
abbrev pub count_rules : Record → List Rule
count_rules rec = record_rules rec ++ 12 given_when none_follows rec ∷ 14 given_when not (carries_date rec) ∷ []

-- the season shift: 12 "the result lies outside the calendar", whose UTC seconds are 0 to 3,155,759,999
abbrev pub shift_rules : LocalSeconds → Bool → List Rule
shift_rules local daylight = 12 given_when not (inside (season_shift daylight) local.0 (season_shift daylight + 3155759999)) ∷ []

-- UTC seconds: 12 "before 1.1.1980 00:00 UTC", where "a record marked UTC is not shifted", or as for the count; a time-only record: 14
abbrev pub is_before_utc : Record → Bool
is_before_utc (Dated layout status weekday date time) =
    not status.utc && ltb (86400 * day_of date + seconds_of time) (season_shift status.daylight)
is_before_utc (TimeOnly layout time) = false

abbrev pub utc_rules : Record → List Rule
utc_rules rec = record_rules rec ++ 12 given_when (none_follows rec || is_before_utc rec) ∷ 14 given_when not (carries_date rec) ∷ []

-- a step of the station clock: the next second's, and "a time-only record gives 14 here"
abbrev pub step_rules : Record → List Rule
step_rules rec = record_rules rec ++ 12 given_when is_last_of_calendar rec ∷ 14 given_when not (carries_date rec) ∷ []
