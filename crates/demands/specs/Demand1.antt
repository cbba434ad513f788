-- Demand 1. "Any bytes, any record, any reader state may be handed to any entry point. It ends, and either does the work or refuses
-- with the one number document 01 fixes for that case."
-- Each entry point promises, with no condition, to end and to answer with the definition that is named here (docs/PROMISES.md).
-- Here stands for each when it refuses (its rules, of which the lowest that holds is given), and so with which numbers.
use Rattle.std.specs.Prelude.{Bool, true, false, not, List, [], ◌∷◌, ◌++◌, map, ◌≡◌, ℕ, ◌-◌, leb, length}
use Rattle.refusals.specs.Refusals.{refused}
use Rattle.lent_buffer.specs.Endings.{ending_answer}
use Rattle.lent_buffer.specs.Endings as ending
use Rattle.lent_buffer.specs.Laying.{laid}
use Rattle.calendar_rules.specs.Calendar.{month_in_range, is_last_day, days_in_month, day_number, date_of, next_day}
use Rattle.calendar_rules.specs.TimeOfDay.{time_in_range, second_of_day, next_second}
use Rattle.calendar_rules.specs.declared.date.Date.{Date}
use Rattle.calendar_rules.specs.declared.time.Time.{Time}
use Rattle.record_rules.specs.declared.Record.{Record}
use Rattle.record_rules.specs.declared.season.LocalSeconds.{LocalSeconds}
use Rattle.record_rules.specs.Season.{to_utc}
use Rattle.record_rules.specs.Rule.{refusal_of}
use Rattle.record_rules.specs.Next.{next_second_of}
use Rattle.record_rules.specs.Utc.{count_of, utc_seconds}
use Rattle.trailer_rules.specs.declared.Order.{Order}
use Rattle.telegram_rules.specs.declared.write.Choice.{Choice}
use Rattle.telegram_rules.specs.Reading.{read_in}
use Rattle.telegram.specs.SeveralTelegrams.{Several, several_after}
use Rattle.telegram_rules.specs.Writing.{telegram_for, written}
use Rattle.line.specs.declared.Reader.{Reader}
use Rattle.line_rules.specs.Hearing.{Refused}
use Rattle.line.specs.Readers.{well_formed, AsDeclared, feed_reader, end_reader}
use Rattle.line.specs.Pieces.{passing}
use Rattle.line.specs.Pieces as pieces
use Rattle.clock.specs.declared.Clock.{Clock}
use Rattle.clock.specs.Stepping.{step_of}
use Rattle.board_rules.specs.declared.of_6036.Parameter.{Parameter}
use Rattle.board_rules.specs.declared.of_6038.Parameter.{Parameter as Parameter6038}
use Rattle.board_rules.specs.Of6036.{offered, byte_for}
use Rattle.board_rules.specs.Of6038 as of_6038
use Rattle.board_rules.specs.RoundTrip6038.{is_off_on}
use Rattle.places_rules.specs.Places.{Place, found_in}
use Rattle.layouts_rules.specs.Layouts.{layout_of}
use Rattle.demands.specs.Lengths.{seven_layouts, length_of}
use Rattle.demands.specs.Numbers.{◌given_when◌, lowest, among, ◌refused_by◌, ◌done_or◌, ◌none_or◌, ◌silent_or◌, EachSilentOr}
use Rattle.demands.specs.Rules.{place_rules, date_rules, record_rules, reading_rules, next_second_rules, writing_rules, count_rules, shift_rules, utc_rules, step_rules}

-- one telegram read, in either order: 1 to 8
abbrev pub ReadingRefuses : Type 0
ReadingRefuses =
    (order : Order) (control : Bool) (bytes : List ℕ)
    → (read_in order control bytes refused_by reading_rules order control bytes) × (read_in order control bytes done_or 1 ∷ 2 ∷ 3 ∷ 4 ∷ 5 ∷ 6 ∷ 7 ∷ 8 ∷ [])

-- the layout of a body: 1
abbrev pub TheLayoutRefuses : Type 0
TheLayoutRefuses =
    (body : List ℕ) → layout_of body refused_by 1 given_when not (among (map (length_of false) seven_layouts) (length body)) ∷ []

-- the places of any row, seen in any bytes: 3, 4 and 5
abbrev pub ScanningRefuses : Type 0
ScanningRefuses =
    (row : List Place) (bytes : List ℕ)
    → ((found_in row bytes).fault ≡ lowest (place_rules row bytes)) × ((found_in row bytes).fault none_or 3 ∷ 4 ∷ 5 ∷ [])

-- one telegram written, with any setting or none, into a buffer of any length: 5 to 8, 12, 13, 14
abbrev pub WritingRefuses : Type 0
WritingRefuses =
    (choice : Choice) (rec : Record) (room : ℕ)
    → (written choice rec room refused_by writing_rules choice rec room) × (written choice rec room done_or 5 ∷ 6 ∷ 7 ∷ 8 ∷ 12 ∷ 13 ∷ 14 ∷ [])

-- one telegram more behind others, into the room after the last: the same; "the first refusal ends it"
abbrev pub WritingOneMoreRefuses : Type 0
WritingOneMoreRefuses =
    (choice : Choice) (several : Several) (rec : Record) (buffer : List ℕ) → several.ending ≡ ending.Whole
    → (ending_answer (several_after choice several (rec ∷ []) buffer).0.ending refused_by writing_rules choice rec (length buffer - several.used))
    × (ending_answer (several_after choice several (rec ∷ []) buffer).0.ending done_or 5 ∷ 6 ∷ 7 ∷ 8 ∷ 12 ∷ 13 ∷ 14 ∷ [])

abbrev pub TheFirstRefusalEndsIt : Type 0
TheFirstRefusalEndsIt =
    (choice : Choice) (several : Several) (rec : Record) (buffer : List ℕ) (n : ℕ) → several.ending ≡ ending.Refused n
    → several_after choice several (rec ∷ []) buffer ≡ (several, buffer)

-- the rule for a record: 5 to 8
abbrev pub TheRuleRefuses : Type 0
TheRuleRefuses = (rec : Record) → (refusal_of rec ≡ lowest (record_rules rec)) × (refusal_of rec none_or 5 ∷ 6 ∷ 7 ∷ 8 ∷ [])

-- a record's next second: 5 to 8, 12
abbrev pub TheNextSecondRefuses : Type 0
TheNextSecondRefuses =
    (rec : Record) → (next_second_of rec refused_by next_second_rules rec) × (next_second_of rec done_or 5 ∷ 6 ∷ 7 ∷ 8 ∷ 12 ∷ [])

-- the count of a record's seconds: 5 to 8, 12, 14
abbrev pub CountingRefuses : Type 0
CountingRefuses = (rec : Record) → (count_of rec refused_by count_rules rec) × (count_of rec done_or 5 ∷ 6 ∷ 7 ∷ 8 ∷ 12 ∷ 14 ∷ [])

-- the season shift of any local second: 12
abbrev pub TheSeasonShiftRefuses : Type 0
TheSeasonShiftRefuses = (local : LocalSeconds) (daylight : Bool) → to_utc local daylight refused_by shift_rules local daylight

-- a record's UTC seconds: 5 to 8, 12, 14
abbrev pub UtcSecondsRefuse : Type 0
UtcSecondsRefuse = (rec : Record) → (utc_seconds rec refused_by utc_rules rec) × (utc_seconds rec done_or 5 ∷ 6 ∷ 7 ∷ 8 ∷ 12 ∷ 14 ∷ [])

-- a step of the station clock: 5 to 8, 12, 14
abbrev pub TheStepRefuses : Type 0
TheStepRefuses =
    (clock : Clock)
    → ((step_of clock).answer refused_by step_rules clock.rec)
    × ((step_of clock).answer done_or 5 ∷ 6 ∷ 7 ∷ 8 ∷ 12 ∷ 14 ∷ [])

-- what a line gives: 1 to 10 but for 2, as STX and ETX always stand there
abbrev pub on_the_line : List ℕ
on_the_line = 1 ∷ 3 ∷ 4 ∷ 5 ∷ 6 ∷ 7 ∷ 8 ∷ 9 ∷ 10 ∷ []

-- a piece fed to the line, in a well-formed state: nothing, a record, or one of those
abbrev pub FeedingRefuses : Type 0
FeedingRefuses =
    (reader : Reader) (piece : List ℕ) → well_formed reader ≡ true
    → (feed_reader reader piece).heard silent_or on_the_line

-- a piece used up, with room for any number of events: the same for each event, and no call is refused
abbrev pub UsingUpRefuses : Type 0
UsingUpRefuses =
    (reader : Reader) (piece : List ℕ) (room : ℕ) → AsDeclared reader → well_formed reader ≡ true
    → ((passing room reader piece).refusal ≡ 0)
    × EachSilentOr (passing room reader piece).events on_the_line

-- the end of the line: nothing, or 11
abbrev pub TheEndRefuses : Type 0
TheEndRefuses = (reader : Reader) → well_formed reader ≡ true → (end_reader reader).heard silent_or 11 ∷ []

-- the 6036 parameter byte: every byte is read; a setting that the board does not offer is 16
abbrev pub TheParameterByteRefuses : Type 0
TheParameterByteRefuses = (setting : Parameter) → byte_for setting refused_by 16 given_when not (offered setting) ∷ []

-- document 02, f, the 6038's: "16 for off/on when read", and for a setting that the board does not offer
abbrev pub TheParameterByteOfA6038Refuses : Type 0
TheParameterByteOfA6038Refuses =
    (byte : ℕ) (setting : Parameter6038)
    → (of_6038.parameter_in byte refused_by 16 given_when is_off_on byte ∷ [])
    × (of_6038.byte_for setting refused_by 16 given_when not (of_6038.offered setting) ∷ [])

-- the calendar: a date's day number 6, 7; the date of a day number 12; the day after 6, 7, 12; the length of a month 6; the second of
-- the day 6; the next second of the day 6
abbrev pub TheCalendarRefuses : Type 0
TheCalendarRefuses =
    (date : Date) (time : Time) (day year month : ℕ)
    → (day_number date refused_by date_rules date)
    × (date_of day refused_by 12 given_when leb 36525 day ∷ [])
    × (next_day date refused_by date_rules date ++ 12 given_when is_last_day date ∷ [])
    × (days_in_month year month refused_by 6 given_when not (month_in_range year month) ∷ [])
    × (second_of_day time refused_by 6 given_when not (time_in_range time) ∷ [])
    × (next_second time refused_by 6 given_when not (time_in_range time) ∷ [])

-- "A refused telegram changes no byte of the buffer;"
abbrev pub ARefusedTelegramChangesNoByte : Type 0
ARefusedTelegramChangesNoByte =
    (choice : Choice) (rec : Record) (buffer : List ℕ) (n : ℕ) → (laid (telegram_for choice rec) buffer).0 ≡ refused n
    → (laid (telegram_for choice rec) buffer).1 ≡ buffer

-- nor among several, where the earlier ones stay as they are
abbrev pub ARefusedOneMoreChangesNoByte : Type 0
ARefusedOneMoreChangesNoByte =
    (choice : Choice) (several : Several) (rec : Record) (buffer : List ℕ) (n : ℕ) → (several_after choice several (rec ∷ []) buffer).0.ending ≡ ending.Refused n
    → (several_after choice several (rec ∷ []) buffer).1 ≡ buffer

-- "a refused state .. comes back unchanged": with 15, and "takes no byte, gives no event and nothing else"
abbrev pub ARefusedStateComesBackUnchanged : Type 0
ARefusedStateComesBackUnchanged =
    (reader : Reader) (piece : List ℕ) → well_formed reader ≡ false
    → (feed_reader reader piece ≡ record { reader = reader; taken = 0; heard = Refused 15 })
    × (end_reader reader ≡ record { reader = reader; heard = Refused 15 })
    × (passing pieces.room reader piece ≡ record { events = []; taken = 0; reader = reader; refusal = 15 })

-- "a refused .. clock comes back unchanged"
abbrev pub ARefusedClockComesBackUnchanged : Type 0
ARefusedClockComesBackUnchanged =
    (clock : Clock) (n : ℕ) → (step_of clock).answer ≡ refused n → (step_of clock).clock ≡ clock
