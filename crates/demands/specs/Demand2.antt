-- Demand 2, sentence by sentence. "A record holds its layout and the fields that layout carries" and nothing else, so that equal
-- records are records equal on each field the layout carries.
use Rattle.std.specs.Prelude.{Bool, true, false, List, [], ◌∷◌, ◌++◌, map, ◌↔◌, ◌≡◌, ℕ, ◌+◌, ◌%◌, ◌≤◌, length, drop}
use Rattle.refusals.specs.Refusals.{Outcome, done}
use Rattle.lent_buffer.specs.Laying.{laid_in}
use Rattle.places_rules.specs.Places.{byte_at}
use Rattle.calendar_rules.specs.TimeOfDay.{seconds_of}
use Rattle.calendar_rules.specs.declared.time.Time.{Time}
use Rattle.record_rules.specs.declared.TimeLayout.{TimeLayout}
use Rattle.record_rules.specs.declared.Record.{Record}
use Rattle.record_rules.specs.declared.Record.TheVariants.{TimeOnly}
use Rattle.record_rules.specs.declared.season.Count.{Count}
use Rattle.record_rules.specs.Season.{seconds_later}
use Rattle.record_rules.specs.Rule.{refusal_of, is60}
use Rattle.record_rules.specs.Next.{next_second_of}
use Rattle.record_rules.specs.Utc.{count_of}
use Rattle.record_rules.specs.Following.{seconds_on}
use Rattle.layouts_rules.specs.Layouts.{places_of, own_layout}
use Rattle.layouts_rules.specs.Coding.{digits_out}
use Rattle.trailer_rules.specs.declared.Order.{Order}
use Rattle.trailer_rules.specs.declared.Order.TheVariants.{AsPrinted}
use Rattle.trailer_rules.specs.Trailer.{in_order}
use Rattle.telegram_rules.specs.declared.write.Choice.{Choice}
use Rattle.telegram_rules.specs.declared.write.Choice.TheVariants.{NamedIn, Unnamed}
use Rattle.telegram_rules.specs.Writing.{telegram_in, as6021, control_of, order_of}
use Rattle.clock.specs.Running.{NoStepMakesASixty}
use Rattle.demands.specs.Programs.{reads, writes}
use Rattle.demands.specs.Lengths.{length_of}

-- a record that no rule refuses
abbrev pub Good : Record → Type 0
Good rec = refusal_of rec ≡ 0

-- "a named setting says control characters or not and second advance or not"; document 02, f: "the trailer order .. becomes a setting
-- of the line", so that each sentence here is of both orders. A setting without one is as printed (The6038)
abbrev pub plain : Order → Bool → Choice
plain order control = NamedIn (record { control = control; advance = false }) order

abbrev pub advanced : Order → Bool → Choice
advanced order control = NamedIn (record { control = control; advance = true }) order

-- "Every telegram of the seven layouts in document 01 is read and written exactly as the makers' tables there say."
-- The table: `places_of` has a row of places for each layout. A telegram is its layout's row, each place filled by its digit,
-- between STX and ETX, its last two bytes in the line's order; without control characters both are missing.
abbrev pub row_filled : Record → List ℕ
row_filled rec = map (byte_at (digits_out rec)) (places_of (own_layout rec))

abbrev pub ATelegramIsItsRow : Type 0
ATelegramIsItsRow =
    (order : Order) (rec : Record)
    → (telegram_in order true rec ≡ 2 ∷ in_order order (row_filled rec) ++ 3 ∷ []) × (telegram_in order false rec ≡ in_order order (row_filled rec))

-- It has the table's length.
abbrev pub ATelegramHasTheTablesLength : Type 0
ATelegramHasTheTablesLength = (order : Order) (control : Bool) (rec : Record) → length (telegram_in order control rec) ≡ length_of control (own_layout rec)

-- Where there is room, a good record is written so: its telegram, and behind it the buffer as it was.
abbrev pub WritesByTheTables : (Choice → Record → ℕ → Outcome (List ℕ)) → Type 0
WritesByTheTables write =
    (order : Order) (control : Bool) (rec : Record) (buffer : List ℕ) → Good rec → length (telegram_in order control rec) ≤ length buffer
    → (write (plain order control) rec (length buffer) ≡ done (telegram_in order control rec))
    × (laid_in (write (plain order control) rec (length buffer)) buffer ≡ telegram_in order control rec ++ drop (length (telegram_in order control rec)) buffer)

abbrev pub WrittenByTheTables : Type 0
WrittenByTheTables = WritesByTheTables writes

-- Bytes are read as a record exactly where that record is good and its telegram is those bytes.
abbrev pub ReadsByTheTables : (Order → Bool → List ℕ → Outcome Record) → Type 0
ReadsByTheTables read =
    (order : Order) (control : Bool) (bytes : List ℕ) (rec : Record) → (read order control bytes ≡ done rec) ↔ (Good rec × (telegram_in order control rec ≡ bytes))

abbrev pub ReadByTheTables : Type 0
ReadByTheTables = ReadsByTheTables reads

-- "The reader accepts exactly the telegrams the writer can make."
abbrev pub Accepted : Order → Bool → List ℕ → Type 0
Accepted order control bytes = (rec : Record) × (reads order control bytes ≡ done rec)

-- of some record, in some room, with any setting or none that asks for that order and those control characters
abbrev pub CanBeMade : Order → Bool → List ℕ → Type 0
CanBeMade order control bytes =
    (choice : Choice) × (rec : Record) × (room : ℕ) × (order_of choice ≡ order) × (control_of choice ≡ control) × (writes choice rec room ≡ done bytes)

abbrev pub TheReaderAcceptsExactlyWhatTheWriterCanMake : Type 0
TheReaderAcceptsExactlyWhatTheWriterCanMake =
    (order : Order) (control : Bool) (bytes : List ℕ) → Accepted order control bytes ↔ CanBeMade order control bytes

-- "What is written reads back equal on each field the layout carries;"
abbrev pub WhatIsWrittenReadsBack : Type 0
WhatIsWrittenReadsBack =
    (order : Order) (control : Bool) (rec : Record) (room : ℕ) (bytes : List ℕ) → writes (plain order control) rec room ≡ done bytes
    → reads order control bytes ≡ done rec

-- (where no setting is named, with control characters and as printed, as a 6021 with the same fields: document 02, e)
abbrev pub WhatIsWrittenWithoutASettingReadsBack : Type 0
WhatIsWrittenWithoutASettingReadsBack =
    (rec : Record) (room : ℕ) (bytes : List ℕ) → writes Unnamed rec room ≡ done bytes → reads AsPrinted true bytes ≡ as6021 rec

-- "written with second advance, it reads back as the next second."
abbrev pub WrittenWithAdvanceItReadsBackAsTheNextSecond : Type 0
WrittenWithAdvanceItReadsBackAsTheNextSecond =
    (order : Order) (control : Bool) (rec : Record) (room : ℕ) (bytes : List ℕ) → writes (advanced order control) rec room ≡ done bytes
    → reads order control bytes ≡ next_second_of rec

-- The next second is one second later, of the calendar where there is a date, else of the day; but that of a second 60 has its number.
abbrev pub TheNextSecondIsOneLater : Type 0
TheNextSecondIsOneLater =
    (rec next : Record) (count : Count) → next_second_of rec ≡ done next → count_of rec ≡ done count
    → count_of next ≡ done (seconds_later (seconds_on rec) count)

abbrev pub TheNextSecondOfADayIsOneLater : Type 0
TheNextSecondOfADayIsOneLater =
    (layout : TimeLayout) (time : Time) → Good (TimeOnly layout time)
    → (next : Time) × (next_second_of (TimeOnly layout time) ≡ done (TimeOnly layout next)) × (seconds_of next ≡ (seconds_of time + seconds_on (TimeOnly layout time)) % 86400)

-- Document 02, b: "neither makes a 60 by itself"
abbrev pub NoAdvanceMakesASixty : Type 0
NoAdvanceMakesASixty =
    (order : Order) (control : Bool) (rec same : Record) (room : ℕ) (bytes : List ℕ) → writes (advanced order control) rec room ≡ done bytes
    → reads order control bytes ≡ done same → is60 same ≡ false

abbrev pub NeitherMakesASixty : Type 0
NeitherMakesASixty = NoAdvanceMakesASixty × NoStepMakesASixty
