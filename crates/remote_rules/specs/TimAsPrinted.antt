-- Source document 003, 7.1.1 to 7.1.5, as it is printed: TIM with its 20 characters of data, and TIM that asks. Over every input: what is
-- read as a TIM, and what is written for one.
use Rattle.std.specs.Prelude.{List, [], ◌∷◌, ◌++◌, ◌↔◌, ◌≡◌, ℕ, ◌+◌, ◌/◌, ◌%◌, ◌≤◌, take, drop, get_or}
use Rattle.refusals.specs.Refusals.{done}
use Rattle.ascii.specs.Ascii.{ascii}
use Rattle.calendar_rules.specs.Calendar.{month_length, day_of, weekday_of}
use Rattle.remote_rules.specs.declared.Moment.{Moment}
use Rattle.remote_rules.specs.declared.Command.TheVariants.{Tim, TimAsked}
use Rattle.remote_rules.specs.Reading.{command_of}
use Rattle.remote_rules.specs.Writing.{written}
use Rattle.remote_rules.specs.WordsAsPrinted.{data_string, TableLine, line, ◌to◌, one, unit, tens, always, field_by, EachListed}

-- "The status byte consists of two ASCII nibbles. The value range of each nibble can be from Hex 30 to 39 and Hex 41- 46 (00-FF)"
abbrev pub nibble : ℕ → ℕ
nibble value = get_or (ascii "0123456789ABCDEF") value 0

abbrev pub nibble_values : List (ℕ × ℕ)
nibble_values = 0x30 to 0x39 ∷ 0x41 to 0x46 ∷ []

-- "4" and "2" is Bit 6 and Bit 1: the first nibble is the high one
abbrev pub status_table : List (TableLine ℕ)
status_table = line 1 (λ status. nibble (status / 16)) nibble_values ∷ line 2 (λ status. nibble (status % 16)) nibble_values ∷ []

-- The words of the table.
abbrev pub hour : Moment → ℕ
hour moment = moment.time.hour

abbrev pub minute : Moment → ℕ
minute moment = moment.time.minute

abbrev pub second : Moment → ℕ
second moment = moment.time.second

abbrev pub day : Moment → ℕ
day moment = moment.date.day

abbrev pub month : Moment → ℕ
month moment = moment.date.month

abbrev pub year : Moment → ℕ
year moment = moment.date.year

-- "1 = Monday, 7 = Sunday"
abbrev pub day_of_the_week : Moment → ℕ
day_of_the_week moment = 0x30 + moment.weekday

-- "Structure of the data field in the string"
abbrev pub tim_table : List (TableLine Moment)
tim_table =
    line 1 (always 0x2C) (one 0x2C)
    ∷ line 2 (tens hour) (0x30 to 0x32 ∷ [])
    ∷ line 3 (unit hour) (0x30 to 0x39 ∷ [])
    ∷ line 4 (always 0x2C) (one 0x2C)
    ∷ line 5 (tens minute) (0x30 to 0x35 ∷ [])
    ∷ line 6 (unit minute) (0x30 to 0x39 ∷ [])
    ∷ line 7 (always 0x2C) (one 0x2C)
    ∷ line 8 (tens second) (0x30 to 0x35 ∷ [])
    ∷ line 9 (unit second) (0x30 to 0x39 ∷ [])
    ∷ line 10 (always 0x2C) (one 0x2C)
    ∷ line 11 (tens day) (0x30 to 0x33 ∷ [])
    ∷ line 12 (unit day) (0x30 to 0x39 ∷ [])
    ∷ line 13 (always 0x2C) (one 0x2C)
    ∷ line 14 (tens month) (0x30 to 0x31 ∷ [])
    ∷ line 15 (unit month) (0x30 to 0x39 ∷ [])
    ∷ line 16 (always 0x2C) (one 0x2C)
    ∷ line 17 (tens year) (0x30 to 0x39 ∷ [])
    ∷ line 18 (unit year) (0x30 to 0x39 ∷ [])
    ∷ line 19 (always 0x2C) (one 0x2C)
    ∷ line 20 day_of_the_week (0x31 to 0x37 ∷ [])
    ∷ []

-- "STX (command) [status] [data] CR LF ETX"; without data it asks
abbrev pub tim_as_printed : ℕ → Moment → List ℕ
tim_as_printed status moment = data_string (ascii "TIM:" ++ field_by status_table status ++ field_by tim_table moment)

abbrev pub tim_asked_as_printed : ℕ → List ℕ
tim_asked_as_printed status = data_string (ascii "TIM:" ++ field_by status_table status)

-- what a TIM may say: "TIM seconds end at 59, its weekday is 1 to 7" and the calendar's, in the years 1980 to 2079
pub record GoodTim (status : ℕ) (moment : Moment) : Type 0 where
  pub to_status : status ≤ 255
  pub from_weekday : 1 ≤ moment.weekday
  pub to_weekday : moment.weekday ≤ 7
  pub to_hour : moment.time.hour ≤ 23
  pub to_minute : moment.time.minute ≤ 59
  pub to_second : moment.time.second ≤ 59
  pub from_year : 1980 ≤ moment.date.year
  pub to_year : moment.date.year ≤ 2079
  pub from_month : 1 ≤ moment.date.month
  pub to_month : moment.date.month ≤ 12
  pub from_day : 1 ≤ moment.date.day
  pub to_day : moment.date.day ≤ month_length moment.date.year moment.date.month
  pub weekday_agrees : moment.weekday ≡ weekday_of (day_of moment.date)

-- Bytes are read as a TIM exactly where it is a good one and its printed characters are those bytes.
abbrev pub TimIsReadExactly : Type 0
TimIsReadExactly =
    (bytes : List ℕ) (status : ℕ) (moment : Moment)
    → (command_of bytes ≡ done (Tim status moment)) ↔ (GoodTim status moment × (bytes ≡ tim_as_printed status moment))

abbrev pub TimAskedIsReadExactly : Type 0
TimAskedIsReadExactly =
    (bytes : List ℕ) (status : ℕ) → (command_of bytes ≡ done (TimAsked status)) ↔ ((status ≤ 255) × (bytes ≡ tim_asked_as_printed status))

-- a good one is written so, where there is the room
abbrev pub TimIsWrittenAsPrinted : Type 0
TimIsWrittenAsPrinted =
    (status : ℕ) (moment : Moment) (room : ℕ) → GoodTim status moment → 30 ≤ room → written (Tim status moment) room ≡ done (tim_as_printed status moment)

abbrev pub TimAskedIsWrittenAsPrinted : Type 0
TimAskedIsWrittenAsPrinted =
    (status : ℕ) (room : ℕ) → status ≤ 255 → 10 ≤ room → written (TimAsked status) room ≡ done (tim_asked_as_printed status)

-- The 2 characters of status behind STX and "TIM:", and the 20 of data behind them, are ones that the tables list.
abbrev pub EveryTimIsListed : Type 0
EveryTimIsListed =
    (bytes : List ℕ) (status : ℕ) (moment : Moment) → command_of bytes ≡ done (Tim status moment)
    → EachListed status_table (take 2 (drop 5 bytes)) × EachListed tim_table (take 20 (drop 7 bytes))
