-- Document 02, f, in literal bytes: a telegram of each layout written in both orders, and every text of a table read with each trailer in
-- both orders, with control characters and without.
use Rattle.std.specs.Prelude.{Bool, true, false, cond, List, [], ◌∷◌, ◌++◌, map, ◌≡◌, ℕ}
use Prim.Native.String.{String}
use Rattle.refusals.specs.Refusals.{Outcome, done, refused}
use Rattle.ascii.specs.Ascii.{ascii}
use Rattle.calendar_rules.specs.Literals.{time}
use Rattle.record_rules.specs.declared.DatedLayout.TheVariants.{L6021, L2000, L5500, L5050}
use Rattle.record_rules.specs.declared.TimeLayout.TheVariants.{T6021, T5500, T5050}
use Rattle.record_rules.specs.declared.Record.{Record}
use Rattle.record_rules.specs.declared.Record.TheVariants.{TimeOnly}
use Rattle.record_rules.specs.Literals.{standard_time}
use Rattle.trailer_rules.specs.declared.Order.{Order}
use Rattle.trailer_rules.specs.declared.Order.TheVariants.{AsPrinted, Exchanged}
use Rattle.telegram_rules.specs.declared.write.Choice.{Choice}
use Rattle.telegram_rules.specs.declared.write.Choice.TheVariants.{NamedIn}
use Rattle.telegram_rules.specs.Reading.{read_in, read_of}
use Rattle.telegram_rules.specs.Writing.{written}
use Rattle.telegram_rules.specs.AsPrinted.{named, delivery, wednesday}

abbrev pub lf_cr : List ℕ
lf_cr = 0x0A ∷ 0x0D ∷ []

abbrev pub cr_lf : List ℕ
cr_lf = 0x0D ∷ 0x0A ∷ []

-- with control characters, and without
abbrev pub telegram_bytes : Bool → String → List ℕ → List ℕ
telegram_bytes control text trailer = cond control (0x02 ∷ ascii text ++ trailer ++ 0x03 ∷ []) (ascii text ++ trailer)

-- Writing: a record of each layout, its text, its trailer as the table prints it, and that exchanged.
pub record Row : Type 0 where
  pub rec : Record
  pub text : String
  pub printed : List ℕ
  pub exchanged : List ℕ

abbrev pub row : Record → String → List ℕ → List ℕ → Row
row rec text printed exchanged = record { rec = rec; text = text; printed = printed; exchanged = exchanged }

abbrev pub rows : List Row
rows =
    row (delivery L6021) "E3123456170496" lf_cr cr_lf
    ∷ row (TimeOnly T6021 (time 12 34 56)) "123456" lf_cr cr_lf
    ∷ row (delivery L2000) "E312345617041996" lf_cr cr_lf
    ∷ row (wednesday L5500 standard_time) "0 123456 030196 3" cr_lf lf_cr
    ∷ row (TimeOnly T5500 (time 12 34 56)) "123456" cr_lf lf_cr
    ∷ row (wednesday L5050 standard_time) "12 34 56 03 01 96 03 " cr_lf lf_cr
    ∷ row (TimeOnly T5050 (time 12 34 56)) "12 34 56 " cr_lf lf_cr
    ∷ []

abbrev pub in_named : Order → Bool → Choice
in_named order control = NamedIn (record { control = control; advance = false }) order

abbrev pub Written : Choice → Bool → (Row → List ℕ) → Type 0
Written choice control trailer =
    map (λ row. written choice row.rec 25) rows ≡ map (λ row. done (telegram_bytes control row.text (trailer row))) rows

-- Reading: a text, what it reads as where LF CR stands behind it on a line as printed, and what where CR LF does.
pub record Read : Type 0 where
  pub text : String
  pub lf_cr_printed : Outcome Record
  pub cr_lf_printed : Outcome Record

abbrev pub reading : String → Outcome Record → Outcome Record → Read
reading text lf_cr_printed cr_lf_printed = record { text = text; lf_cr_printed = lf_cr_printed; cr_lf_printed = cr_lf_printed }

-- "in exchanged order a 5500t looks like an as-printed 6021t": at length 10 the order of LF and CR decides
abbrev pub readings : List Read
readings =
    reading "E3123456170496" (done (delivery L6021)) (refused 3)
    ∷ reading "123456" (done (TimeOnly T6021 (time 12 34 56))) (done (TimeOnly T5500 (time 12 34 56)))
    ∷ reading "E312345617041996" (done (delivery L2000)) (refused 3)
    ∷ reading "0 123456 030196 3" (refused 3) (done (wednesday L5500 standard_time))
    ∷ reading "12 34 56 03 01 96 03 " (refused 3) (done (wednesday L5050 standard_time))
    ∷ reading "12 34 56 " (refused 3) (done (TimeOnly T5050 (time 12 34 56)))
    ∷ []

abbrev pub ReadAs : (Bool → List ℕ → Outcome Record) → List ℕ → (Read → Outcome Record) → Type 0
ReadAs read trailer outcome =
    (map (λ row. read true (telegram_bytes true row.text trailer)) readings ≡ map outcome readings)
    × (map (λ row. read false (telegram_bytes false row.text trailer)) readings ≡ map outcome readings)

-- neither order: 3 in both
abbrev pub Neither : List ℕ → Type 0
Neither trailer = ReadAs (read_in AsPrinted) trailer (λ row. refused 3) × ReadAs (read_in Exchanged) trailer (λ row. refused 3)

pub record OrdersAreAsPrinted : Type 0 where
  pub written_printed : Written (in_named AsPrinted true) true (λ row. row.printed) × Written (in_named AsPrinted false) false (λ row. row.printed)
  pub written_exchanged : Written (in_named Exchanged true) true (λ row. row.exchanged) × Written (in_named Exchanged false) false (λ row. row.exchanged)
  -- "as-printed if not named"
  pub written_not_named : Written (named true false) true (λ row. row.printed) × Written (named false false) false (λ row. row.printed)
  pub read_not_named : ReadAs read_of lf_cr (λ row. row.lf_cr_printed) × ReadAs read_of cr_lf (λ row. row.cr_lf_printed)
  pub read_printed : ReadAs (read_in AsPrinted) lf_cr (λ row. row.lf_cr_printed) × ReadAs (read_in AsPrinted) cr_lf (λ row. row.cr_lf_printed)
  pub read_exchanged : ReadAs (read_in Exchanged) cr_lf (λ row. row.lf_cr_printed) × ReadAs (read_in Exchanged) lf_cr (λ row. row.cr_lf_printed)
  pub two_lf : Neither (0x0A ∷ 0x0A ∷ [])
  pub two_cr : Neither (0x0D ∷ 0x0D ∷ [])
  pub two_spaces : Neither (0x20 ∷ 0x20 ∷ [])
