-- The boundary table of document 01, P1 to P13, and the one statement over it.
use Rattle.std.specs.Prelude.{true, false, List, [], ◌∷◌, ◌++◌, ◌≡◌, ℕ}
use Rattle.refusals.specs.Refusals.{Outcome, done, refused}
use Rattle.refusals.specs.Tables.{EachHolds}
use Rattle.calendar_rules.specs.Literals.{date, time}
use Rattle.record_rules.specs.declared.DatedLayout.TheVariants.{L6021, L5500}
use Rattle.record_rules.specs.declared.TimeLayout.TheVariants.{T6021, T5500}
use Rattle.record_rules.specs.declared.Reception.TheVariants.{Crystal, Radio, High}
use Rattle.record_rules.specs.declared.Status.{Status}
use Rattle.record_rules.specs.declared.Record.{Record}
use Rattle.record_rules.specs.declared.Record.TheVariants.{Dated, TimeOnly}
use Rattle.record_rules.specs.declared.season.UtcSeconds.{UtcSeconds}
use Rattle.record_rules.specs.Literals.{status_of}
use Rattle.record_rules.specs.Utc.{utc_seconds}
use Rattle.telegram_rules.specs.Reading.{read_of}
use Rattle.board_rules.specs.declared.Parity.TheVariants.{None}
use Rattle.board_rules.specs.declared.of_6036.Parameter.{Parameter}
use Rattle.board_rules.specs.Of6036.{parameter_in}
use Rattle.ascii.specs.Ascii.{ascii}
use Rattle.ascii.specs.Control.{stx, etx, lf_cr, cr_lf}

-- a row: a telegram without STX and ETX, a parameter byte, or a record to be put in UTC seconds; and its outcome
pub data BoundaryRow : Type 0 where
  telegram : List ℕ → Outcome Record → BoundaryRow
  parameter : ℕ → Parameter → BoundaryRow
  to_utc : Record → Outcome UtcSeconds → BoundaryRow

-- a row holds: a telegram has its outcome without control characters, and with them between STX and ETX
abbrev pub BoundaryRowHolds : BoundaryRow → Type 0
BoundaryRowHolds (telegram bytes outcome) = (read_of false bytes ≡ outcome) × (read_of true (stx ∷ bytes ++ etx ∷ []) ≡ outcome)
BoundaryRowHolds (parameter byte setting) = parameter_in byte ≡ setting
BoundaryRowHolds (to_utc rec outcome) = utc_seconds rec ≡ outcome

-- the words of the table
abbrev pub high_daylight : Status
high_daylight = status_of High true false false

abbrev pub high_standard : Status
high_standard = status_of High false false false

abbrev pub high_utc : Status
high_utc = status_of High false true false

abbrev pub crystal_standard : Status
crystal_standard = status_of Crystal false false false

abbrev pub crystal_standard_announced : Status
crystal_standard_announced = status_of Crystal false false true

abbrev pub radio_standard : Status
radio_standard = status_of Radio false false false

-- in the table's order. A record: layout, status, weekday, date, time
abbrev pub boundary_table : List BoundaryRow
boundary_table =
    -- P1
    telegram (ascii "E3123456170496" ++ lf_cr) (done (Dated L6021 high_daylight 3 (date 1996 4 17) (time 12 34 56)))
    -- P2: weekday 4
    ∷ telegram (ascii "E4123456170496" ++ lf_cr) (refused 8)
    -- P3
    ∷ telegram (ascii "1 123456 030196 3" ++ cr_lf) (done (Dated L5500 crystal_standard 3 (date 1996 1 3) (time 12 34 56)))
    -- P4: status 3
    ∷ telegram (ascii "3 123456 030196 3" ++ cr_lf) (done (Dated L5500 crystal_standard_announced 3 (date 1996 1 3) (time 12 34 56)))
    -- P5: status A
    ∷ telegram (ascii "A 123456 030196 3" ++ cr_lf) (refused 5)
    -- P6
    ∷ telegram (ascii "C6120000290297" ++ lf_cr) (refused 7)
    -- P7
    ∷ telegram (ascii "C2120000290200" ++ lf_cr) (done (Dated L6021 high_standard 2 (date 2000 2 29) (time 12 0 0)))
    -- P8
    ∷ telegram (ascii "235959" ++ lf_cr) (done (TimeOnly T6021 (time 23 59 59)))
    -- P9
    ∷ telegram (ascii "235959" ++ cr_lf) (done (TimeOnly T5500 (time 23 59 59)))
    -- P10
    ∷ telegram (ascii "240000" ++ lf_cr) (refused 6)
    -- P11
    ∷ telegram (ascii "CB123456030196" ++ lf_cr) (done (Dated L6021 high_utc 3 (date 1996 1 3) (time 12 34 56)))
    -- P12: CET, 8 bits, no parity, 2 stop, 600
    ∷ parameter 0xA6 (record { utc = false; data_bits = 8; parity = None; stop_bits = 2; baud = 600 })
    -- P13
    ∷ to_utc (Dated L6021 radio_standard 2 (date 1980 1 1) (time 0 30 0)) (refused 12)
    ∷ []

-- "proved, together, by one statement over the table"
abbrev pub TheBoundaryTableHolds : Type 0
TheBoundaryTableHolds = EachHolds BoundaryRowHolds boundary_table
