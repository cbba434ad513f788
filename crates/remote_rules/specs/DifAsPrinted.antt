-- Source document 003, 7.1.6, as it is printed: DIF with its 6 characters of data, and DIF that asks. Over every input: what is read as a
-- DIF, and what is written for one.
use Rattle.std.specs.Prelude.{List, [], ◌∷◌, ◌++◌, ◌↔◌, ◌≡◌, ℕ, ◌/◌, ◌%◌, ◌≤◌, ◌<◌, ℤ, pos, negsuc, neg_ℤ, nat_abs, take, drop}
use Rattle.refusals.specs.Refusals.{done, refused}
use Rattle.ascii.specs.Ascii.{ascii}
use Rattle.remote_rules.specs.declared.Command.TheVariants.{Dif, DifAsked}
use Rattle.remote_rules.specs.Reading.{command_of}
use Rattle.remote_rules.specs.Writing.{written}
use Rattle.remote_rules.specs.WordsAsPrinted.{data_string, sent, TableLine, line, ◌to◌, one, unit, tens, always, field_by, EachListed}

-- The words of the table: "+/- 2B, 2D", and zero is plus; whole hours, and the minutes over.
abbrev pub direction : ℤ → ℕ
direction (pos n) = 0x2B
direction (negsuc n) = 0x2D

abbrev pub hours : ℤ → ℕ
hours difference = nat_abs difference / 60

abbrev pub minutes : ℤ → ℕ
minutes difference = nat_abs difference % 60

-- its lines have no numbers in print
abbrev pub dif_table : List (TableLine ℤ)
dif_table =
    line 1 direction (one 0x2B ++ one 0x2D)
    -- printed as 30-32: "must not exceed +/- 12 hours"
    ∷ line 2 (tens hours) (0x30 to 0x31 ∷ [])
    ∷ line 3 (unit hours) (0x30 to 0x39 ∷ [])
    ∷ line 4 (always 0x2C) (one 0x2C)
    -- printed as 30,33 and 30: "The minutes may be 0 - 59", "not the short table's"
    ∷ line 5 (tens minutes) (0x30 to 0x35 ∷ [])
    ∷ line 6 (unit minutes) (0x30 to 0x39 ∷ [])
    ∷ []

abbrev pub dif_as_printed : ℤ → List ℕ
dif_as_printed difference = data_string (ascii "DIF:" ++ field_by dif_table difference)

-- Bytes are read as a DIF exactly where it is within 720 minutes and its printed characters are those bytes.
abbrev pub DifIsReadExactly : Type 0
DifIsReadExactly =
    (bytes : List ℕ) (difference : ℤ) → (command_of bytes ≡ done (Dif difference)) ↔ ((nat_abs difference ≤ 720) × (bytes ≡ dif_as_printed difference))

-- "The actual difference is requested by": STX DIF: CR LF ETX
abbrev pub DifAskedIsReadExactly : Type 0
DifAskedIsReadExactly = (bytes : List ℕ) → (command_of bytes ≡ done DifAsked) ↔ (bytes ≡ sent "DIF:")

abbrev pub DifIsWrittenAsPrinted : Type 0
DifIsWrittenAsPrinted =
    (difference : ℤ) (room : ℕ) → nat_abs difference ≤ 720 → 14 ≤ room → written (Dif difference) room ≡ done (dif_as_printed difference)

abbrev pub DifAskedIsWrittenAsPrinted : Type 0
DifAskedIsWrittenAsPrinted = (room : ℕ) → 8 ≤ room → written DifAsked room ≡ done (sent "DIF:")

-- The 6 characters behind STX and "DIF:" are ones that the table lists.
abbrev pub EveryDifIsListed : Type 0
EveryDifIsListed = (bytes : List ℕ) (difference : ℤ) → command_of bytes ≡ done (Dif difference) → EachListed dif_table (take 6 (drop 5 bytes))

-- Each of the 1,441 differences is written, and comes back.
abbrev pub EveryDifferenceComesBack : Type 0
EveryDifferenceComesBack =
    (difference : ℤ) → nat_abs difference ≤ 720
    → (written (Dif difference) 14 ≡ done (dif_as_printed difference)) × (command_of (dif_as_printed difference) ≡ done (Dif difference))

-- and none beyond them is written: 6 in any room
abbrev pub NoneIsBeyond12Hours : Type 0
NoneIsBeyond12Hours = (difference : ℤ) (room : ℕ) → 720 < nat_abs difference → written (Dif difference) room ≡ refused 6

-- "01,30" is an hour and 30 minutes: no hour and 3 tenths, and no 130
pub record OneThirtyIs90 : Type 0 where
  pub is90 : command_of (sent "DIF:+01,30") ≡ done (Dif (pos 90))
  pub is_not78 : command_of (sent "DIF:+01,30") ≡ done (Dif (pos 78)) → ⊥
  pub is_not130 : command_of (sent "DIF:+01,30") ≡ done (Dif (pos 130)) → ⊥
  pub minus_is_minus90 : command_of (sent "DIF:-01,30") ≡ done (Dif (neg_ℤ (pos 90)))

-- "-00,00 is refused with 6, zero is +00,00"
abbrev pub MinusNothingIs6 : Type 0
MinusNothingIs6 = command_of (sent "DIF:-00,00") ≡ refused 6

abbrev pub ZeroIsPlusNothing : Type 0
ZeroIsPlusNothing = (written (Dif (pos 0)) 14 ≡ done (sent "DIF:+00,00")) × (command_of (sent "DIF:+00,00") ≡ done (Dif (pos 0)))

-- 12 hours either way are the last
pub record TwelveHoursAreTheLast : Type 0 where
  pub plus720 : command_of (sent "DIF:+12,00") ≡ done (Dif (pos 720))
  pub minus720 : command_of (sent "DIF:-12,00") ≡ done (Dif (neg_ℤ (pos 720)))
  pub plus721 : command_of (sent "DIF:+12,01") ≡ refused 6
  pub minus721 : command_of (sent "DIF:-12,01") ≡ refused 6
  pub written721 : written (Dif (pos 721)) 14 ≡ refused 6
  pub written_minus721 : written (Dif (neg_ℤ (pos 721))) 14 ≡ refused 6
