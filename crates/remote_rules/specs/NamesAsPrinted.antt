-- Source document 003, section 7, and document 02, h: "the following commands are possible", of which three are read. Over every input:
-- which bytes are refused with 22, "unknown command, first", and which with 1, "a length the command doesn't have".
use Rattle.std.specs.Prelude.{List, ◌↔◌, ◌≡◌, ℕ, length, take, drop}
use Prim.Native.String.{String}
use Rattle.refusals.specs.Refusals.{refused}
use Rattle.ascii.specs.Ascii.{ascii}
use Rattle.remote_rules.specs.Reading.{command_of}

-- the four characters behind the first, which are the command's letters and the colon
abbrev pub IsNamed : String → List ℕ → Type 0
IsNamed name bytes = take 4 (drop 1 bytes) ≡ ascii name

-- "22 unknown command, first"
abbrev pub UnknownIs22 : Type 0
UnknownIs22 =
    (bytes : List ℕ)
    → (command_of bytes ≡ refused 22) ↔ ((IsNamed "TIM:" bytes → ⊥) × (IsNamed "DIF:" bytes → ⊥) × (IsNamed "POS:" bytes → ⊥))

-- "then 1 a length the command doesn't have", whatever stands first and last
abbrev pub NoSuchLengthIs1 : String → ℕ → ℕ → Type 0
NoSuchLengthIs1 name full brief =
    (bytes : List ℕ) → IsNamed name bytes → (command_of bytes ≡ refused 1) ↔ ((length bytes ≡ full → ⊥) × (length bytes ≡ brief → ⊥))

pub record LengthsOfEachName : Type 0 where
  pub tim : NoSuchLengthIs1 "TIM:" 30 10
  pub dif : NoSuchLengthIs1 "DIF:" 14 8
  pub pos : NoSuchLengthIs1 "POS:" 30 8
