-- Source document 003, section 7: the words of its tables, in which TIM, DIF and POS are said a second time as they are printed.
use Rattle.std.specs.Prelude.{Bool, true, false, ◌||◌, List, [], ◌∷◌, ◌++◌, map, ◌≡◌, ℕ, zero, suc, ◌+◌, ◌/◌, ◌%◌}
use Prim.Native.String.{String}
use Rattle.ascii.specs.Ascii.{ascii}
use Rattle.calendar_rules.specs.Ranges.{inside}

-- "STX (hex 02) and also the CR (Hex 0D), LF (Hex 0A) and ETX (Hex 03) at the end of the data string"
abbrev pub data_string : List ℕ → List ℕ
data_string characters = 0x02 ∷ characters ++ 0x0D ∷ 0x0A ∷ 0x03 ∷ []

-- a text between them, as in "STX DIF: CR LF ETX"; the blanks of the printed examples are not on the line
abbrev pub sent : String → List ℕ
sent text = data_string (ascii text)

-- a line: "character no.", "meaning", "value (value range)"
pub record TableLine (A : Type 0) : Type 0 where
  pub number : ℕ
  pub meaning : A → ℕ
  pub values : List (ℕ × ℕ)

abbrev pub line : {A : Type 0} → ℕ → (A → ℕ) → List (ℕ × ℕ) → TableLine A
line number meaning values = record { number = number; meaning = meaning; values = values }

infix 80 ◌to◌
abbrev pub ◌to◌ : ℕ → ℕ → ℕ × ℕ
◌to◌ low high = (low, high)

abbrev pub one : ℕ → List (ℕ × ℕ)
one character = character to character ∷ []

-- the character that a place shows of a number
abbrev pub unit : {A : Type 0} → (A → ℕ) → A → ℕ
unit field told = 0x30 + field told % 10

abbrev pub tens : {A : Type 0} → (A → ℕ) → A → ℕ
tens field told = 0x30 + field told / 10 % 10

abbrev pub hundreds : {A : Type 0} → (A → ℕ) → A → ℕ
hundreds field told = 0x30 + field told / 100 % 10

abbrev pub always : {A : Type 0} → ℕ → A → ℕ
always character told = character

-- the characters of a data field, by its table
abbrev pub field_by : {A : Type 0} → List (TableLine A) → A → List ℕ
field_by table told = map (λ line. line.meaning told) table

-- the numbers from one on, so many
abbrev pub counted_from : ℕ → ℕ → List ℕ
counted_from first zero = []
counted_from first (suc n) = first ∷ counted_from (first + 1) n

abbrev pub numbers : {A : Type 0} → List (TableLine A) → List ℕ
numbers table = map (λ line. line.number) table

-- each character is one of the values listed for it
abbrev pub listed_in : List (ℕ × ℕ) → ℕ → Bool
listed_in [] character = false
listed_in (range ∷ others) character = inside range.0 character range.1 || listed_in others character

abbrev pub EachListed : {A : Type 0} → List (TableLine A) → List ℕ → Type 0
EachListed [] [] = Unit {0}
EachListed [] (character ∷ characters) = ⊥
EachListed (line ∷ lines) [] = ⊥
EachListed (line ∷ lines) (character ∷ characters) = (listed_in line.values character ≡ true) × EachListed lines characters
