-- Document 01, "The seven layouts" and "Refusal numbers" 3 to 5: the places of a row, and the bytes that fit them.
use Rattle.std.specs.Prelude.{Bool, true, cond, not, ◌&&◌, ◌||◌, List, [], ◌∷◌, ◌++◌, map, ℕ, ◌+◌, ◌-◌, ◌%◌, leb, ltb, eqb, length, take, drop, get_or, set, replicate}
use Rattle.refusals.specs.Refusals.{◌when◌, ◌else◌}
use Rattle.refusals.specs.Numbers.{number_if}
use Rattle.places_rules.specs.declared.Found.{Found}

-- what may stand at a place: one fixed character; a decimal digit; a status or weekday character. Digits have slots
pub data Place : Type 0 where
  fixed : ℕ → Place
  decimal : ℕ → Place
  code : ℕ → Place

-- the slots that a row's digits have
abbrev pub slots : ℕ
slots = 32

-- a place as one number: a character below the first decimal stands for itself, then come the slots of decimals, then those of codes
abbrev pub first_decimal : ℕ
first_decimal = 128

abbrev pub first_code : ℕ
first_code = first_decimal + slots

unfoldable pub place : ℕ → Place
place n = cond (ltb n first_decimal) (fixed n) (cond (ltb n first_code) (decimal (n % slots)) (code (n % slots)))

abbrev pub place_number : Place → ℕ
place_number (fixed character) = character
place_number (decimal slot) = first_decimal + slot
place_number (code slot) = first_code + slot

-- "0 to 9"
unfoldable pub is_decimal : ℕ → Bool
is_decimal byte = leb 48 byte && leb byte 57

-- "capital A to F"
unfoldable pub is_capital : ℕ → Bool
is_capital byte = leb 65 byte && leb byte 70

-- "read as four bits": the value of a character 0 to 9 or A to F
unfoldable pub code_value : ℕ → ℕ
code_value byte = cond (is_decimal byte) (byte - 48) (cond (is_capital byte) (byte - 55) 0)

-- 3: "a space, CR or LF of the layout isn't in its place"
abbrev pub fixed_holds : Place → ℕ → Bool
fixed_holds (fixed character) byte = eqb byte character
fixed_holds (decimal slot) byte = true
fixed_holds (code slot) byte = true

-- 4: "a decimal place holds no 0 to 9"
abbrev pub decimal_holds : Place → ℕ → Bool
decimal_holds (fixed character) byte = true
decimal_holds (decimal slot) byte = is_decimal byte
decimal_holds (code slot) byte = true

-- 5: status and weekday "are one character each, 0 to 9 or capital A to F"
abbrev pub code_holds : Place → ℕ → Bool
code_holds (fixed character) byte = true
code_holds (decimal slot) byte = true
code_holds (code slot) byte = is_decimal byte || is_capital byte

-- each place of a row against its byte
abbrev pub every : (Place → ℕ → Bool) → List Place → List ℕ → Bool
every holds [] bytes = true
every holds (p ∷ row) [] = true
every holds (p ∷ row) (byte ∷ bytes) = holds p byte && every holds row bytes

-- a digit goes to its place's slot; a fixed character has none
abbrev pub store : Place → ℕ → List ℕ → List ℕ
store (fixed character) byte digits = digits
store (decimal slot) byte digits = set digits slot (code_value byte)
store (code slot) byte digits = set digits slot (code_value byte)

-- what stands in a slot once a place with that slot was seen
abbrev pub kept_at : Place → ℕ → ℕ → ℕ
kept_at (fixed character) byte before = before
kept_at (decimal slot) byte before = code_value byte
kept_at (code slot) byte before = code_value byte

-- the digits of some bytes, each in its slot
abbrev pub gather : List Place → List ℕ → List ℕ → List ℕ
gather [] bytes digits = digits
gather (p ∷ row) [] digits = digits
gather (p ∷ row) (byte ∷ bytes) digits = gather row bytes (store p byte digits)

-- the refusal of a row's bytes: 3 before 4 before 5, each over all of its places
abbrev pub fault_of : Bool → Bool → Bool → ℕ
fault_of characters decimals codes = 3 when not characters else 4 when not decimals else 5 when not codes

abbrev pub row_fault : List Place → List ℕ → ℕ
row_fault row bytes = fault_of (every fixed_holds row bytes) (every decimal_holds row bytes) (every code_holds row bytes)

-- the same of one place
abbrev pub place_fault : Place → ℕ → ℕ
place_fault p byte = fault_of (fixed_holds p byte) (decimal_holds p byte) (code_holds p byte)

-- what a row finds: its digits, and the number of its fault, or 0
pub record Finding : Type 0 where
  pub digits : List ℕ
  pub fault : ℕ

abbrev pub finding : Found → Finding
finding found = record { digits = found.digits; fault = number_if found.fault }

-- all of a row seen, from empty slots on
abbrev pub no_digits : List ℕ
no_digits = replicate slots 0

unfoldable pub found_in : List Place → List ℕ → Finding
found_in row bytes = record { digits = gather row bytes no_digits; fault = row_fault row bytes }

-- the character of a value 0 to 15
unfoldable pub code_character : ℕ → ℕ
code_character value = cond (ltb value 10) (value + 48) (value + 55)

-- the byte that a place makes of the digits
abbrev pub byte_at : List ℕ → Place → ℕ
byte_at digits (fixed character) = character
byte_at digits (decimal slot) = code_character (get_or digits slot 0 % 16)
byte_at digits (code slot) = code_character (get_or digits slot 0 % 16)

unfoldable pub render : List Place → List ℕ → List ℕ
render row digits = map (byte_at digits) row

-- bytes laid over the first ones of a buffer, as far as it reaches
unfoldable pub over : List ℕ → List ℕ → List ℕ
over bytes buffer = take (length buffer) bytes ++ drop (length bytes) buffer
