-- What a row must be for its telegrams to read back, as tests that antt computes, and what its digits must be. Assumes nothing.
use mathlib.Core.Path.{◌≡◌}
use mathlib.Core.Bool.{Bool, true, false, cond, not, ◌&&◌, ◌||◌}
use mathlib.Core.List.{List, [], ◌∷◌}
use Prim.Native.Nat.{ℕ, ◌≤◌}
use lib.Dec.{ltb, eqb}
use lib.ListN.{length, get_or}
use Rattle.places_rules.specs.Places.{Place, fixed, decimal, code, slots}

-- a place has a slot, or has none
abbrev pub uses : ℕ → Place → Bool
uses slot (fixed character) = false
uses slot (decimal at) = eqb at slot
uses slot (code at) = eqb at slot

abbrev pub used_in : ℕ → List Place → Bool
used_in slot [] = false
used_in slot (p ∷ row) = uses slot p || used_in slot row

-- no slot is used twice
abbrev pub apart : Place → List Place → Bool
apart (fixed character) row = true
apart (decimal slot) row = not (used_in slot row)
apart (code slot) row = not (used_in slot row)

abbrev pub distinct : List Place → Bool
distinct [] = true
distinct (p ∷ row) = apart p row && distinct row

-- a slot is one of the slots; no fixed character is STX or ETX
abbrev pub sound_place : Place → Bool
sound_place (fixed character) = not (eqb character 2) && not (eqb character 3)
sound_place (decimal slot) = ltb slot slots
sound_place (code slot) = ltb slot slots

abbrev pub sound : List Place → Bool
sound [] = true
sound (p ∷ row) = sound_place p && sound row

-- a slot is one of the slots
abbrev pub slotted_place : Place → Bool
slotted_place (fixed character) = true
slotted_place (decimal slot) = ltb slot slots
slotted_place (code slot) = ltb slot slots

abbrev pub slotted : List Place → Bool
slotted [] = true
slotted (p ∷ row) = slotted_place p && slotted row

-- no fixed character is STX or ETX
abbrev pub plain_place : Place → Bool
plain_place (fixed character) = not (eqb character 2) && not (eqb character 3)
plain_place (decimal slot) = true
plain_place (code slot) = true

abbrev pub plain : List Place → Bool
plain [] = true
plain (p ∷ row) = plain_place p && plain row

-- each place has a digit that it can show: a decimal up to 9, a code up to 15
abbrev pub shown : List ℕ → Place → Type 0
shown digits (fixed character) = Unit {0}
shown digits (decimal slot) = get_or digits slot 0 ≤ 9
shown digits (code slot) = get_or digits slot 0 ≤ 15

abbrev pub all_shown : List ℕ → List Place → Type 0
all_shown digits [] = Unit {0}
all_shown digits (p ∷ row) = shown digits p × all_shown digits row

-- the most that a row can show in a slot, 0 where it has no place for it
abbrev pub most : List Place → ℕ → ℕ
most [] slot = 0
most (fixed character ∷ row) slot = most row slot
most (decimal at ∷ row) slot = cond (eqb at slot) 9 (most row slot)
most (code at ∷ row) slot = cond (eqb at slot) 15 (most row slot)

-- digits that a row can carry: it shows each of them, and where it has no place there is 0
pub record Held (row : List Place) (digits : List ℕ) : Type 0 where
  pub size : length digits ≡ slots
  pub each : all_shown digits row
  pub idle : (slot : ℕ) → used_in slot row ≡ false → get_or digits slot 0 ≡ 0
