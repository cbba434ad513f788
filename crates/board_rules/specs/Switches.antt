-- Document 01, "6036 parameter byte", and document 02, f: the eight switches of a byte.
use Rattle.std.specs.Prelude.{Bool, true, false, List, [], ◌∷◌, ℕ, ◌+◌, ◌-◌, ◌*◌, ◌/◌, ◌%◌, ◌^◌, eqb}
use Rattle.bits.specs.Bits.{bit}

-- the bit of a byte at a place, counted from 0
abbrev pub is_on : ℕ → ℕ → Bool
is_on byte place = eqb (byte / 2 ^ place % 2) 1

-- "switch 1 is the lowest bit": switch n of a byte, counted from 1
abbrev pub switch : ℕ → ℕ → Bool
switch n byte = is_on byte (n - 1)

-- the byte of a row of switches, from switch 1 on
abbrev pub byte_of : List Bool → ℕ
byte_of [] = 0
byte_of (on ∷ more) = bit on + 2 * byte_of more

-- a byte with its switch 4 on, and every other switch as it stands
unfoldable pub with_switch4 : ℕ → ℕ
with_switch4 byte =
    byte_of
    (switch 1 byte ∷ switch 2 byte ∷ switch 3 byte ∷ true ∷ switch 5 byte ∷ switch 6 byte ∷ switch 7 byte ∷ switch 8 byte ∷ [])

-- a byte with its switch 1 off, and every other switch as it stands
unfoldable pub without_switch1 : ℕ → ℕ
without_switch1 byte =
    byte_of
    (false ∷ switch 2 byte ∷ switch 3 byte ∷ switch 4 byte ∷ switch 5 byte ∷ switch 6 byte ∷ switch 7 byte ∷ switch 8 byte ∷ [])
