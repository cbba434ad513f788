-- Laws of switches: a byte made of switches has those switches. Assumes nothing.
use mathlib.Core.Path.{◌≡◌, ap, sym, ◌∙◌}
use mathlib.Core.Bool.{Bool, true, false}
use mathlib.Core.List.{List, [], ◌∷◌}
use Prim.Native.Nat.{ℕ, zero, suc, ◌+◌, ◌*◌, ◌/◌, ◌%◌, ◌^◌, ◌<◌}
use native.Mathlib.Nat.{div-div-eq-div-mul, pow-succ', zero-div}
use native.Mathlib.Omega.{arith}
use lib.Dec.{eqb}
use lib.ListN.{length, get_or}
use Rattle.bits.specs.Bits.{bit}
use Rattle.board_rules.specs.Switches.{is_on, byte_of}

-- a switch in front of others: it is the lowest bit, and half the byte is the others' byte
module _ (others : ℕ) where
  lowest : (on : Bool) → eqb ((bit on + 2 * others) / 1 % 2) 1 ≡ on
  lowest true = let odd : (1 + 2 * others) / 1 % 2 ≡ 1 = omega arith in ap (λ n. eqb n 1) odd
  lowest false = let even : (0 + 2 * others) / 1 % 2 ≡ 0 = omega arith in ap (λ n. eqb n 1) even

  half : (on : Bool) → (bit on + 2 * others) / 2 ≡ others
  half true = omega arith
  half false = omega arith

  fits : (room : ℕ) → others < room → (on : Bool) → bit on + 2 * others < 2 * room
  fits room small true = omega arith
  fits room small false = omega arith

-- each switch of the byte, counted from 0, is the one in the row
pub is_on_law : (switches : List Bool) (place : ℕ) → is_on (byte_of switches) place ≡ get_or switches place false
is_on_law [] place = ap (λ n. eqb (n % 2) 1) (zero-div (2 ^ place))
is_on_law (on ∷ more) zero = lowest (byte_of more) on
is_on_law (on ∷ more) (suc place) =
    ap (λ n. eqb ((bit on + 2 * byte_of more) / n % 2) 1) (pow-succ' 2 place)
    ∙ ap (λ n. eqb (n % 2) 1) (sym (div-div-eq-div-mul (bit on + 2 * byte_of more) 2 (2 ^ place)))
    ∙ ap (λ n. is_on n place) (half (byte_of more) on)
    ∙ is_on_law more place

-- so many switches, so many bits
pub byte_fits : (switches : List Bool) → byte_of switches < 2 ^ length switches
byte_fits [] = omega arith
byte_fits (on ∷ more) = rw (pow-succ' 2 (length more)) (fits (byte_of more) (2 ^ length more) (byte_fits more) on)
