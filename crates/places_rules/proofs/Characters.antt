-- Laws of characters and their values. Assumes nothing.
use mathlib.Core.Path.{◌≡◌, refl, ◌∙◌}
use mathlib.Core.Bool.{Bool, true, false, ◌||◌, or-true}
use Prim.Native.Nat.{ℕ, ◌+◌, ◌-◌, ◌%◌, ◌≤◌, ◌<◌}
use native.Mathlib.Omega.{arith}
use lib.Dec.{ltb}
use borrow.Author.Tests.{leb-true, le-leb, lt-leb, lt-ltb, le-ltb, ltb-true, ltb-false}
use Rattle.std.specs.Char.{is_ascii_digit}
use Rattle.refusals.proofs.Laws.{both}
use Rattle.places_rules.specs.Places.{is_decimal, is_capital, code_value, code_character}

-- "0 to 9" is what the library's test of a digit passes
pub decimal_is_digit : (byte : ℕ) → is_decimal byte ≡ is_ascii_digit byte
unfolding is_decimal
decimal_is_digit byte = refl

pub decimal_bounds : (byte : ℕ) → is_decimal byte ≡ true → (48 ≤ byte) × (byte ≤ 57)
unfolding is_decimal
decimal_bounds byte e = let h = both _ _ e in (leb-true _ _ h.0, leb-true _ _ h.1)

pub capital_bounds : (byte : ℕ) → is_capital byte ≡ true → (65 ≤ byte) × (byte ≤ 70)
unfolding is_capital
capital_bounds byte e = let h = both _ _ e in (leb-true _ _ h.0, leb-true _ _ h.1)

pub is_decimal_law : (byte : ℕ) → 48 ≤ byte → byte ≤ 57 → is_decimal byte ≡ true
unfolding is_decimal
is_decimal_law byte l h = simp (le-leb _ _ l, le-leb _ _ h)

pub is_capital_law : (byte : ℕ) → 65 ≤ byte → byte ≤ 70 → is_capital byte ≡ true
unfolding is_capital
is_capital_law byte l h = simp (le-leb _ _ l, le-leb _ _ h)

pub not_decimal : (byte : ℕ) → 58 ≤ byte → is_decimal byte ≡ false
unfolding is_decimal
not_decimal byte h = simp (le-leb 48 byte (omega arith), lt-leb byte 57 (omega arith))

-- The character of a small value: 0 to 9 below ten, A to F from there on.
pub low_character : (value : ℕ) → value < 10 → code_character value ≡ value + 48
unfolding code_character
low_character value h = rw (lt-ltb value 10 h)

pub high_character : (value : ℕ) → 10 ≤ value → code_character value ≡ value + 55
unfolding code_character
high_character value h = rw (le-ltb value 10 h)

-- a decimal character has its digit for a value, a capital A to F ten to fifteen
pub decimal_value : (byte : ℕ) → is_decimal byte ≡ true → code_value byte ≡ byte - 48
unfolding code_value
decimal_value byte e = rw e

pub capital_value : (byte : ℕ) → is_capital byte ≡ true → code_value byte ≡ byte - 55
unfolding code_value
capital_value byte e = rw (not_decimal byte (omega (arith, capital_bounds byte e)), e)

-- two cases of a value below sixteen, and of a character that fits a code
module _ (P : ℕ → Type 0) where
  pub by_value : (value : ℕ) → value < 16 → (value < 10 → P value) → (10 ≤ value → P value) → P value
  by_value value h low high = go (ltb value 10) refl
    where
      go : (t : Bool) → ltb value 10 ≡ t → P value
      go true e = low (ltb-true _ _ e)
      go false e = high (ltb-false _ _ e)

  pub by_character : (byte : ℕ) → (is_decimal byte || is_capital byte) ≡ true
      → (is_decimal byte ≡ true → P byte) → (is_capital byte ≡ true → P byte) → P byte
  by_character byte e low high = go (is_decimal byte) refl e
    where
      go : (t : Bool) → is_decimal byte ≡ t → (t || is_capital byte) ≡ true → P byte
      go true d e = low d
      go false d e = high e

-- the character of a value fits a code, and has that value
pub character_fits : (value : ℕ) → value < 16 → (is_decimal (code_character value) || is_capital (code_character value)) ≡ true
character_fits value h =
    by_value (λ v. (is_decimal (code_character v) || is_capital (code_character v)) ≡ true) value h
    (λ low. rw (low_character value low, is_decimal_law (value + 48) (omega arith) (omega arith)))
    (λ high. rw (high_character value high, is_capital_law (value + 55) (omega arith) (omega arith), or-true))

pub character_decimal : (value : ℕ) → value < 10 → is_decimal (code_character value) ≡ true
character_decimal value low = rw (low_character value low) (is_decimal_law (value + 48) (omega arith) (omega arith))

pub value_of_character : (value : ℕ) → value < 16 → code_value (code_character value) ≡ value
value_of_character value h =
    by_value (λ v. code_value (code_character v) ≡ v) value h
    (λ low. rw (low_character value low) (decimal_value (value + 48) (is_decimal_law (value + 48) (omega arith) (omega arith)) ∙ omega arith))
    (λ high. rw (high_character value high) (capital_value (value + 55) (is_capital_law (value + 55) (omega arith) (omega arith)) ∙ omega arith))

-- and back: a character that fits is the character of its value
pub decimal_back : (byte : ℕ) → is_decimal byte ≡ true → code_character (code_value byte % 16) ≡ byte
decimal_back byte e =
    let bounds = decimal_bounds byte e in
    let value : code_value byte % 16 ≡ byte - 48 = rw (decimal_value byte e) (omega arith) in
    rw value (low_character (byte - 48) (omega arith) ∙ omega arith)

pub code_back : (byte : ℕ) → (is_decimal byte || is_capital byte) ≡ true → code_character (code_value byte % 16) ≡ byte
code_back byte e =
    by_character (λ b. code_character (code_value b % 16) ≡ b) byte e
    (λ d. let bounds = decimal_bounds byte d in
    let value : code_value byte % 16 ≡ byte - 48 = rw (decimal_value byte d) (omega arith) in
    rw value (low_character (byte - 48) (omega arith) ∙ omega arith))
    (λ d. let bounds = capital_bounds byte d in
    let value : code_value byte % 16 ≡ byte - 55 = rw (capital_value byte d) (omega arith) in
    rw value (high_character (byte - 55) (omega arith) ∙ omega arith))

-- values are small
pub decimal_small : (byte : ℕ) → is_decimal byte ≡ true → code_value byte ≤ 9
decimal_small byte e = omega (arith, decimal_value byte e, decimal_bounds byte e)

pub code_small : (byte : ℕ) → (is_decimal byte || is_capital byte) ≡ true → code_value byte ≤ 15
code_small byte e =
    by_character (λ b. code_value b ≤ 15) byte e
    (λ d. omega (arith, decimal_small byte d))
    (λ d. omega (arith, capital_value byte d, capital_bounds byte d))
