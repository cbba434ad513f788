-- Laws of decimal digits: they read back as the number, without padding, and they are few. Assumes nothing.
use mathlib.Core.Path.{◌≡◌, refl, ap, sym, ◌∙◌}
use mathlib.Core.Bool.{Bool, true, false}
use mathlib.Core.List.{List, [], ◌∷◌, ◌++◌, append_assoc}
use Prim.Native.Nat.{ℕ, zero, suc, ◌+◌, ◌-◌, ◌*◌, ◌/◌, ◌^◌, ◌≤◌, ◌<◌}
use native.Mathlib.Nat.{pow-suc}
use native.Mathlib.Omega.{arith}
use lib.Dec.{ltb}
use lib.ListN.{length, get_or, length-append, get_or-append}
use borrow.Author.Tests.{ltb-true, ltb-false, lt-ltb, le-ltb}
use Rattle.listing_rules.specs.Decimals.{digit, two, decimal_within, decimal, value_behind, value_of}

-- the last digit, or a tenth's digits in front of it
within_last : (steps n : ℕ) → n < 10 → decimal_within steps n ≡ digit n ∷ []
unfolding decimal_within
within_last zero n small = refl
within_last (suc steps) n small = rw (decimal_within, lt-ltb n 10 small)

within_more : (steps n : ℕ) → 10 ≤ n → decimal_within (suc steps) n ≡ decimal_within steps (n / 10) ++ digit n ∷ []
unfolding decimal_within
within_more steps n large = rw (decimal_within, le-ltb n 10 large)

-- A fact of the digits of every number, from numbers below ten and from a tenth to the whole.
module _ (P : ℕ → List ℕ → Type 0) (last : (n : ℕ) → n < 10 → P n (digit n ∷ []))
    (more : (n : ℕ) (digits : List ℕ) → 10 ≤ n → P (n / 10) digits → P n (digits ++ digit n ∷ [])) where
  within_all : (steps n : ℕ) → n ≤ steps → P n (decimal_within steps n)
  within_all zero n h = rw (within_last zero n (omega arith)) (last n (omega arith))
  within_all (suc steps) n h = go (ltb n 10) refl (λ large. within_all steps (n / 10) (omega arith))
    where
      go : (t : Bool) → ltb n 10 ≡ t → (10 ≤ n → P (n / 10) (decimal_within steps (n / 10))) → P n (decimal_within (suc steps) n)
      go true e under = let small = ltb-true n 10 e in rw (within_last (suc steps) n small) (last n small)
      go false e under = let large = ltb-false n 10 e in rw (within_more steps n large) (more n _ large (under large))

  pub every_decimal : (n : ℕ) → P n (decimal n)
  unfolding decimal
  every_decimal n = within_all n n (omega arith)

-- two bounds that are enough give the same digits
within_same : (s t n : ℕ) → n ≤ s → n ≤ t → decimal_within s n ≡ decimal_within t n
within_same zero t n hs ht = within_last zero n (omega arith) ∙ sym (within_last t n (omega arith))
within_same (suc s) zero n hs ht = within_last (suc s) n (omega arith) ∙ sym (within_last zero n (omega arith))
within_same (suc s) (suc t) n hs ht = go (ltb n 10) refl (λ large. within_same s t (n / 10) (omega arith) (omega arith))
  where
    go : (b : Bool) → ltb n 10 ≡ b → (10 ≤ n → decimal_within s (n / 10) ≡ decimal_within t (n / 10))
        → decimal_within (suc s) n ≡ decimal_within (suc t) n
    go true e under = let small = ltb-true n 10 e in within_last (suc s) n small ∙ sym (within_last (suc t) n small)
    go false e under =
        let large = ltb-false n 10 e in
        within_more s n large ∙ ap (λ l. l ++ digit n ∷ []) (under large) ∙ sym (within_more t n large)

pub decimal_last : (n : ℕ) → n < 10 → decimal n ≡ digit n ∷ []
unfolding decimal
decimal_last n small = within_last n n small

pub decimal_more : (n : ℕ) → 10 ≤ n → decimal n ≡ decimal (n / 10) ++ digit n ∷ []
unfolding decimal
decimal_more zero large = absurd (omega arith)
decimal_more (suc n) large =
    within_more n (suc n) large
    ∙ ap (λ l. l ++ digit (suc n) ∷ []) (within_same n (suc n / 10) (suc n / 10) (omega arith) (omega arith))

-- two digits at a time
pub decimal_pair : (n : ℕ) → 10 ≤ n → n < 100 → decimal n ≡ two n
decimal_pair n some few = decimal_more n some ∙ ap (λ l. l ++ digit n ∷ []) (decimal_last (n / 10) (omega arith))

pub decimal_pairs : (n : ℕ) → 100 ≤ n → decimal n ≡ decimal (n / 100) ++ two n
decimal_pairs n large =
    let hundreds : n / 10 / 10 ≡ n / 100 = omega arith in
    decimal_more n (omega arith)
    ∙ ap (λ l. l ++ digit n ∷ []) (decimal_more (n / 10) (omega arith) ∙ ap (λ k. decimal k ++ digit (n / 10) ∷ []) hundreds)
    ∙ append_assoc (decimal (n / 100)) (digit (n / 10) ∷ []) (digit n ∷ [])

-- the digits read back as the number
value_behind_law : (before : ℕ) (xs ys : List ℕ) → value_behind before (xs ++ ys) ≡ value_behind (value_behind before xs) ys
value_behind_law before [] ys = refl
value_behind_law before (x ∷ xs) ys = value_behind_law (10 * before + (x - 48)) xs ys

pub reads_back_law : (n : ℕ) → value_of (decimal n) ≡ n
reads_back_law n =
    every_decimal (λ k digits. value_of digits ≡ k) (λ k small. omega arith)
    (λ k digits large e. value_behind_law 0 digits (digit k ∷ []) ∙ omega (arith, e)) n

-- no padding: the first digit of a number is no 0, unless the number is
record Unpadded (n : ℕ) (digits : List ℕ) : Type 0 where
  pub some : 0 < length digits
  pub first : 0 < n → 48 < get_or digits 0 0

unpadded : (n : ℕ) → Unpadded n (decimal n)
unpadded n =
    every_decimal Unpadded (λ k small. record { some = omega arith; first = λ p. omega arith })
    (λ k digits large u.
    record {
      some = omega (arith, u.some, length-append digits (digit k ∷ []));
      first = λ p. omega (arith, u.first (omega arith), get_or-append digits (digit k ∷ []) 0 0 u.some);
    }) n

pub no_padding : (n : ℕ) → 0 < n → 48 < get_or (decimal n) 0 0
no_padding n p = (unpadded n).first p

-- a number below a power of ten has no more digits than the power has noughts
pub few_digits : (k n : ℕ) → n < 10 ^ suc k → length (decimal n) ≤ suc k
few_digits zero n h = omega (arith, ap length (decimal_last n (omega arith)))
few_digits (suc k) n h = go (ltb n 10) refl (λ less. few_digits k (n / 10) less)
  where
    go : (t : Bool) → ltb n 10 ≡ t → (n / 10 < 10 ^ suc k → length (decimal (n / 10)) ≤ suc k) → length (decimal n) ≤ suc (suc k)
    go true e under = omega (arith, ap length (decimal_last n (ltb-true n 10 e)))
    go false e under =
        let large = ltb-false n 10 e in
        omega (arith, ap length (decimal_more n large), length-append (decimal (n / 10)) (digit n ∷ []), under (omega (arith, pow-suc 10 (suc k))))
