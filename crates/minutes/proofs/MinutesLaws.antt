-- Laws of signed minutes. Assumes nothing.
use mathlib.Core.Path.{◌≡◌, refl, ap, ◌∙◌}
use mathlib.Core.Bool.{Bool, true, false}
use Prim.Native.Nat.{ℕ, zero, suc, ◌+◌, ◌*◌, ◌/◌, ◌%◌, ◌≤◌}
use native.Mathlib.Omega.{arith}
use lib.IntN.{ℤ, pos, negsuc, neg_ℤ}
use Rattle.minutes.specs.Minutes.{signed, is_minus, size_of, hours_of, minutes_of}

size_neg : (d : ℤ) → size_of (neg_ℤ d) ≡ size_of d
size_neg (pos zero) = refl
size_neg (pos (suc n)) = refl
size_neg (negsuc n) = refl

pub size_signed : (minus : Bool) (n : ℕ) → size_of (signed minus n) ≡ n
size_signed true n = size_neg (pos n)
size_signed false n = refl

pub minus_signed : (n : ℕ) → (n ≡ 0 → ⊥) → is_minus (signed true n) ≡ true
minus_signed zero some = absurd (some refl)
minus_signed (suc n) some = refl

pub plus_signed : (n : ℕ) → is_minus (signed false n) ≡ false
plus_signed n = refl

-- the sign and the minutes make the difference
signed_size : (d : ℤ) → signed (is_minus d) (size_of d) ≡ d
signed_size (pos n) = refl
signed_size (negsuc n) = refl

-- so do the sign, the hours and the minutes, of every difference
pub signed_back : (d : ℤ) → signed (is_minus d) (60 * hours_of d + minutes_of d) ≡ d
signed_back d = ap (signed (is_minus d)) whole ∙ signed_size d
  where
    whole : 60 * hours_of d + minutes_of d ≡ size_of d
    whole = omega arith

pub minutes_to_59 : (d : ℤ) → minutes_of d ≤ 59
minutes_to_59 d = omega arith

-- the hours and the minutes of what was made of them
module _ (minus : Bool) (h m : ℕ) (below_an_hour : m ≤ 59) where
  pub hours_back : hours_of (signed minus (60 * h + m)) ≡ h
  hours_back = ap (λ n. n / 60) (size_signed minus (60 * h + m)) ∙ omega arith

  pub minutes_back : minutes_of (signed minus (60 * h + m)) ≡ m
  minutes_back = ap (λ n. n % 60) (size_signed minus (60 * h + m)) ∙ omega arith
