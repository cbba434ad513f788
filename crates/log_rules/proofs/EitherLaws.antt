-- Laws of two ways: a number is less than another or not, the same or not, one of so many or beside them. Assumes nothing.
use mathlib.Core.Path.{◌≡◌, refl, sym, ◌∙◌}
use mathlib.Core.Bool.{Bool, true, false, true≢false}
use mathlib.Core.Logic.{◌⊎◌, inl, inr, ⊎_elim}
use Prim.Native.Nat.{ℕ, ◌+◌, ◌-◌, ◌≤◌, ◌<◌}
use native.Mathlib.Omega.{arith}
use lib.Dec.{eqb, ltb}
use borrow.Author.Tests.{eqb-true, eqb-false, ltb-true, ltb-false}

-- no test both passes and fails
pub clash : {b : Bool} → b ≡ true → b ≡ false → ⊥
clash t f = true≢false (sym t ∙ f)

pub lt_or_le : (a b : ℕ) → (a < b) ⊎ (b ≤ a)
lt_or_le a b = go (ltb a b) refl
  where
    go : (less : Bool) → ltb a b ≡ less → (a < b) ⊎ (b ≤ a)
    go true e = inl (ltb-true a b e)
    go false e = inr (ltb-false a b e)

pub eq_or_ne : (a b : ℕ) → (a ≡ b) ⊎ (a ≡ b → ⊥)
eq_or_ne a b = go (eqb a b) refl
  where
    go : (same : Bool) → eqb a b ≡ same → (a ≡ b) ⊎ (a ≡ b → ⊥)
    go true e = inl (eqb-true a b e)
    go false e = inr (eqb-false a b e)

-- a place is one of so many from a start on, or before them or behind them
abbrev pub Beside : ℕ → ℕ → ℕ → Type 0
Beside at start size = (at < start) ⊎ (start + size ≤ at)

pub in_or_beside : (at start size : ℕ) → ((k : ℕ) × (k < size) × (at ≡ start + k)) ⊎ Beside at start size
in_or_beside at start size =
    ⊎_elim
    (λ less. inr (inl less))
    (λ from. ⊎_elim (λ to. inl (at - start, omega arith, omega arith)) (λ past. inr (inr past)) (lt_or_le at (start + size)))
    (lt_or_le at start)

pub beside : (at start size : ℕ) → ((k : ℕ) → k < size → at ≡ start + k → ⊥) → Beside at start size
beside at start size apart =
    ⊎_elim (λ there. absurd (apart there.0 there.1 there.2)) (λ so. so) (in_or_beside at start size)
