-- The rows of a table, one behind another; and a rule for small numbers, shown at all of them by one test that antt computes.
-- Assumes nothing.
use mathlib.Core.Path.{◌≡◌, refl, ap, ◌∙◌}
use mathlib.Core.Bool.{Bool, true, false, ◌&&◌}
use Prim.Native.Nat.{ℕ, zero, suc, ◌<◌}
use native.Mathlib.Omega.{arith}
use lib.Dec.{eqb}
use borrow.Author.Tests.{eqb-true, eqb-false}
use Rattle.refusals.proofs.Laws.{both}

-- proofs of a table's rows side by side, without a bracket for each
infixr 5 ◌also◌
pub ◌also◌ : {A B : Type 0} → A → B → A × B
◌also◌ a b = (a, b)

-- the test passes at every number below n
abbrev pub all_below : ℕ → (ℕ → Bool) → Bool
all_below zero test = true
all_below (suc n) test = test n && all_below n test

pub below : (n : ℕ) (test : ℕ → Bool) → all_below n test ≡ true → (k : ℕ) → k < n → test k ≡ true
below zero test e k h = absurd (omega arith)
below (suc n) test e k h =
    let parts = both (test n) (all_below n test) e in
    go (eqb k n) refl parts.0 (λ less. below n test parts.1 k less)
  where
    go : (t : Bool) → eqb k n ≡ t → test n ≡ true → (k < n → test k ≡ true) → test k ≡ true
    go true same here under = ap test (eqb-true k n same) ∙ here
    go false other here under = let apart = eqb-false k n other in under (omega arith)
