-- Laws of refusals and of the tests behind them. Assumes nothing.
use mathlib.Core.Path.{◌≡◌, refl, ap, sym, ◌∙◌}
use mathlib.Core.Bool.{Bool, true, false, ◌&&◌}
use Prim.Native.Nat.{ℕ, zero, suc, ◌≤◌, ◌<◌}
use native.Mathlib.Omega.{arith}
use Rattle.refusals.specs.Refusals.{◌when◌, ◌else◌, lower, Outcome, done, refused, unless}

-- both parts of a test that passes
pub both : (a b : Bool) → (a && b) ≡ true → (a ≡ true) × (b ≡ true)
both true b e = (refl, e)
both false b e = let z : ◌≡◌ {A = ℕ} 0 1 = cc in absurd (omega arith)

pub when_none : (n : ℕ) (b : Bool) → suc n when b ≡ 0 → b ≡ false
when_none n true e = absurd (omega arith)
when_none n false e = refl

pub else_none : (a b : ℕ) → (a else b) ≡ 0 → (a ≡ 0) × (b ≡ 0)
else_none zero b e = (refl, e)
else_none (suc a) b e = absurd (omega arith)

-- `lower` is an order's minimum: 0 is its top
pub lower_none : (a : ℕ) → lower a 0 ≡ a
lower_none zero = refl
lower_none (suc a) = refl

pub lower_assoc : (a b c : ℕ) → lower (lower a b) c ≡ lower b (lower a c)
lower_assoc zero b c = refl
lower_assoc (suc a) zero c = refl
lower_assoc (suc a) (suc b) zero = omega arith
lower_assoc (suc a) (suc b) (suc c) = omega arith

-- the lower of two numbers, by the tests that the code makes
pub lower_here : (here before : ℕ) → before ≡ 0 → here ≡ lower here before
lower_here here before none = rw none (sym (lower_none here))

pub lower_less : (here before : ℕ) → (here ≡ 0 → ⊥) → here < before → here ≡ lower here before
lower_less zero before some less = absurd (some refl)
lower_less (suc here) zero some less = refl
lower_less (suc here) (suc before) some less = omega arith

pub lower_more : (here before : ℕ) → (here ≡ 0 → ⊥) → (before ≡ 0 → ⊥) → before ≤ here → before ≡ lower here before
lower_more zero before some some' more = absurd (some refl)
lower_more (suc here) zero some some' more = absurd (some' refl)
lower_more (suc here) (suc before) some some' more = omega arith

-- What a refusal found by its rule makes of an outcome.
module _ {A : Type 0} (value : A) where
  pub refuses : {n m : ℕ} → n ≡ m → (n ≡ 0 → ⊥) → refused n ≡ unless m value
  unfolding unless
  refuses {n} e some = rw (← e) (go n some)
    where
      go : (k : ℕ) → (k ≡ 0 → ⊥) → refused k ≡ unless k value
      go zero h = absurd (h refl)
      go (suc k) h = refl

  pub refuses_first : {n m : ℕ} (later : ℕ) → n ≡ m → (n ≡ 0 → ⊥) → refused n ≡ unless (m else later) value
  unfolding unless
  refuses_first {n} later e some = rw (← e) (go n some)
    where
      go : (k : ℕ) → (k ≡ 0 → ⊥) → refused k ≡ unless (k else later) value
      go zero h = absurd (h refl)
      go (suc k) h = refl

  pub does : {n : ℕ} → n ≡ 0 → unless n value ≡ done value
  unfolding unless
  does e = rw e

-- what is done was not refused
pub was_done : {A : Type 0} (n : ℕ) (value result : A) → unless n value ≡ done result → (n ≡ 0) × (value ≡ result)
unfolding unless
was_done zero value result e = (refl, cc)
was_done (suc n) value result e = let z : ◌≡◌ {A = ℕ} 0 1 = cc in absurd (omega arith)

-- what was refused was refused with the number that the rule gives
pub was_refused : {A : Type 0} (n m : ℕ) (value : A) → unless n value ≡ refused m → n ≡ m
unfolding unless
was_refused zero m value e = let z : ◌≡◌ {A = ℕ} 0 1 = cc in absurd (omega arith)
was_refused (suc n) m value e = cc

-- and some rule gave it
pub refused_some : {A : Type 0} (n m : ℕ) (value : A) → unless n value ≡ refused m → m ≡ 0 → ⊥
unfolding unless
refused_some zero m value e none = let z : ◌≡◌ {A = ℕ} 0 1 = cc in absurd (omega arith)
refused_some (suc n) m value e none = let z : suc n ≡ m = cc in absurd (omega arith)

pub else_assoc : (a b later : ℕ) → (a else (b else later)) ≡ ((a else b) else later)
else_assoc zero b later = refl
else_assoc (suc a) b later = refl

pub else_some : (a later : ℕ) → (a ≡ 0 → ⊥) → (a else later) ≡ a
else_some zero later some = absurd (some refl)
else_some (suc a) later some = refl

-- a meaning from which each value can be had back tells any two values apart
pub told_apart : {A B : Type 0} (meaning : A → B) (back : B → A) → ((a : A) → back (meaning a) ≡ a)
    → (a b : A) → meaning a ≡ meaning b → a ≡ b
told_apart meaning back had a b e = sym (had a) ∙ ap back e ∙ had b

-- an answer of two cases, got back from what it means
abbrev pub back : {A B : Type 0} → (A → B) → (ℕ → B) → Outcome A → B
back good bad (done value) = good value
back good bad (refused number) = bad number
