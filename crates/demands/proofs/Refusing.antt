-- Laws of rules and of the numbers they give: rule by rule, and one thing after another. Assumes nothing.
use mathlib.Core.Path.{◌≡◌, refl, ap, sym, ◌∙◌, subst, subst⁻¹}
use mathlib.Core.Bool.{Bool, true, false, ◌&&◌, ◌||◌, or-true, or_assoc}
use mathlib.Core.List.{List, [], ◌∷◌, ◌++◌}
use Prim.Native.Nat.{ℕ, zero, suc, ◌≤◌}
use native.Mathlib.Omega.{arith}
use lib.Dec.{leb, eqb}
use borrow.Author.Tests.{leb-true}
use Rattle.refusals.specs.Refusals.{◌when◌, ◌else◌, lower, Outcome, done, refused, unless, after}
use Rattle.refusals.proofs.Laws.{both, else_assoc, was_done}
use Rattle.demands.specs.Numbers.{Rule, ◌given_when◌, lowest, first_of, all_from, in_order, TheFirstIsTheLowest, ◌refused_by◌, ◌by_first◌, among, ◌done_or◌, ◌none_or◌}

pub else_nothing : (n : ℕ) → (n else 0) ≡ n
else_nothing zero = refl
else_nothing (suc n) = refl

-- none, or a number from n on
abbrev From : ℕ → ℕ → Type 0
From n zero = Unit {0}
From n (suc m) = n ≤ suc m

first_from : (n : ℕ) (rules : List Rule) → all_from n rules ≡ true → From n (first_of rules)
first_from n [] e = tt
first_from n (m given_when holds ∷ rules) e =
    let parts = both (leb n m) (all_from n rules) e in
    go m holds (leb-true n m parts.0) (first_from n rules parts.1)
  where
    go : (k : ℕ) (holds : Bool) → n ≤ k → From n (first_of rules) → From n (k when holds else first_of rules)
    go zero true le later = later
    go (suc k) true le later = le
    go k false le later = later

pub first_is_lowest : TheFirstIsTheLowest
first_is_lowest [] e = refl
first_is_lowest (n given_when holds ∷ rules) e =
    let parts = both (all_from n rules) (in_order rules) e in
    go n holds (first_of rules) (first_from n rules parts.0) ∙ ap (lower (n when holds)) (first_is_lowest rules parts.1)
  where
    go : (k : ℕ) (holds : Bool) (later : ℕ) → From k later → (k when holds else later) ≡ lower (k when holds) later
    go zero true later from = refl
    go (suc k) true zero from = refl
    go (suc k) true (suc later) from = omega arith
    go k false later from = refl

-- rules behind others
pub first_of_both : (first second : List Rule) → first_of (first ++ second) ≡ (first_of first else first_of second)
first_of_both [] second = refl
first_of_both (n given_when holds ∷ first) second =
    ap (λ later. n when holds else later) (first_of_both first second) ∙ else_assoc (n when holds) (first_of first) (first_of second)

-- what a number refuses, rules refuse that give that number
pub by_lowest : {A : Type 0} (outcome : Outcome A) (rules : List Rule) → in_order rules ≡ true → outcome by_first rules → outcome refused_by rules
by_lowest outcome rules order by = by ∙ ap (λ n. unless n tt) (first_is_lowest rules order)

pub unless_by : {A : Type 0} (n : ℕ) (value : A) (rules : List Rule) → n ≡ first_of rules → unless n value by_first rules
unfolding unless
unless_by n value rules e = go n ∙ ap (λ k. unless k tt) e
  where
    go : (k : ℕ) → after (unless k value) (λ v. done tt) ≡ unless {A = Unit {0}} k tt
    go zero = refl
    go (suc k) = refl

-- one thing after another: the rules of the second stand behind those of the first
pub after_by : {A B : Type 0} (first : Outcome A) (next : A → Outcome B) (rules later : List Rule) → first by_first rules
    → ((value : A) → first ≡ done value → next value by_first later) → after first next by_first rules ++ later
unfolding unless
after_by {A} first next rules later by on =
    go first (first_of rules) refl by ∙ ap (λ k. unless k tt) (sym (first_of_both rules later))
  where
    go : (o : Outcome A) (k : ℕ) → first ≡ o → after o (λ v. done tt) ≡ unless {A = Unit {0}} k tt
        → after (after o next) (λ v. done tt) ≡ unless {A = Unit {0}} (k else first_of later) tt
    go (done value) zero is e = on value is
    go (done value) (suc k) is e = cc
    go (refused n) zero is e = cc
    go (refused n) (suc k) is e = e

-- the same behind a number
pub then_by : {A B : Type 0} (n : ℕ) (value : A) (next : A → Outcome B) (rules later : List Rule) → n ≡ first_of rules
    → next value by_first later → after (unless n value) next by_first rules ++ later
then_by n value next rules later e on =
    after_by (unless n value) next rules later (unless_by n value rules e)
    (λ v is. subst (λ w. next w by_first later) (was_done n value v is).1 on)

-- and the numbers are those of either
among_both : (numbers more : List ℕ) (n : ℕ) → among (numbers ++ more) n ≡ (among numbers n || among more n)
among_both [] more n = refl
among_both (first ∷ numbers) more n =
    ap (λ t. eqb n first || t) (among_both numbers more n) ∙ sym (or_assoc (eqb n first) (among numbers n) (among more n))

pub after_or : {A B : Type 0} (first : Outcome A) (next : A → Outcome B) (numbers more : List ℕ) → first done_or numbers
    → ((value : A) → next value done_or more) → after first next done_or numbers ++ more
after_or {A} {B} (done value) next numbers more by on = go (next value) (on value)
  where
    go : (o : Outcome B) → o done_or more → o done_or numbers ++ more
    go (done v) e = tt
    go (refused n) e = rw (among_both numbers more n, e) (or-true (among numbers n))
after_or (refused n) next numbers more by on = rw (among_both numbers more n, by)

-- rules that give none but these numbers
abbrev pub all_among : List ℕ → List Rule → Bool
all_among numbers [] = true
all_among numbers (n given_when holds ∷ rules) = among numbers n && all_among numbers rules

module _ (numbers : List ℕ) where
  number_or_none : (n : ℕ) → among numbers n ≡ true → n none_or numbers
  number_or_none zero e = tt
  number_or_none (suc n) e = e

  one_of_two : (n later : ℕ) → n none_or numbers → later none_or numbers → (n else later) none_or numbers
  one_of_two zero later a b = b
  one_of_two (suc n) later a b = a

  by_rule : (n : ℕ) (holds : Bool) → among numbers n ≡ true → n when holds none_or numbers
  by_rule n true e = number_or_none n e
  by_rule n false e = tt

  first_among : (rules : List Rule) → all_among numbers rules ≡ true → first_of rules none_or numbers
  first_among [] e = tt
  first_among (n given_when holds ∷ rules) e =
      let parts = both (among numbers n) (all_among numbers rules) e in
      one_of_two (n when holds) (first_of rules) (by_rule n holds parts.0) (first_among rules parts.1)

  told_apart : {A : Type 0} (outcome : Outcome A) → after {B = Unit {0}} outcome (λ v. done tt) done_or numbers → outcome done_or numbers
  told_apart (done value) e = tt
  told_apart (refused n) e = e

  unless_among : (n : ℕ) → n none_or numbers → unless {A = Unit {0}} n tt done_or numbers
  unfolding unless
  unless_among zero e = tt
  unless_among (suc n) e = e

  pub done_or_law : {A : Type 0} (outcome : Outcome A) (rules : List Rule) → outcome by_first rules → all_among numbers rules ≡ true
      → outcome done_or numbers
  done_or_law outcome rules by all =
      told_apart outcome (subst⁻¹ (λ o. o done_or numbers) by (unless_among (first_of rules) (first_among rules all)))

  -- one test of a list of rules: they stand in the order of their numbers, and the numbers are these
  abbrev pub tested : List Rule → Bool
  tested rules = in_order rules && all_among numbers rules

  pub refuses : {A : Type 0} (outcome : Outcome A) (rules : List Rule) → outcome by_first rules → tested rules ≡ true
      → (outcome refused_by rules) × (outcome done_or numbers)
  refuses outcome rules by test =
      let parts = both (in_order rules) (all_among numbers rules) test in
      (by_lowest outcome rules parts.0 by, done_or_law outcome rules by parts.1)

  pub gives : (n : ℕ) (rules : List Rule) → n ≡ first_of rules → tested rules ≡ true → (n ≡ lowest rules) × (n none_or numbers)
  gives n rules e test =
      let parts = both (in_order rules) (all_among numbers rules) test in
      (e ∙ first_is_lowest rules parts.0, subst⁻¹ (λ k. k none_or numbers) e (first_among rules parts.1))
