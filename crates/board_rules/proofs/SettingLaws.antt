-- Laws of settings, for both boards. Assumes nothing.
use mathlib.Core.Path.{◌≡◌, refl, ap, sym}
use mathlib.Core.Bool.{Bool, true, false, cond, not, ◌||◌}
use Prim.Native.Nat.{ℕ, ◌<◌}
use native.Mathlib.Omega.{arith}
use lib.Dec.{eqb}
use borrow.Author.Tests.{eqb-true, ltb-true, not-false}
use Rattle.refusals.specs.Refusals.{◌when◌, Outcome, done, refused, unless}
use Rattle.refusals.proofs.Laws.{both, when_none, was_done}
use Rattle.board_rules.specs.declared.Parity.{Parity}
use Rattle.board_rules.specs.declared.Parity.TheVariants.{None, Even, Odd}
use Rattle.board_rules.specs.Rates.{rate_row}
use Rattle.board_rules.specs.Settings.{at_parity, is_offered}

-- whether two answers about a byte are the same
abbrev pub same : Outcome ℕ → Outcome ℕ → Bool
same (done byte) (done other) = eqb byte other
same (refused number) (refused other) = eqb number other
same (done byte) (refused other) = false
same (refused number) (done other) = false

pub same_true : (answer other : Outcome ℕ) → same answer other ≡ true → answer ≡ other
same_true (done byte) (done other) e = ap done (eqb-true byte other e)
same_true (refused number) (refused other) e = ap refused (eqb-true number other e)
same_true (done byte) (refused other) e = let z : ◌≡◌ {A = ℕ} 0 1 = cc in absurd (omega arith)
same_true (refused number) (done other) e = let z : ◌≡◌ {A = ℕ} 0 1 = cc in absurd (omega arith)

-- a switch that is told of each parity is told of any
pub of_each : (switch : Parity → Bool) (parity : Parity) → at_parity parity (switch None) (switch Even) (switch Odd) ≡ switch parity
of_each switch None = refl
of_each switch Even = refl
of_each switch Odd = refl

-- a number that is one of two comes back from the test for the one, and from the test for the other
pub by_the_one : (n one other : ℕ) → (eqb n one || eqb n other) ≡ true → cond (eqb n one) one other ≡ n
by_the_one n one other either = go (eqb n one) refl either
  where
    go : (t : Bool) → eqb n one ≡ t → (t || eqb n other) ≡ true → cond t one other ≡ n
    go true e either = sym (eqb-true n one e)
    go false e either = sym (eqb-true n other either)

or_turned : (a b : Bool) → (a || b) ≡ true → (b || a) ≡ true
or_turned true true e = refl
or_turned true false e = refl
or_turned false true e = refl
or_turned false false e = e

pub by_the_other : (n one other : ℕ) → (eqb n one || eqb n other) ≡ true → cond (eqb n other) other one ≡ n
by_the_other n one other either = by_the_one n other one (or_turned (eqb n one) (eqb n other) either)

-- the three tests that what is offered passes
pub offered_parts : (data_bits stop_bits baud : ℕ) → is_offered data_bits stop_bits baud ≡ true
    → ((eqb data_bits 8 || eqb data_bits 7) ≡ true) × ((eqb stop_bits 1 || eqb stop_bits 2) ≡ true) × (rate_row baud < 8)
unfolding is_offered
offered_parts data_bits stop_bits baud e =
    let first = both _ _ e in
    let more = both _ _ first.1 in
    (first.0, more.0, ltb-true (rate_row baud) 8 more.1)

-- what is written was offered
pub was_offered : (offers : Bool) (value byte : ℕ) → unless (16 when not offers) value ≡ done byte → (offers ≡ true) × (value ≡ byte)
was_offered offers value byte e =
    let written = was_done (16 when not offers) value byte e in
    (not-false offers (when_none 15 (not offers) written.0), written.1)
