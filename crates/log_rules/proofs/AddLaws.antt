-- Laws of an add: a telegram's own refusal comes first, then the region's place decides. Assumes nothing.
use mathlib.Core.Path.{◌≡◌, refl, ap}
use mathlib.Core.Bool.{true}
use mathlib.Core.List.{List}
use Prim.Native.Nat.{ℕ}
use native.Mathlib.Omega.{arith}
use Rattle.refusals.specs.Refusals.{Outcome, done, refused, after}
use Rattle.record_rules.specs.declared.Record.{Record}
use Rattle.telegram_rules.specs.Reading.{read_of}
use Rattle.log_rules.specs.declared.Place.{Place}
use Rattle.log_rules.specs.Good.{is_done, reads_well}
use Rattle.log_rules.specs.Add.{place_in, place_for, region_after, add_of}

-- the place decides what the region is behind the add
pub add_is : (region telegram : List ℕ) {answer : Outcome Place} → place_for region telegram ≡ answer
    → add_of region telegram ≡ (answer, region_after answer region telegram)
unfolding add_of
add_is region telegram e = ap (λ answer. (answer, region_after answer region telegram)) e

-- a telegram that is refused is given none
pub own_refusal : (region telegram : List ℕ) {number : ℕ} → read_of true telegram ≡ refused number
    → place_for region telegram ≡ refused number
unfolding place_for
own_refusal region telegram e = rw e

-- one that reads well is given the region's place, and no other is
pub reads_place : (region telegram : List ℕ) → reads_well telegram ≡ true → place_for region telegram ≡ place_in region
unfolding place_for reads_well
reads_place region telegram = go (read_of true telegram)
  where
    go : (o : Outcome Record) → is_done o ≡ true → after o (λ rec. place_in region) ≡ place_in region
    go (done rec) e = refl
    go (refused n) e = let z : ◌≡◌ {A = ℕ} 0 1 = cc in absurd (omega arith)

pub given_place : (region telegram : List ℕ) (place : Place) → place_for region telegram ≡ done place
    → (reads_well telegram ≡ true) × (place_in region ≡ done place)
unfolding place_for reads_well
given_place region telegram place = go (read_of true telegram)
  where
    go : (o : Outcome Record) → after o (λ rec. place_in region) ≡ done place → (is_done o ≡ true) × (place_in region ≡ done place)
    go (done rec) e = (refl, e)
    go (refused n) e = let z : ◌≡◌ {A = ℕ} 0 1 = cc in absurd (omega arith)
