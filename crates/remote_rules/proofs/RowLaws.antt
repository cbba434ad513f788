-- Laws of the ten rows: each is a test that antt computes, and one law carries it to any form. Assumes nothing.
use mathlib.Core.Path.{◌≡◌, refl, ap, sym, ◌∙◌}
use mathlib.Core.Bool.{true}
use mathlib.Core.List.{List, map}
use Prim.Native.Nat.{ℕ, ◌≤◌}
use lib.Dec.{leb}
use lib.ListN.{length, length-map}
use borrow.Author.Tests.{leb-true}
use Rattle.places_rules.specs.Places.{place}
use Rattle.places_rules.proofs.Rows.{distinct, slotted, plain}
use Rattle.remote_rules.specs.declared.rows.Form.{Form}
use Rattle.remote_rules.specs.declared.rows.Form.TheVariants.{Tim, TimAsked, DifPlus, DifMinus, DifAsked, PosWestNorth, PosWestSouth, PosEastNorth, PosEastSouth, PosAsked}
use Rattle.remote_rules.specs.Rows.{inner_row, row_of, row_numbers}

-- what holds of each of the ten forms holds of any
pub of_each : (P : Form → Type 0) → P Tim → P TimAsked → P DifPlus → P DifMinus → P DifAsked
    → P PosWestNorth → P PosWestSouth → P PosEastNorth → P PosEastSouth → P PosAsked → (form : Form) → P form
of_each P a b c d e f g h i j Tim = a
of_each P a b c d e f g h i j TimAsked = b
of_each P a b c d e f g h i j DifPlus = c
of_each P a b c d e f g h i j DifMinus = d
of_each P a b c d e f g h i j DifAsked = e
of_each P a b c d e f g h i j PosWestNorth = f
of_each P a b c d e f g h i j PosWestSouth = g
of_each P a b c d e f g h i j PosEastNorth = h
of_each P a b c d e f g h i j PosEastSouth = i
of_each P a b c d e f g h i j PosAsked = j

-- no slot twice; every slot one of the slots
pub row_distinct : (form : Form) → distinct (row_of form) ≡ true
unfolding row_of inner_row
row_distinct = of_each (λ form. distinct (row_of form) ≡ true) refl refl refl refl refl refl refl refl refl refl

pub row_slotted : (form : Form) → slotted (row_of form) ≡ true
unfolding row_of inner_row
row_slotted = of_each (λ form. slotted (row_of form) ≡ true) refl refl refl refl refl refl refl refl refl refl

-- no STX and no ETX between them, and at most 28 characters
pub inner_plain : (form : Form) → plain (inner_row form) ≡ true
unfolding inner_row
inner_plain = of_each (λ form. plain (inner_row form) ≡ true) refl refl refl refl refl refl refl refl refl refl

inner_test : (form : Form) → leb (length (inner_row form)) 28 ≡ true
unfolding inner_row
inner_test = of_each (λ form. leb (length (inner_row form)) 28 ≡ true) refl refl refl refl refl refl refl refl refl refl

pub inner_length : (form : Form) → length (inner_row form) ≤ 28
inner_length form = leb-true _ _ (inner_test form)

-- the numbers of a form's row say its places
numbers_say : (form : Form) → map place (row_numbers form) ≡ row_of form
unfolding row_numbers row_of inner_row place
numbers_say = of_each (λ form. map place (row_numbers form) ≡ row_of form) refl refl refl refl refl refl refl refl refl refl

-- The row of a form, as the code holds it.
module _ (form : Form) (row : List ℕ) (kept : row ≡ row_numbers form) where
  pub row_kept : map place row ≡ row_of form
  row_kept = rw kept (numbers_say form)

  pub row_size : length row ≡ length (row_of form)
  row_size = sym (length-map row place) ∙ ap length row_kept
