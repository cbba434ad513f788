-- Laws of the seven rows: each is a test that antt computes, and one law carries it to any layout. Assumes nothing.
use mathlib.Core.Path.{◌≡◌, refl, ap, sym, ◌∙◌}
use mathlib.Core.Bool.{Bool, true, false, cond, ◌&&◌}
use mathlib.Core.List.{List, map}
use Prim.Native.Nat.{ℕ, ◌≤◌, ◌<◌}
use native.Mathlib.Omega.{arith}
use lib.Dec.{leb, ltb, eqb}
use lib.ListN.{length, get_or, length-map}
use borrow.Author.Tests.{leb-true, eqb-true}
use Rattle.refusals.specs.Refusals.{Outcome, done}
use Rattle.refusals.proofs.Laws.{both}
use Rattle.refusals.proofs.Tables.{all_below, below}
use Rattle.places_rules.specs.Places.{Place, fixed, slots, place, fixed_holds, every}
use Rattle.places_rules.proofs.Rows.{distinct, sound, slotted, plain, most}
use Rattle.places_rules.proofs.RoundTrip.{every_at_law, sound_slotted, sound_plain}
use Rattle.record_rules.specs.declared.DatedLayout.TheVariants.{L6021, L2000, L5500, L5050}
use Rattle.record_rules.specs.declared.TimeLayout.TheVariants.{T6021, T5500, T5050}
use Rattle.layouts_rules.specs.declared.Layout.{Layout}
use Rattle.layouts_rules.specs.declared.Layout.TheVariants as layouts
use Rattle.layouts_rules.specs.Layouts.{places_of, row_numbers, layout_of, by_trailer}

-- what holds of each of the seven rows holds of the row of any layout
of_each : (P : List Place → Type 0)
    → P (places_of (layouts.Dated L6021)) → P (places_of (layouts.Dated L2000)) → P (places_of (layouts.Dated L5500)) → P (places_of (layouts.Dated L5050))
    → P (places_of (layouts.TimeOnly T6021)) → P (places_of (layouts.TimeOnly T5500)) → P (places_of (layouts.TimeOnly T5050)) → (layout : Layout) → P (places_of layout)
of_each P a b c d e f g (layouts.Dated L6021) = a
of_each P a b c d e f g (layouts.Dated L2000) = b
of_each P a b c d e f g (layouts.Dated L5500) = c
of_each P a b c d e f g (layouts.Dated L5050) = d
of_each P a b c d e f g (layouts.TimeOnly T6021) = e
of_each P a b c d e f g (layouts.TimeOnly T5500) = f
of_each P a b c d e f g (layouts.TimeOnly T5050) = g

-- no slot twice; every slot one of the slots, and no STX or ETX; 8 to 23 places
test : List Place → Bool
test row = distinct row && (sound row && (leb 8 (length row) && leb (length row) 23))

tested : (layout : Layout) → test (places_of layout) ≡ true
unfolding places_of test
tested = of_each (λ row. test row ≡ true) refl refl refl refl refl refl refl

pub row_distinct : (layout : Layout) → distinct (places_of layout) ≡ true
unfolding test
row_distinct layout = (both (distinct (places_of layout)) _ (tested layout)).0

pub row_sound : (layout : Layout) → sound (places_of layout) ≡ true
unfolding test
row_sound layout = (both (sound (places_of layout)) _ (both (distinct (places_of layout)) _ (tested layout)).1).0

pub row_slotted : (layout : Layout) → slotted (places_of layout) ≡ true
row_slotted layout = sound_slotted (places_of layout) (row_sound layout)

pub row_plain : (layout : Layout) → plain (places_of layout) ≡ true
row_plain layout = sound_plain (places_of layout) (row_sound layout)

pub row_length : (layout : Layout) → (8 ≤ length (places_of layout)) × (length (places_of layout) ≤ 23)
unfolding test
row_length layout =
    let rest = (both (sound (places_of layout)) _ (both (distinct (places_of layout)) _ (tested layout)).1).1 in
    let ends = both (leb 8 (length (places_of layout))) _ rest in
    (leb-true _ _ ends.0, leb-true _ _ ends.1)

-- a layout with a date shows codes in the first two slots and decimal digits in the next fourteen; one without, decimal digits in six
abbrev pub limit : Layout → ℕ → ℕ
limit (layouts.Dated layout) slot = cond (ltb slot 2) 15 (cond (ltb slot 16) 9 0)
limit (layouts.TimeOnly layout) slot = cond (ltb slot 2) 0 (cond (ltb slot 8) 9 0)

limits : (layout : Layout) → all_below slots (λ slot. leb (most (places_of layout) slot) (limit layout slot)) ≡ true
unfolding places_of
limits (layouts.Dated L6021) = refl
limits (layouts.Dated L2000) = refl
limits (layouts.Dated L5500) = refl
limits (layouts.Dated L5050) = refl
limits (layouts.TimeOnly T6021) = refl
limits (layouts.TimeOnly T5500) = refl
limits (layouts.TimeOnly T5050) = refl

pub row_limit : (layout : Layout) (slot : ℕ) → slot < slots → most (places_of layout) slot ≤ limit layout slot
row_limit layout slot inside = leb-true _ _ (below slots (λ k. leb (most (places_of layout) k) (limit layout k)) (limits layout) slot inside)

-- the numbers of a layout's row say its places
numbers_say : (layout : Layout) → map place (row_numbers layout) ≡ places_of layout
unfolding row_numbers places_of place
numbers_say (layouts.Dated L6021) = refl
numbers_say (layouts.Dated L2000) = refl
numbers_say (layouts.Dated L5500) = refl
numbers_say (layouts.Dated L5050) = refl
numbers_say (layouts.TimeOnly T6021) = refl
numbers_say (layouts.TimeOnly T5500) = refl
numbers_say (layouts.TimeOnly T5050) = refl

-- The row of a layout, as the code holds it.
module _ (layout : Layout) (row : List ℕ) (kept : row ≡ row_numbers layout) where
  pub row_kept : map place row ≡ places_of layout
  row_kept = rw kept (numbers_say layout)

  pub row_size : length row ≡ length (places_of layout)
  row_size = sym (length-map row place) ∙ ap length row_kept

-- The layout of a body, and the row of a layout, have one length.
module _ (n : ℕ) (layout : Layout) where
  -- one line of the table: a length and what it stands for
  by_length : (k : ℕ) (here later : Outcome Layout) → cond (eqb n k) here later ≡ done layout
      → (here ≡ done layout → k ≡ length (places_of layout)) → (later ≡ done layout → n ≡ length (places_of layout)) → n ≡ length (places_of layout)
  by_length k here later e yes_here no_here = go (eqb n k) refl e
    where
      go : (t : Bool) → eqb n k ≡ t → cond t here later ≡ done layout → n ≡ length (places_of layout)
      go true same f = eqb-true n k same ∙ yes_here f
      go false other f = no_here f

  stands_for : (known : Layout) (k : ℕ) → length (places_of known) ≡ k → done known ≡ done layout → k ≡ length (places_of layout)
  stands_for known k e f = let same : known ≡ layout = cc in sym e ∙ ap (λ l. length (places_of l)) same

trailer_length : (body : List ℕ) → length (places_of (by_trailer body)) ≡ 8
unfolding places_of
trailer_length body = go (eqb (get_or body 6 0) 10 && eqb (get_or body 7 0) 13)
  where
    go : (t : Bool) → length (places_of (cond t (layouts.TimeOnly T6021) (layouts.TimeOnly T5500))) ≡ 8
    go true = refl
    go false = refl

pub row_fits : (body : List ℕ) (layout : Layout) → layout_of body ≡ done layout → length body ≡ length (places_of layout)
unfolding layout_of places_of
row_fits body layout e =
    let n = length body in
    by_length n layout 16 _ _ e (stands_for n layout (layouts.Dated L6021) 16 refl)
    (λ e. by_length n layout 8 _ _ e (stands_for n layout (by_trailer body) 8 (trailer_length body))
    (λ e. by_length n layout 18 _ _ e (stands_for n layout (layouts.Dated L2000) 18 refl)
    (λ e. by_length n layout 19 _ _ e (stands_for n layout (layouts.Dated L5500) 19 refl)
    (λ e. by_length n layout 23 _ _ e (stands_for n layout (layouts.Dated L5050) 23 refl)
    (λ e. by_length n layout 11 _ _ e (stands_for n layout (layouts.TimeOnly T5050) 11 refl)
    (λ e. let z : ◌≡◌ {A = ℕ} 0 1 = cc in absurd (omega arith)))))))

-- A body that fits a layout's row is found to be of that layout.
trailer_byte : (layout : Layout) (body : List ℕ) → length body ≡ length (places_of layout) → every fixed_holds (places_of layout) body ≡ true
    → (k : ℕ) → k < length (places_of layout) → fixed_holds (get_or (places_of layout) k (fixed 0)) (get_or body k 0) ≡ true
trailer_byte layout body same holds k below = every_at_law fixed_holds (places_of layout) body (fixed 0) holds k below (omega arith)

pub found_again : (layout : Layout) (body : List ℕ) → length body ≡ length (places_of layout) → every fixed_holds (places_of layout) body ≡ true
    → layout_of body ≡ done layout
unfolding layout_of places_of
found_again (layouts.Dated L6021) body same holds = rw same
found_again (layouts.Dated L2000) body same holds = rw same
found_again (layouts.Dated L5500) body same holds = rw same
found_again (layouts.Dated L5050) body same holds = rw same
found_again (layouts.TimeOnly T5050) body same holds = rw same
found_again (layouts.TimeOnly T6021) body same holds =
    rw (same, trailer_byte (layouts.TimeOnly T6021) body same holds 6 (omega arith), trailer_byte (layouts.TimeOnly T6021) body same holds 7 (omega arith))
found_again (layouts.TimeOnly T5500) body same holds =
    let first : get_or body 6 0 ≡ 13 = eqb-true _ 13 (trailer_byte (layouts.TimeOnly T5500) body same holds 6 (omega arith)) in
    rw (same, first)
