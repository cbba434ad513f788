-- The table's lengths are those of the rows, of the telegrams, and of the bytes that a layout is found for. Assumes nothing.
use mathlib.Core.Path.{◌≡◌, refl, ap, ◌∙◌}
use mathlib.Core.Bool.{Bool, true, false, cond, not, ◌||◌}
use mathlib.Core.List.{List, [], ◌∷◌, map}
use Prim.Native.Nat.{ℕ, suc, ◌+◌, ◌-◌}
use native.Mathlib.Omega.{arith}
use lib.Dec.{eqb}
use lib.ListN.{length, take, drop, length-take, length-drop}
use borrow.Author.Tests.{eqb-true, eqb-false, eq-eqb, ne_eqb}
use Rattle.refusals.specs.Refusals.{done, refused, unless}
use Rattle.record_rules.specs.declared.DatedLayout.TheVariants.{L6021, L2000, L5500, L5050}
use Rattle.record_rules.specs.declared.TimeLayout.TheVariants.{T6021, T5500, T5050}
use Rattle.record_rules.specs.declared.Record.{Record}
use Rattle.layouts_rules.specs.declared.Layout.{Layout}
use Rattle.layouts_rules.specs.declared.Layout.TheVariants as layouts
use Rattle.layouts_rules.specs.Layouts.{places_of, own_layout, by_trailer, layout_of}
use Rattle.trailer_rules.specs.declared.Order.{Order}
use Rattle.trailer_rules.proofs.TrailerLaws.{length_in_order}
use Rattle.telegram_rules.specs.Reading.{body_of, body_in}
use Rattle.telegram_rules.specs.Writing.{telegram_in, telegram_of}
use Rattle.telegram_rules.proofs.WriteLaws.{length_body, length_framed}
use Rattle.telegram_rules.proofs.InOrder.{length_telegram}
use Rattle.demands.specs.Lengths.{seven_layouts, length_in, length_of}
use Rattle.demands.specs.Numbers.{◌given_when◌, among, ◌by_first◌}

two_more : (layout : Layout) → length (places_of layout) + 2 ≡ length_in layout
unfolding places_of
two_more (layouts.Dated L6021) = refl
two_more (layouts.Dated L2000) = refl
two_more (layouts.Dated L5500) = refl
two_more (layouts.Dated L5050) = refl
two_more (layouts.TimeOnly T6021) = refl
two_more (layouts.TimeOnly T5500) = refl
two_more (layouts.TimeOnly T5050) = refl

printed_length : (control : Bool) (rec : Record) → length (telegram_of control rec) ≡ length_of control (own_layout rec)
printed_length true rec = length_framed rec ∙ ap (λ n. n + 2) (length_body rec) ∙ two_more (own_layout rec)
printed_length false rec = omega (arith, length_body rec, two_more (own_layout rec))

pub telegram_length : (order : Order) (control : Bool) (rec : Record) → length (telegram_in order control rec) ≡ length_of control (own_layout rec)
telegram_length order control rec = length_telegram order control rec ∙ printed_length control rec

-- a layout is found exactly for a length of the table
pub found : (bytes : List ℕ) → layout_of bytes by_first 1 given_when not (among (map (length_of false) seven_layouts) (length bytes)) ∷ []
unfolding layout_of unless
found bytes =
    by_length (eqb (length bytes) 16) (eqb (length bytes) 8) (eqb (length bytes) 18) (eqb (length bytes) 19) (eqb (length bytes) 23) (eqb (length bytes) 11)
  where
    by_length : (a b c d e f : Bool)
        → cond a (done (layouts.Dated L6021)) (cond b (done (by_trailer bytes)) (cond c (done (layouts.Dated L2000))
        (cond d (done (layouts.Dated L5500)) (cond e (done (layouts.Dated L5050)) (cond f (done (layouts.TimeOnly T5050)) (refused 1))))))
        by_first 1 given_when not (a || (b || (c || (d || (b || (e || (f || false))))))) ∷ []
    by_length true b c d e f = refl
    by_length false true c d e f = refl
    by_length false false true d e f = refl
    by_length false false false true e f = refl
    by_length false false false false true f = refl
    by_length false false false false false true = refl
    by_length false false false false false false = refl

-- and with control characters for a length two more
shift : (n k : ℕ) → eqb (n - 2) (suc k) ≡ eqb n (suc k + 2)
shift n k = go (eqb n (suc k + 2)) refl
  where
    go : (t : Bool) → eqb n (suc k + 2) ≡ t → eqb (n - 2) (suc k) ≡ t
    go true e = let same = eqb-true n (suc k + 2) e in eq-eqb (n - 2) (suc k) (omega arith)
    go false e = let other = eqb-false n (suc k + 2) e in ne_eqb (n - 2) (suc k) (λ same. other (omega arith))

body_in_table : (control : Bool) (bytes : List ℕ)
    → among (map (length_of false) seven_layouts) (length (body_of control bytes)) ≡ among (map (length_of control) seven_layouts) (length bytes)
body_in_table false bytes = refl
body_in_table true bytes =
    let n = length bytes in
    let body : length (take (n - 2) (drop 1 bytes)) ≡ n - 2 = omega (arith, length-take (n - 2) (drop 1 bytes), length-drop 1 bytes) in
    rw (body, shift n 15, shift n 7, shift n 17, shift n 18, shift n 22, shift n 10)

pub length_in_table : (order : Order) (control : Bool) (bytes : List ℕ)
    → among (map (length_of false) seven_layouts) (length (body_in order control bytes)) ≡ among (map (length_of control) seven_layouts) (length bytes)
length_in_table order control bytes =
    ap (among (map (length_of false) seven_layouts)) (length_in_order order (body_of control bytes)) ∙ body_in_table control bytes
