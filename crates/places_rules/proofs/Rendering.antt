-- Laws of rendering: a row's bytes over a buffer, one place after the other. Assumes nothing.
use mathlib.Core.Path.{◌≡◌, refl, ap, ap₂, sym, ◌∙◌}
use mathlib.Core.Bool.{Bool, true, false}
use mathlib.Core.List.{List, [], map}
use Prim.Native.Nat.{ℕ, ◌+◌, ◌≤◌, ◌<◌, min}
use native.Mathlib.Nat.{zero-add}
use native.Mathlib.Numerals.{add-one}
use native.Mathlib.Omega.{arith}
use lib.Dec.{leb}
use borrow.Author.Tests.{leb-true, leb-false}
use lib.ListN.{length, take, drop, get_or, set, length-map, get_or-map, drop_of_length-le}
use lib.Seq.{paste, paste-zero, paste-suc, take_all}
use Rattle.places_rules.specs.Places.{Place, place, byte_at, render, over}

-- a row makes one byte a place
pub length_render : (row : List Place) (digits : List ℕ) → length (render row digits) ≡ length row
unfolding render
length_render row digits = length-map row (byte_at digits)

module _ (row : List ℕ) (digits : List ℕ) (out : List ℕ) where
  length_bytes : length (render (map place row) digits) ≡ length row
  length_bytes = length_render (map place row) digits ∙ length-map row place

  -- the buffer with the first n bytes laid over it
  abbrev pub laid : ℕ → List ℕ
  laid n = paste out 0 (render (map place row) digits) n

  pub laid_none : out ≡ laid 0
  laid_none = paste-zero out 0 (render (map place row) digits)

  byte_is : (at : ℕ) → get_or (render (map place row) digits) at (byte_at digits (place 0)) ≡ byte_at digits (place (get_or row at 0))
  unfolding render
  byte_is at = get_or-map (byte_at digits) (map place row) at (place 0) ∙ ap (byte_at digits) (get_or-map place row at 0)

  pub laid_next : (at : ℕ) → at < length row → at < length out
      → set (laid at) at (byte_at digits (place (get_or row at 0))) ≡ laid (at + 1)
  laid_next at r o =
      ap₂ (λ k v. set (laid at) k v) (sym (zero-add at)) (sym (byte_is at))
      ∙ paste-suc out 0 _ at (byte_at digits (place 0)) (omega arith) (omega (arith, length_bytes))
      ∙ ap laid (sym (add-one at))

  -- all of the row, or all of the buffer
  laid_row : length row ≤ length out → laid (length row) ≡ over (render (map place row) digits) out
  unfolding over
  laid_row h =
      let all : take (length out) (render (map place row) digits) ≡ render (map place row) digits =
      take_all (length out) _ (omega (arith, length_bytes)) in
      let all' : take (length row) (render (map place row) digits) ≡ render (map place row) digits =
      take_all (length row) _ (omega (arith, length_bytes)) in
      rw (all, all', length_bytes, zero-add)

  laid_out : length out ≤ length row → laid (length out) ≡ over (render (map place row) digits) out
  unfolding over
  laid_out h =
      let none : drop (length out) out ≡ [] = drop_of_length-le out {i = length out} (omega arith) in
      let none' : drop (length (render (map place row) digits)) out ≡ [] =
      drop_of_length-le out {i = length (render (map place row) digits)} (omega (arith, length_bytes)) in
      rw (zero-add, none, none')

  pub laid_all : (n : ℕ) → n ≡ min (length row) (length out) → laid n ≡ over (render (map place row) digits) out
  laid_all n e = go (leb (length row) (length out)) refl
    where
      go : (t : Bool) → leb (length row) (length out) ≡ t → laid n ≡ over (render (map place row) digits) out
      go true fits = let h = leb-true _ _ fits in let all : n ≡ length row = omega arith in rw all (laid_row h)
      go false fits = let h = leb-false _ _ fits in let all : n ≡ length out = omega arith in rw all (laid_out (omega arith))
