-- The tail of a buffer, lent from where the room begins, and come back. Assumes nothing.
use mathlib.Core.Path.{◌≡◌, refl, ap, ap₂, sym, ◌∙◌}
use mathlib.Core.Bool.{Bool, true, false}
use mathlib.Core.List.{List, [], ◌++◌, append-nil}
use Prim.Native.Nat.{ℕ, ◌-◌, ◌≤◌, min}
use native.Mathlib.Omega.{arith}
use lib.Dec.{leb}
use lib.ListN.{length, take, drop, length-drop, drop_of_length-le}
use lib.Seq.{take_all}
use borrow.Author.Tests.{leb-true, leb-false}
use borrow.Rule.Slice.PartMut.{put_mid}

module _ (used : ℕ) (out : List ℕ) where
  -- what does not change past the buffer's end is the same where the room begins
  at_start : (f : ℕ → List ℕ) (end : List ℕ) → ((k : ℕ) → length out ≤ k → f k ≡ end) → f (min used (length out)) ≡ f used
  at_start f end past = go (leb used (length out)) refl
    where
      go : (t : Bool) → leb used (length out) ≡ t → f (min used (length out)) ≡ f used
      go true e = let fits = leb-true used (length out) e in let same : min used (length out) ≡ used = omega arith in ap f same
      go false e = let over = leb-false used (length out) e in past (min used (length out)) (omega arith) ∙ sym (past used (omega arith))

  start_drop : drop (min used (length out)) out ≡ drop used out
  start_drop = at_start (λ k. drop k out) [] (λ k h. drop_of_length-le out {i = k} h)

  start_take : take (min used (length out)) out ≡ take used out
  start_take = at_start (λ k. take k out) out (λ k h. take_all k out h)

  pub tail_lent : (start : ℕ) → start ≡ min used (length out) → take (length out - start) (drop start out) ≡ drop used out
  tail_lent start e =
      rw e (take_all (length out - min used (length out)) _ (omega (arith, length-drop (min used (length out)) out)) ∙ start_drop)

  pub tail_back : (start : ℕ) (last : List ℕ) → start ≡ min used (length out)
      → put_mid start (length out - start) out last ≡ take used out ++ last
  tail_back start last e =
      let none : drop (length out - start) (drop start out) ≡ [] =
      drop_of_length-le (drop start out) {i = length out - start} (omega (arith, length-drop start out)) in
      rw none (ap₂ ◌++◌ (ap (λ k. take k out) e ∙ start_take) (append-nil last))

  pub tail_length : length (drop used out) ≡ length out - used
  tail_length = length-drop used out
