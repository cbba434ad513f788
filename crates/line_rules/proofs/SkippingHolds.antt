-- Document 02 d: stray bytes may be skipped to the next STX. Assumes nothing.
use mathlib.Core.Path.{◌≡◌, refl, ap, sym, ◌∙◌}
use mathlib.Core.Bool.{Bool, true, false, cond}
use mathlib.Core.List.{List, [], ◌∷◌, ◌++◌}
use Prim.Native.Nat.{ℕ, suc, ◌+◌}
use native.Mathlib.Omega.{arith}
use lib.Dec.{eqb}
use lib.ListN.{length, take, drop}
use lib.Seq.{drop-append-add}
use Rattle.ascii.specs.Control.{stx}
use Rattle.trailer_rules.specs.declared.Order.{Order}
use Rattle.line_rules.specs.Line.{feed_of}
use Rattle.line_rules.specs.Runs.{has_stx, stray_run}
use Rattle.line_rules.specs.Skipping.{TheRunEndsAtTheNextStx}
use Rattle.line_rules.proofs.FeedLaws.{later, later_later, outside, feed_stray}
use Rattle.line_rules.proofs.RunLaws.{stray_ends, stray_past}

-- no STX before the end of a run
none_on : (t : Bool) (byte n : ℕ) (piece : List ℕ) → eqb byte stx ≡ t → has_stx (take n piece) ≡ false → has_stx (take (cond t 0 (suc n)) (byte ∷ piece)) ≡ false
none_on true byte n piece e none = refl
none_on false byte n piece e none = rw e none

none_before : (piece : List ℕ) → has_stx (take (stray_run piece) piece) ≡ false
none_before [] = refl
none_before (byte ∷ piece) = none_on (eqb byte stx) byte (stray_run piece) piece refl (none_before piece)

pub the_run_ends_at_the_next_stx : TheRunEndsAtTheNextStx
the_run_ends_at_the_next_stx piece = (none_before piece, (stray_ends piece).0, (stray_ends piece).1)

-- the run of the whole is what was skipped and the run of what is left
module _ (order : Order) (fed stray : ℕ) (run rest : List ℕ) (none : has_stx run ≡ false) where
  abbrev n : ℕ
  n = length run

  abbrev m : ℕ
  m = stray_run rest

  pub past : feed_of (outside order fed stray) (run ++ rest) ≡ later n (feed_of (outside order (fed + n) (stray + n)) rest)
  past =
      let sum = stray_past run rest none in
      let f : fed + (n + m) ≡ fed + n + m = omega arith in
      let s : stray + (n + m) ≡ stray + n + m = omega arith in
      feed_stray order fed stray (run ++ rest)
      ∙ (λ i. later (sum i) (feed_of (outside order (fed + sum i) (stray + sum i)) (drop (sum i) (run ++ rest))))
      ∙ (λ i. later (n + m) (feed_of (outside order (f i) (s i)) (drop-append-add run rest m i)))
      ∙ sym (later_later n m (n + m) (feed_of (outside order (fed + n + m) (stray + n + m)) (drop m rest)) (omega arith))
      ∙ ap (later n) (sym (feed_stray order (fed + n) (stray + n) rest))
