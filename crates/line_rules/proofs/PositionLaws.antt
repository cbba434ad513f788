-- Positions: the bytes held are the last ones fed, so that fed less held is where they begin. Assumes nothing.
use mathlib.Core.Path.{◌≡◌, refl, ap, sym, ◌∙◌}
use mathlib.Core.Logic.{◌⊎◌, inl, inr}
use mathlib.Core.Bool.{Bool, true, false, cond}
use mathlib.Core.List.{List, [], ◌∷◌, ◌++◌, append-nil, append_assoc}
use Prim.Native.Nat.{ℕ, ◌-◌}
use native.Mathlib.Omega.{arith}
use lib.Dec.{eqb, leb}
use lib.ListN.{length, drop, length-append}
use lib.Seq.{drop-append_seam}
use borrow.Author.Tests.{eqb-true}
use Rattle.ascii.specs.Control.{stx, etx}
use Rattle.line_rules.specs.Line.{places, Line, held_after, step, fresh_line, Told, nothing, event, told_by, start_of}
use Rattle.line_rules.specs.Events.{line_after, tells}
use Rattle.line_rules.specs.Hearing.{Event}
use Rattle.line_rules.specs.Sentences.{TheStartIsWhereTheHeldBegin, AnEventCarriesThatPosition}
use Rattle.line_rules.proofs.EventLaws.{good_fresh, good_after}
use Rattle.line_rules.proofs.AccountLaws.{fed_counts}
use Rattle.refusals.specs.Refusals.{Outcome}
use Rattle.record_rules.specs.declared.Record.{Record}

-- bytes that end with those held
record Last (bytes held : List ℕ) : Type 0 where
  front : List ℕ
  is : bytes ≡ front ++ held

module _ (bytes : List ℕ) (byte : ℕ) where
  none : Last (bytes ++ byte ∷ []) []
  none = record { front = bytes ++ byte ∷ []; is = sym (append-nil (bytes ++ byte ∷ [])) }

  begun : eqb byte stx ≡ true → Last (bytes ++ byte ∷ []) (stx ∷ [])
  begun e = record { front = bytes; is = ap (λ b. bytes ++ b ∷ []) (eqb-true byte stx e) }

  begins : (is_stx : Bool) → eqb byte stx ≡ is_stx → Last (bytes ++ byte ∷ []) (cond is_stx (stx ∷ []) [])
  begins true e = begun e
  begins false e = none

  goes_on : (held : List ℕ) (is_etx is_stx is_full_law : Bool) → eqb byte stx ≡ is_stx → Last bytes held
      → Last (bytes ++ byte ∷ []) (cond is_etx [] (cond is_stx (stx ∷ []) (cond is_full_law [] (held ++ byte ∷ []))))
  goes_on held true is_stx is_full_law e last = none
  goes_on held false true is_full_law e last = begun e
  goes_on held false false true e last = none
  goes_on held false false false e last =
      record { front = last.front; is = ap (λ all. all ++ byte ∷ []) last.is ∙ append_assoc last.front held (byte ∷ []) }

  last_step : (held : List ℕ) → Last bytes held → Last (bytes ++ byte ∷ []) (held_after held byte)
  last_step [] last = begins (eqb byte stx) refl
  last_step (first ∷ held) last = goes_on (first ∷ held) (eqb byte etx) (eqb byte stx) (leb places (length (first ∷ held))) refl last

last_after : (fed bytes : List ℕ) (line : Line) → Last fed line.held → Last (fed ++ bytes) (line_after line bytes).held
last_after fed [] line last = record { front = last.front; is = append-nil fed ∙ last.is }
last_after fed (byte ∷ bytes) line last =
    let on = last_after (fed ++ byte ∷ []) bytes (step line byte) (last_step fed byte line.held last) in
    record { front = on.front; is = sym (append_assoc fed (byte ∷ []) bytes) ∙ on.is }

pub the_start_is_where_the_held_begin : TheStartIsWhereTheHeldBegin
the_start_is_where_the_held_begin order bytes =
    let line = line_after (fresh_line order) bytes in
    let last = last_after [] bytes (fresh_line order) (record { front = []; is = refl }) in
    let whole = ap length last.is ∙ length-append last.front line.held in
    let begin : length bytes - length line.held ≡ length last.front = omega (arith, whole) in
    let fits = (good_after (fresh_line order) bytes (good_fresh order)).fits in (
      (λ i. drop (begin i) (last.is i)) ∙ drop-append_seam last.front line.held,
      omega (arith, whole, fits, fed_counts (fresh_line order) bytes),
    )

pub an_event_carries_that_position : AnEventCarriesThatPosition
an_event_carries_that_position order bytes byte =
    let line = line_after (fresh_line order) bytes in
    go (told_by line.order line.held byte) (start_of line) (the_start_is_where_the_held_begin order bytes).1
  where
    go : (told : Told) (start : ℕ) {begin : ℕ} → start ≡ begin
        → (tells told start [] ≡ []) ⊎ ((answer : Outcome Record) × (size : ℕ) × (tells told start [] ≡ Event answer begin size ∷ []))
    go nothing start is = inl refl
    go (event outcome size) start is = inr (outcome, size, ap (λ s. Event outcome s size ∷ []) is)
