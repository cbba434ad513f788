-- Laws of two bounds: until the lower one gives a 10, the higher one tells and holds the same. Assumes nothing.
use mathlib.Core.Path.{◌≡◌, refl, ap, ap₂, ◌∙◌}
use mathlib.Core.Bool.{Bool, true, false, cond, not, true≢false}
use mathlib.Core.List.{List, [], ◌∷◌, ◌++◌}
use Prim.Native.Nat.{ℕ, ◌+◌, ◌≤◌}
use native.Mathlib.Omega.{arith}
use lib.Dec.{eqb, leb}
use lib.ListN.{length}
use borrow.Author.Tests.{leb-true, leb-false, not-true}
use Rattle.refusals.specs.Refusals.{refused}
use Rattle.refusals.proofs.Laws.{both}
use Rattle.ascii.specs.Control.{stx, etx}
use Rattle.trailer_rules.specs.declared.Order.{Order}
use Rattle.line_rules.specs.Hearing.{Heard}
use Rattle.line_rules.specs.Line.{Line, line_with, Told, nothing, event, judgement, held_after_at, told_by_at, stray_by, step_at, start_of, Feeding, stop_or, feed_at, heard_for}
use Rattle.line_rules.specs.Events.{tells, events_at, line_after_at}
use Rattle.takeover.specs.Sentences.{is_ten, no_ten}

-- what a call has heard
abbrev pub heard_in : Feeding → Heard
heard_in feeding = heard_for feeding.told feeding.at

stops_without : (told : Told) (start : ℕ) (next : Line) (later : Feeding) → is_ten (heard_in (stop_or told start next later)) ≡ false → is_ten (heard_for told start) ≡ false
stops_without nothing start next later e = refl
stops_without (event outcome size) start next later e = e

stops_alike : (told : Told) (start : ℕ) (next : Line) (later' later : Feeding) → (is_ten (heard_in later) ≡ false → later' ≡ later)
    → is_ten (heard_in (stop_or told start next later)) ≡ false → stop_or told start next later' ≡ stop_or told start next later
stops_alike nothing start next later' later alike e = ap (stop_or nothing start next) (alike e)
stops_alike (event outcome size) start next later' later alike e = refl

module _ (low high : ℕ) (within : low ≤ high) where
  -- one byte
  by_byte : (order : Order) (held : List ℕ) (byte start : ℕ) → is_ten (heard_for (told_by_at low order held byte) start) ≡ false
      → (told_by_at high order held byte ≡ told_by_at low order held byte) × (held_after_at high held byte ≡ held_after_at low held byte)
  by_byte order [] byte start e = (refl, refl)
  by_byte order (first ∷ held) byte start e =
      by_tests (eqb byte etx) (eqb byte stx) (leb low (length (first ∷ held))) (leb high (length (first ∷ held))) refl refl e
    where
      all : List ℕ
      all = first ∷ held

      told : ℕ → Bool → Bool → Bool → Told
      told bound is_etx is_stx is_full_law =
          cond is_etx (event (judgement order all) (length all + 1))
          (cond is_stx (event (refused 9) (length all)) (cond is_full_law (event (refused 10) (bound + 1)) nothing))

      after : Bool → Bool → Bool → List ℕ
      after is_etx is_stx is_full_law = cond is_etx [] (cond is_stx (stx ∷ []) (cond is_full_law [] (all ++ byte ∷ [])))

      by_tests : (is_etx is_stx is_full_law is_full' : Bool) → leb low (length all) ≡ is_full_law → leb high (length all) ≡ is_full'
          → is_ten (heard_for (told low is_etx is_stx is_full_law) start) ≡ false
          → (told high is_etx is_stx is_full' ≡ told low is_etx is_stx is_full_law) × (after is_etx is_stx is_full' ≡ after is_etx is_stx is_full_law)
      by_tests true is_stx is_full_law is_full' l h e = (refl, refl)
      by_tests false true is_full_law is_full' l h e = (refl, refl)
      by_tests false false true is_full' l h e = absurd (true≢false e)
      by_tests false false false false l h e = (refl, refl)
      by_tests false false false true l h e = absurd (omega (arith, leb-false low (length all) l, leb-true high (length all) h))

  steps_alike : (line : Line) (byte : ℕ) → held_after_at high line.held byte ≡ held_after_at low line.held byte → step_at high line byte ≡ step_at low line byte
  steps_alike line byte e = ap (λ held. line_with held (line.fed + 1) (line.stray + stray_by line.held byte) line.order) e

  -- all bytes
  first_of : (told : Told) (start : ℕ) (later : List Heard) → no_ten (tells told start later) ≡ true → (is_ten (heard_for told start) ≡ false) × (no_ten later ≡ true)
  first_of nothing start later e = (refl, e)
  first_of (event outcome size) start later e =
      let parts = both (not (is_ten (heard_for (event outcome size) start))) (no_ten later) e in
      (not-true _ parts.0, parts.1)

  pub bytes_alike : (line : Line) (bytes : List ℕ) → no_ten (events_at low line bytes) ≡ true
      → (events_at high line bytes ≡ events_at low line bytes) × (line_after_at high line bytes ≡ line_after_at low line bytes)
  bytes_alike line [] e = (refl, refl)
  bytes_alike line (byte ∷ bytes) e =
      let split = first_of (told_by_at low line.order line.held byte) (start_of line) (events_at low (step_at low line byte) bytes) e in
      let same = by_byte line.order line.held byte (start_of line) split.0 in
      let next = steps_alike line byte same.1 in
      let on = bytes_alike (step_at low line byte) bytes split.1 in (
        ap₂ (λ told later. tells told (start_of line) later) same.0 (ap (λ line. events_at high line bytes) next ∙ on.0),
        ap (λ line. line_after_at high line bytes) next ∙ on.1,
      )

  -- one call
  pub call_alike : (line : Line) (piece : List ℕ) → is_ten (heard_in (feed_at low line piece)) ≡ false → feed_at high line piece ≡ feed_at low line piece
  call_alike line [] e = refl
  call_alike line (byte ∷ piece) e =
      let told = told_by_at low line.order line.held byte in
      let same = by_byte line.order line.held byte (start_of line) (stops_without told (start_of line) (step_at low line byte) (feed_at low (step_at low line byte) piece) e) in
      let next = steps_alike line byte same.1 in
      (λ i. stop_or (same.0 i) (start_of line) (next i) (feed_at high (next i) piece))
      ∙ stops_alike told (start_of line) (step_at low line byte) (feed_at high (step_at low line byte) piece) (feed_at low (step_at low line byte) piece)
      (call_alike (step_at low line byte) piece) e
