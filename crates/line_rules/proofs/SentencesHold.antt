-- Document 01's sentences on the line hold, but for the account (AccountLaws), the positions (PositionLaws) and the order (OrderStays).
-- Assumes nothing.
use mathlib.Core.Path.{◌≡◌, refl, ap, sym, ◌∙◌}
use mathlib.Core.List.{List, [], ◌∷◌}
use Prim.Native.Nat.{ℕ, zero, suc, ◌+◌, ◌-◌, ◌≤◌}
use native.Mathlib.Numerals.{add-one}
use native.Mathlib.Omega.{arith}
use lib.ListN.{length, take}
use Rattle.line_rules.specs.Hearing.{Heard, Nothing}
use Rattle.refusals.specs.Refusals.{refused}
use Rattle.line_rules.specs.Line.{Line, Told, nothing, event, Feeding, stop_or, feed_of, told_by, step, start_of, heard_for}
use Rattle.line_rules.specs.Events.{tells, events_of, heard_then}
use Rattle.line_rules.specs.Sentences.{OneByteGivesAtMostOneEvent, TheEndGives11, TheEndKeepsTheCounts}

-- at most one event a byte
one_by : (told : Told) (start : ℕ) (later : List Heard) (n : ℕ) → length later ≤ n → length (tells told start later) ≤ suc n
one_by nothing start later n h = omega (arith, h)
one_by (event outcome size) start later n h = omega (arith, h)

pub one_byte_gives_at_most_one_event : OneByteGivesAtMostOneEvent
one_byte_gives_at_most_one_event line [] = omega arith
one_byte_gives_at_most_one_event line (byte ∷ bytes) =
    one_by (told_by line.order line.held byte) (start_of line) (events_of (step line byte) bytes) (length bytes) (one_byte_gives_at_most_one_event (step line byte) bytes)

-- a call stops after the first event
abbrev Stops : Line → List ℕ → Feeding → Type 0
Stops line piece feeding =
    (heard_then (heard_for feeding.told feeding.at) [] ≡ events_of line (take feeding.taken piece))
    × (events_of line (take (feeding.taken - 1) piece) ≡ [])
    × (heard_for feeding.told feeding.at ≡ Nothing → feeding.taken ≡ length piece)

stops_by : (line : Line) (byte : ℕ) (piece : List ℕ) (told : Told) (on : Feeding) → told_by line.order line.held byte ≡ told → Stops (step line byte) piece on
    → Stops line (byte ∷ piece) (stop_or told (start_of line) (step line byte) on)
stops_by line byte piece nothing on e (heard, before, all) = (rw (add-one on.taken, e) heard, go on.taken (on.taken + 1 - 1) (omega arith) before, λ silent. omega (arith, all silent))
  where
    go : (n m : ℕ) → m ≡ n → events_of (step line byte) (take (n - 1) piece) ≡ [] → events_of line (take m (byte ∷ piece)) ≡ []
    go zero m is before = rw is
    go (suc n) m is before =
        let less : n ≡ suc n - 1 = omega arith in
        rw (is, e) (ap (λ k. events_of (step line byte) (take k piece)) less ∙ before)
stops_by line byte piece (event outcome size) on e h = (rw e, refl, λ silent. let z : ◌≡◌ {A = ℕ} 0 1 = cc in absurd (omega arith))

pub feed_stops : (line : Line) (piece : List ℕ) → Stops line piece (feed_of line piece)
feed_stops line [] = (refl, refl, λ silent. refl)
feed_stops line (byte ∷ piece) = stops_by line byte piece (told_by line.order line.held byte) (feed_of (step line byte) piece) refl (feed_stops (step line byte) piece)

-- the end
pub the_end_gives_11 : TheEndGives11
the_end_gives_11 = (refl, λ first held. ap (event (refused 11)) (sym (add-one (length held))))

pub the_end_keeps_the_counts : TheEndKeepsTheCounts
the_end_keeps_the_counts line = (refl, refl, refl)
