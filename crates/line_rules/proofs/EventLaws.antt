-- What one piece tells and another behind it, together; and how much of a piece is taken. Assumes nothing.
use mathlib.Core.Path.{◌≡◌, refl, ap, ◌∙◌}
use mathlib.Core.List.{List, [], ◌∷◌, ◌++◌}
use Prim.Native.Nat.{ℕ, suc, ◌≤◌, ◌<◌}
use native.Mathlib.Numerals.{add-one}
use native.Mathlib.Omega.{arith}
use lib.ListN.{length, drop, length-drop}
use Rattle.trailer_rules.specs.declared.Order.{Order}
use Rattle.line_rules.specs.Hearing.{Heard}
use Rattle.line_rules.specs.Line.{places, Line, Told, nothing, event, Feeding, stop_or, feed_of, told_by, step, start_of, heard_for, fresh_line}
use Rattle.line_rules.specs.Events.{tells, events_of, line_after, heard_then}
use Rattle.line_rules.proofs.GoodLines.{Good, good_after_at}

-- a fresh reader
pub good_fresh : (order : Order) → Good (fresh_line order)
good_fresh order = record { fits = omega arith; started = refl }

-- one piece behind another
tells_on : (told : Told) (start : ℕ) (events more : List Heard) → tells told start (events ++ more) ≡ tells told start events ++ more
tells_on nothing start events more = refl
tells_on (event outcome size) start events more = refl

pub events_join : (line : Line) (piece others : List ℕ) → events_of line (piece ++ others) ≡ events_of line piece ++ events_of (line_after line piece) others
events_join line [] others = refl
events_join line (byte ∷ piece) others =
    ap (tells (told_by line.order line.held byte) (start_of line)) (events_join (step line byte) piece others)
    ∙ tells_on (told_by line.order line.held byte) (start_of line) (events_of (step line byte) piece) (events_of (line_after (step line byte) piece) others)

pub after_join : (line : Line) (piece others : List ℕ) → line_after line (piece ++ others) ≡ line_after (line_after line piece) others
after_join line [] others = refl
after_join line (byte ∷ piece) others = after_join (step line byte) piece others

pub good_after : (line : Line) (piece : List ℕ) → Good line → Good (line_after line piece)
good_after = good_after_at places (omega arith)

-- feed is such a call
abbrev pub Parts : List Heard → Line → Feeding → List ℕ → Type 0
Parts events after feeding rest =
    (events ≡ heard_then (heard_for feeding.told feeding.at) [] ++ events_of feeding.line rest) × (after ≡ line_after feeding.line rest)

parts_by : (told : Told) (start byte : ℕ) (next : Line) (on : Feeding) (piece : List ℕ)
    → Parts (events_of next piece) (line_after next piece) on (drop on.taken piece)
    → Parts (tells told start (events_of next piece)) (line_after next piece) (stop_or told start next on) (drop (stop_or told start next on).taken (byte ∷ piece))
parts_by nothing start byte next on piece h = rw (add-one on.taken) h
parts_by (event outcome size) start byte next on piece h = (refl, refl)

pub feed_parts : (line : Line) (piece : List ℕ) → Parts (events_of line piece) (line_after line piece) (feed_of line piece) (drop (feed_of line piece).taken piece)
feed_parts line [] = (refl, refl)
feed_parts line (byte ∷ piece) =
    parts_by (told_by line.order line.held byte) (start_of line) byte (step line byte) (feed_of (step line byte) piece) piece (feed_parts (step line byte) piece)

pub some_by : (told : Told) (start : ℕ) (next : Line) (on : Feeding) → 0 < (stop_or told start next on).taken
some_by nothing start next on = omega arith
some_by (event outcome size) start next on = omega arith

pub shorter : (line : Line) (piece : List ℕ) (n : ℕ) → length piece ≤ suc n → length (drop (feed_of line piece).taken piece) ≤ n
shorter line [] n h = omega arith
shorter line (byte ∷ piece) n h =
    omega (
      arith,
      length-drop (feed_of line (byte ∷ piece)).taken (byte ∷ piece),
      some_by (told_by line.order line.held byte) (start_of line) (step line byte) (feed_of (step line byte) piece),
    )

-- no more is taken than there is
taken_by : (told : Told) (start : ℕ) (next : Line) (on : Feeding) (size : ℕ) → on.taken ≤ size → (stop_or told start next on).taken ≤ suc size
taken_by nothing start next on size h = omega arith
taken_by (event outcome count) start next on size h = omega arith

pub taken_fits : (line : Line) (piece : List ℕ) → (feed_of line piece).taken ≤ length piece
taken_fits line [] = omega arith
taken_fits line (byte ∷ piece) = taken_by (told_by line.order line.held byte) _ _ _ (length piece) (taken_fits (step line byte) piece)
