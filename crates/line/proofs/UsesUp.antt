-- `use_up` in a caller's loop, on pieces of any length, is a feeding like any other, so every law about cuts holds of it. Assumes nothing.
use Rattle.std.proofs.Common.{◌≡◌, ℕ, zero, suc, ◌+◌, ◌-◌, ◌<◌, ◌≤◌, List, [], ◌∷◌, ◌++◌, map, length, take, drop, replicate, sym, refl, ap, ◌∙◌, subst, arith, length-drop, drop-drop, take-add}
use mathlib.Core.Path.{subst⁻¹}
use lib.ListN.{length-map}
use lib.Seq.{take-append_seam}
use Rattle.line_rules.specs.Hearing.{Heard, Nothing, Event, Refused}
use Rattle.line.specs.Readers.{reader_of, feed_reader, Fed}
use Rattle.line_rules.specs.Line.{Line, Told, nothing, event, Feeding, stop_or, feed_of, told_by, step, start_of, heard_for}
use Rattle.line_rules.specs.Events.{line_after}
use Rattle.line.specs.Cuts.{Calls, called_for, feeding}
use Rattle.line.specs.Pieces.{room, Passing, pass_on, passing, slot_of, passed_for, handed_on, using_up}
use Rattle.line.specs.ReaderSentences.{UsingUpTellsTheLine, UsingUpIsSuchAFeeding}
use Rattle.line_rules.proofs.GoodLines.{Good, good_feed}
use Rattle.line.proofs.StaysGood.{feed_good}
use Rattle.line_rules.proofs.EventLaws.{some_by, after_join}
use Rattle.line.proofs.CutLaws.{Splits, Splitting, split_on, feed_splits, feeding_splits, takes_some as any_takes_some, uses_up_any_cut, tells_the_line, same_by_any_cut}

-- of any piece: the reader is that of the bytes taken, and of a piece that has a byte at least one is taken
line_by : (told : Told) (start byte : ℕ) (next : Line) (on : Feeding) (piece : List ℕ) → on.line ≡ line_after next (take on.taken piece)
    → (stop_or told start next on).line ≡ line_after next (take ((stop_or told start next on).taken - 1) piece)
line_by nothing start byte next on piece h =
    let one : on.taken ≡ on.taken + 1 - 1 = omega arith in
    h ∙ ap (λ n. line_after next (take n piece)) one
line_by (event outcome size) start byte next on piece h = refl

pub taken_line : (line : Line) (piece : List ℕ) → (feed_of line piece).line ≡ line_after line (take (feed_of line piece).taken piece)
taken_line line [] = refl
taken_line line (byte ∷ piece) =
    let told = told_by line.order line.held byte in
    let next = step line byte in
    let feeding = stop_or told (start_of line) next (feed_of next piece) in
    let one : suc (feeding.taken - 1) ≡ feeding.taken = omega (arith, some_by told (start_of line) next (feed_of next piece)) in
    line_by told (start_of line) byte next (feed_of next piece) piece (taken_line next piece)
    ∙ ap (λ n. line_after line (take n (byte ∷ piece))) one

reads_by : (told : Told) (at taken : ℕ) (line next : Line) (later : Passing) (piece : List ℕ) → next ≡ line_after line (take taken piece)
    → later.reader ≡ reader_of (line_after next (take later.taken (drop taken piece)))
    → let passing = pass_on (heard_for told at) (record { reader = reader_of next; taken = taken; heard = heard_for told at }) later in
    passing.reader ≡ reader_of (line_after line (take passing.taken piece))
reads_by nothing at taken line next later piece here on = ap reader_of here
reads_by (event outcome size) at taken line next later piece here on =
    on
    ∙ ap (λ l. reader_of (line_after l (take later.taken (drop taken piece)))) here
    ∙ ap reader_of (sym (after_join line (take taken piece) (take later.taken (drop taken piece))))
    ∙ ap (λ bytes. reader_of (line_after line bytes)) (sym (take-add taken later.taken piece))

pub reads_taken : (more : ℕ) (line : Line) → Good line → (piece : List ℕ)
    → (passing more (reader_of line) piece).reader ≡ reader_of (line_after line (take (passing more (reader_of line) piece).taken piece))
unfolding passing
reads_taken zero line good piece = refl
reads_taken (suc more) line good piece =
    let feeding = feed_of line piece in
    let rest = drop feeding.taken piece in
    let on = reads_taken more feeding.line (good_feed line piece good) rest in
    let reader = reader_of feeding.line in
    rw (feed_good line good piece)
    (reads_by feeding.told feeding.at feeding.taken line feeding.line (passing more reader rest) piece (taken_line line piece) on)

takes_by : (heard : Heard) (fed : Fed) (later : Passing) → fed.taken ≤ (pass_on heard fed later).taken
takes_by Nothing fed later = omega arith
takes_by (Event answer start size) fed later = omega arith
takes_by (Refused number) fed later = omega arith

pub takes_some : (more : ℕ) (line : Line) → Good line → (piece : List ℕ) → 0 < length piece → 0 < (passing (suc more) (reader_of line) piece).taken
unfolding passing
takes_some more line good [] some = absurd (omega arith)
takes_some more line good (byte ∷ piece) some =
    let fed = feed_reader (reader_of line) (byte ∷ piece) in
    let same = ap (λ f. f.taken) (feed_good line good (byte ∷ piece)) in
    omega (
      arith,
      takes_by fed.heard fed (passing more fed.reader (drop fed.taken (byte ∷ piece))),
      same,
      some_by (told_by line.order line.held byte) (start_of line) (step line byte) (feed_of (step line byte) piece),
    )

-- what it hands on splits what the piece tells
abbrev pub after_passing : Passing → List ℕ → Calls
after_passing passing piece = record { reader = passing.reader; rest = drop passing.taken piece; heard = passing.events }

pass_by : {line : Line} {piece : List ℕ} (told : Told) (at taken : ℕ) (next : Line) (later : Passing)
    → let fed : Fed = record { reader = reader_of next; taken = taken; heard = heard_for told at } in
    (here : Splits line piece (called_for fed piece)) → Splits here.left (drop taken piece) (after_passing later (drop taken piece))
    → Splits line piece (after_passing (pass_on (heard_for told at) fed later) piece)
pass_by nothing at taken next later here on = here
pass_by {line} {piece} (event outcome size) at taken next later here on =
    subst (λ rest. Splits line piece (record { reader = later.reader; rest = rest; heard = Event outcome at size ∷ later.events }))
    (drop-drop later.taken taken piece)
    (split_on (called_for (record { reader = reader_of next; taken = taken; heard = heard_for (event outcome size) at }) piece) (after_passing later (drop taken piece)) here on)

pub passing_splits : (more : ℕ) (line : Line) → Good line → (piece : List ℕ) → Splits line piece (after_passing (passing more (reader_of line) piece) piece)
unfolding passing
passing_splits zero line good piece = record { left = line; good = good; reader = refl; events = refl; after = refl }
passing_splits (suc more) line good piece =
    let feeding = feed_of line piece in
    let on = passing_splits more feeding.line (good_feed line piece good) (drop feeding.taken piece) in
    subst⁻¹ (λ fed. Splits line piece (after_passing (pass_on fed.heard fed (passing more fed.reader (drop fed.taken piece))) piece)) (feed_good line good piece)
    (pass_by feeding.told feeding.at feeding.taken feeding.line (passing more (reader_of feeding.line) (drop feeding.taken piece)) (feed_splits line good piece) on)

-- the slots that are counted hold the events
heard_back : (events : List Heard) → map (λ slot. slot.heard) (map slot_of events) ≡ events
heard_back [] = refl
heard_back (heard ∷ events) = ap (◌∷◌ heard) (heard_back events)

pub handed_on_law : (passing : Passing) → handed_on (passed_for passing) ≡ passing.events
handed_on_law passing =
    let slots = map slot_of passing.events ++ replicate (room - length passing.events) (slot_of Nothing) in
    ap (λ n. map (λ slot. slot.heard) (take n slots)) (sym (length-map passing.events slot_of))
    ∙ ap (map (λ slot. slot.heard)) (take-append_seam (map slot_of passing.events) (replicate (room - length passing.events) (slot_of Nothing)))
    ∙ heard_back passing.events

less_by : (taken : ℕ) (piece : List ℕ) (n : ℕ) → (0 < length piece → 0 < taken) → length piece ≤ suc n → length (drop taken piece) ≤ n
less_by taken [] n some h = let none : List ℕ = [] in omega (arith, length-drop taken none)
less_by taken (byte ∷ piece) n some h = omega (arith, length-drop taken (byte ∷ piece), some (omega arith))

pub using_up_splits : Splitting using_up
using_up_splits =
    record {
      splits = λ line good piece.
          let passed = passing room (reader_of line) piece in
          subst⁻¹ (λ heard. Splits line piece (record { reader = passed.reader; rest = drop passed.taken piece; heard = heard })) (handed_on_law passed) (passing_splits room line good piece);
      less = λ line good piece n h. less_by (passing room (reader_of line) piece).taken piece n (takes_some (room - 1) line good piece) h;
    }

pub using_up_tells_the_line : UsingUpTellsTheLine
using_up_tells_the_line = (any_takes_some using_up using_up_splits, uses_up_any_cut using_up using_up_splits, tells_the_line using_up using_up_splits)

pub using_up_is_such_a_feeding : UsingUpIsSuchAFeeding
using_up_is_such_a_feeding = same_by_any_cut using_up (feeding feed_reader) using_up_splits feeding_splits
