-- Demand 1 holds of the line. Assumes nothing.
use mathlib.Core.Path.{◌≡◌, refl, ap, ◌∙◌, subst⁻¹}
use mathlib.Core.Bool.{Bool, true, false, cond, not, ◌||◌}
use mathlib.Core.List.{List, [], ◌∷◌, ◌++◌, map}
use Prim.Native.Nat.{ℕ, zero, suc, ◌+◌, ◌-◌}
use native.Mathlib.Omega.{arith}
use lib.Dec.{leb, eqb}
use lib.ListN.{length, drop, replicate, length-append, length-replicate}
use borrow.Author.Tests.{eqb-true}
use Rattle.ascii.specs.Control.{stx, etx}
use Rattle.refusals.specs.Refusals.{◌when◌, ◌else◌, Outcome, done, refused, unless}
use Rattle.refusals.proofs.Laws.{both}
use Rattle.places_rules.specs.Places.{fixed_holds, decimal_holds, code_holds, every}
use Rattle.record_rules.specs.declared.Record.{Record}
use Rattle.record_rules.specs.declared.Record.TheVariants.{Dated, TimeOnly}
use Rattle.layouts_rules.specs.declared.Layout.{Layout}
use Rattle.layouts_rules.specs.Layouts.{places_of, layout_of}
use Rattle.trailer_rules.specs.declared.Order.{Order}
use Rattle.telegram_rules.specs.Reading.{body_in, carried, read_in}
use Rattle.telegram_rules.proofs.Frames.{frame_is_framed}
use Rattle.line.specs.declared.Reader.{Reader}
use Rattle.line.specs.Readers.{line_of, reader_of, fed_for, well_formed, feed_reader_at, end_reader_at, Fed}
use Rattle.line_rules.specs.Line.{places, Line, Told, nothing, event, Feeding, told_by, told_by_end, step, start_of, all_plain, is_started, stop_or, feed_of, heard_for}
use Rattle.line.specs.Pieces.{Passing, pass_on, passing}
use Rattle.line.proofs.ReaderLaws.{well, feed_refused, end_refused}
use Rattle.line_rules.proofs.GoodLines.{Good, started_stays, good_feed}
use Rattle.line.proofs.StaysGood.{good_line, reader_of_good}
use Rattle.demands.specs.Numbers.{Rule, ◌given_when◌, among, ◌done_or◌, ◌silent_or◌, EachSilentOr, first_of}
use Rattle.demands.specs.Lengths.{seven_layouts, length_of}
use Rattle.demands.specs.Rules.{record_rules, rules_in}
use Rattle.demands.specs.Demand1.{on_the_line, FeedingRefuses, UsingUpRefuses, TheEndRefuses, ARefusedStateComesBackUnchanged}
use Rattle.demands.proofs.Refusing.{tested, refuses}
use Rattle.demands.proofs.RulesHold.{reading_rules_law}

-- what is told to a line is an event with one of the numbers, or nothing
abbrev Tells : List ℕ → Told → Type 0
Tells numbers nothing = Unit {0}
Tells numbers (event outcome size) = outcome done_or numbers

heard : (numbers : List ℕ) (told : Told) (at : ℕ) → Tells numbers told → heard_for told at silent_or numbers
heard numbers nothing at e = tt
heard numbers (event (done rec) size) at e = tt
heard numbers (event (refused n) size) at e = e

-- what reading refuses with, the line does too
among_more : (numbers more : List ℕ) (n : ℕ) → among numbers n ≡ true → among (numbers ++ more) n ≡ true
among_more [] more n e = cc
among_more (first ∷ others) more n e = go (eqb n first) e (among_more others more n)
  where
    go : (t : Bool) → (t || among others n) ≡ true → (among others n ≡ true → among (others ++ more) n ≡ true) → (t || among (others ++ more) n) ≡ true
    go true e later = refl
    go false e later = later e

-- STX and ETX stand, so that 2 is not among what a telegram of the line is refused with
abbrev framed_rules : Order → List ℕ → Outcome Layout → List Rule
framed_rules order bytes (done layout) =
    3 given_when not (every fixed_holds (places_of layout) (body_in order true bytes))
    ∷ 4 given_when not (every decimal_holds (places_of layout) (body_in order true bytes))
    ∷ 5 given_when not (every code_holds (places_of layout) (body_in order true bytes))
    ∷ record_rules (carried layout (body_in order true bytes))
framed_rules order bytes (refused n) = []

abbrev in_frame : List ℕ
in_frame = 1 ∷ 3 ∷ 4 ∷ 5 ∷ 6 ∷ 7 ∷ 8 ∷ []

judged : (order : Order) (body : List ℕ) → read_in order true (2 ∷ body ++ 3 ∷ []) done_or in_frame
judged order body =
    (refuses in_frame (read_in order true bytes) (1 given_when wrong ∷ framed_rules order bytes o)
    (reading_rules_law order true bytes ∙ ap (λ n. unless n tt) (ap (λ later. 1 when wrong else later) (without_2 o)))
    (go o)
    ).1
  where
    bytes : List ℕ
    bytes = 2 ∷ body ++ 3 ∷ []

    o : Outcome Layout
    o = layout_of (body_in order true bytes)

    wrong : Bool
    wrong = not (among (map (length_of true) seven_layouts) (length bytes))

    without_2 : (o : Outcome Layout) → first_of (rules_in order true bytes o) ≡ first_of (framed_rules order bytes o)
    without_2 (done layout) = ap (λ t. 2 when not t else first_of (framed_rules order bytes (done layout))) (frame_is_framed body)
    without_2 (refused n) = refl

    with_record_law : (rec : Record) → tested in_frame (1 given_when true ∷ 3 given_when true ∷ 4 given_when true ∷ 5 given_when true ∷ record_rules rec) ≡ true
    with_record_law (Dated layout status weekday date time) = refl
    with_record_law (TimeOnly layout time) = refl

    go : (o : Outcome Layout) → tested in_frame (1 given_when true ∷ framed_rules order bytes o) ≡ true
    go (done layout) = with_record_law (carried layout (body_in order true bytes))
    go (refused n) = refl

byte_tells : (order : Order) (held : List ℕ) (byte : ℕ) → is_started held ≡ true → Tells on_the_line (told_by order held byte)
byte_tells order [] byte started = tt
byte_tells order (first ∷ held) byte started = go (eqb byte etx) (eqb byte stx) (leb places (length (first ∷ held)))
  where
    judged_so : (outcome : Outcome Record) → outcome done_or in_frame → outcome done_or on_the_line
    judged_so (done rec) e = tt
    judged_so (refused n) e = among_more in_frame (9 ∷ 10 ∷ []) n e

    whole : read_in order true ((first ∷ held) ++ 3 ∷ []) done_or in_frame
    whole = subst⁻¹ (λ byte. read_in order true (byte ∷ held ++ 3 ∷ []) done_or in_frame) (eqb-true first 2 (both (eqb first 2) (all_plain held) started).0) (judged order held)

    go : (is_etx is_stx full : Bool)
        → Tells on_the_line
        (cond is_etx (event (read_in order true ((first ∷ held) ++ 3 ∷ [])) (length (first ∷ held) + 1))
        (cond is_stx (event (refused 9) (length (first ∷ held))) (cond full (event (refused 10) (places + 1)) nothing)))
    go true is_stx full = judged_so (read_in order true ((first ∷ held) ++ 3 ∷ [])) whole
    go false true full = refl
    go false false true = refl
    go false false false = tt

piece_tells : (line : Line) (piece : List ℕ) → is_started line.held ≡ true → Tells on_the_line (feed_of line piece).told
piece_tells line [] started = tt
piece_tells line (byte ∷ piece) started =
    go (told_by line.order line.held byte) (byte_tells line.order line.held byte started) (start_of line) (step line byte) (feed_of (step line byte) piece)
    (piece_tells (step line byte) piece (started_stays places line.held byte started))
  where
    go : (told : Told) → Tells on_the_line told → (start : ℕ) (next : Line) (later : Feeding) → Tells on_the_line later.told
        → Tells on_the_line (stop_or told start next later).told
    go nothing e start next later l = l
    go (event outcome size) e start next later l = e

pub demand_1_feeding : FeedingRefuses
unfolding feed_reader_at
demand_1_feeding reader piece good =
    rw good (heard on_the_line (feed_of (line_of reader) piece).told (feed_of (line_of reader) piece).at (piece_tells (line_of reader) piece (well reader good).started))

pub demand_1_end : TheEndRefuses
unfolding end_reader_at
demand_1_end reader well = rw well (heard (11 ∷ []) (told_by_end (line_of reader).held) reader.start (go (line_of reader).held))
  where
    go : (held : List ℕ) → Tells (11 ∷ []) (told_by_end held)
    go [] = tt
    go (first ∷ held) = refl

-- a first call that is refused ends a piece
refused_at_once : (room : ℕ) (reader : Reader) (piece : List ℕ) → well_formed reader ≡ false
    → passing (suc room) reader piece ≡ record { events = []; taken = 0; reader = reader; refusal = 15 }
unfolding passing
refused_at_once room reader piece ill =
    ap (λ fed. pass_on fed.heard fed (passing room fed.reader (drop fed.taken piece))) (feed_refused reader piece ill)

pub demand_1_state_unchanged : ARefusedStateComesBackUnchanged
demand_1_state_unchanged reader piece ill =
    (feed_refused reader piece ill, end_refused reader ill, refused_at_once 31 reader piece ill)

-- a piece that is used up, call by call: no call is refused, and each event is the line's
abbrev Passes : Passing → Type 0
Passes passing = (passing.refusal ≡ 0) × EachSilentOr passing.events on_the_line

passes_on : (told : Told) (at : ℕ) (fed : Fed) (later : Passing) → Tells on_the_line told → Passes later → Passes (pass_on (heard_for told at) fed later)
passes_on nothing at fed later e on = (refl, tt)
passes_on (event outcome size) at fed later e on = (on.0, (heard on_the_line (event outcome size) at e, on.1))

held_size : (line : Line) → Good line → length (reader_of line).held ≡ places
held_size line good =
    omega (arith, good.fits, length-append line.held (replicate (places - length line.held) 0), length-replicate {A = ℕ} (places - length line.held) 0)

passes : (room : ℕ) (reader : Reader) (piece : List ℕ) → length reader.held ≡ places → well_formed reader ≡ true → Passes (passing room reader piece)
unfolding passing feed_reader_at
passes zero reader piece size well = (refl, tt)
passes (suc room) reader piece size well =
    let feeding = feed_of (line_of reader) piece in
    let fine = good_line reader size well in
    let next = good_feed (line_of reader) piece fine in
    let rest = drop feeding.taken piece in
    rw well
    (passes_on feeding.told feeding.at (fed_for feeding) (passing room (reader_of feeding.line) rest) (piece_tells (line_of reader) piece fine.started)
    (passes room (reader_of feeding.line) rest (held_size feeding.line next) (reader_of_good feeding.line next)))

pub demand_1_using_up : UsingUpRefuses
demand_1_using_up reader piece room declared well = passes room reader piece declared.0 well
