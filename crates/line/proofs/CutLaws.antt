-- Cut independence: any way of cutting a line into pieces, each fed until it is used up, tells the same and leaves the same reader.
-- It is proved of any call that splits what a piece tells, and so of `feed` and `use_up`. Assumes nothing.
use Rattle.std.proofs.Common.{◌≡◌, ℕ, zero, suc, ◌-◌, ◌<◌, ◌≤◌, List, [], ◌∷◌, ◌++◌, map, length, drop, sym, refl, ap, ◌∙◌, subst, ap₂, append_assoc, append-nil, arith}
use mathlib.Core.Path.{subst⁻¹}
use Prim.{tt}
use Rattle.line.specs.declared.Reader.{Reader}
use Rattle.line.specs.Readers.{reader_of, line_of, fed_for, feed_reader}
use Rattle.line_rules.specs.Line.{Line, feed_of}
use Rattle.line_rules.specs.Events.{events_of, line_after}
use Rattle.line.specs.Cuts.{Calls, called_for, feeding, calls_then, calls_of, Served, bytes_served, heard_of, reader_behind, AllUsedUp, serve}
use Rattle.line.specs.ReaderSentences.{TakesSome, UsesUpAnyCut, TellsTheLine, FeedingTellsTheLine, SameByAnyCut, CutIndependence}
use Rattle.line.proofs.ReaderLaws.{reader_back}
use Rattle.line_rules.proofs.GoodLines.{Good, good_feed}
use Rattle.line.proofs.StaysGood.{good_line, feed_good}
use Rattle.line_rules.proofs.EventLaws.{after_join, events_join, feed_parts, good_after, shorter}

-- calls on a piece split what it tells into what was heard and what the rest tells
pub record Splits (line : Line) (piece : List ℕ) (called : Calls) : Type 0 where
  pub left : Line
  pub good : Good left
  pub reader : called.reader ≡ reader_of left
  pub events : events_of line piece ≡ called.heard ++ events_of left called.rest
  pub after : line_after line piece ≡ line_after left called.rest

pub split_on : {line : Line} {piece : List ℕ} (first later : Calls) (here : Splits line piece first) → Splits here.left first.rest later
    → Splits line piece (calls_then first later)
split_on first later here on =
    record {
      left = on.left;
      good = on.good;
      reader = on.reader;
      events =
          here.events
          ∙ ap (◌++◌ first.heard) on.events
          ∙ sym (append_assoc first.heard later.heard (events_of on.left later.rest));
      after = here.after ∙ on.after;
    }

-- a call that does so on every piece, and leaves less of it
pub record Splitting (call : Reader → List ℕ → Calls) : Type 0 where
  pub splits : (line : Line) → Good line → (piece : List ℕ) → Splits line piece (call (reader_of line) piece)
  pub less : (line : Line) → Good line → (piece : List ℕ) (n : ℕ) → length piece ≤ suc n → length (call (reader_of line) piece).rest ≤ n

abbrev pub feed_splits : (line : Line) → Good line → (piece : List ℕ) → Splits line piece (called_for (fed_for (feed_of line piece)) piece)
feed_splits line good piece =
    record {
      left = (feed_of line piece).line;
      good = good_feed line piece good;
      reader = refl;
      events = (feed_parts line piece).0;
      after = (feed_parts line piece).1;
    }

pub feeding_splits : Splitting (feeding feed_reader)
feeding_splits =
    record {
      splits = λ line good piece. subst⁻¹ (λ fed. Splits line piece (called_for fed piece)) (feed_good line good piece) (feed_splits line good piece);
      less = λ line good piece n h. subst⁻¹ (λ fed. length (drop fed.taken piece) ≤ n) (feed_good line good piece) (shorter line piece n h);
    }

-- a caller's loop over any such call
module _ (call : Reader → List ℕ → Calls) (splitting : Splitting call) where
  repeats : (n : ℕ) (line : Line) → Good line → (piece : List ℕ) → Splits line piece (calls_of call n (reader_of line) piece)
  repeats zero line good piece = record { left = line; good = good; reader = refl; events = refl; after = refl }
  repeats (suc n) line good piece =
      let first = call (reader_of line) piece in
      let here = splitting.splits line good piece in
      split_on first (calls_of call n first.reader first.rest) here
      (subst⁻¹ (λ reader. Splits here.left first.rest (calls_of call n reader first.rest)) here.reader
      (repeats n here.left here.good first.rest))

  calls_tell : (n : ℕ) (line : Line) → Good line → (piece : List ℕ) → (calls_of call n (reader_of line) piece).rest ≡ []
      → ((calls_of call n (reader_of line) piece).heard ≡ events_of line piece) × ((calls_of call n (reader_of line) piece).reader ≡ reader_of (line_after line piece))
  calls_tell n line good piece used =
      let called = calls_of call n (reader_of line) piece in
      let all = repeats n line good piece in (
        sym (all.events ∙ ap (λ rest. called.heard ++ events_of all.left rest) used ∙ append-nil called.heard),
        all.reader ∙ ap reader_of (sym (all.after ∙ ap (line_after all.left) used)),
      )

  pub cut_anywhere : (served : List Served) (line : Line) (reader : Reader) → Good line → reader ≡ reader_of line → AllUsedUp call reader served
      → (heard_of call reader served ≡ events_of line (bytes_served served)) × (reader_behind call reader served ≡ reader_of (line_after line (bytes_served served)))
  cut_anywhere [] line reader good is used = (refl, is)
  cut_anywhere (served ∷ others) line reader good is used =
      let over = ap (λ r. (calls_of call served.times r served.piece).rest) (sym is) ∙ used.0 in
      let here = calls_tell served.times line good served.piece over in
      let next = ap (λ r. (calls_of call served.times r served.piece).reader) is ∙ here.1 in
      let heard = ap (λ r. (calls_of call served.times r served.piece).heard) is ∙ here.0 in
      let on = cut_anywhere others (line_after line served.piece) (calls_of call served.times reader served.piece).reader (good_after line served.piece good) next used.1 in (
        ap₂ ◌++◌ heard on.0 ∙ sym (events_join line served.piece (bytes_served others)),
        on.1 ∙ ap reader_of (sym (after_join line served.piece (bytes_served others))),
      )

  -- such a feeding always is
  enough_calls : (n : ℕ) (line : Line) → Good line → (piece : List ℕ) → length piece ≤ n → (calls_of call n (reader_of line) piece).rest ≡ []
  enough_calls zero line good [] h = refl
  enough_calls zero line good (byte ∷ piece) h = absurd (omega arith)
  enough_calls (suc n) line good piece h =
      let first = call (reader_of line) piece in
      let here = splitting.splits line good piece in
      ap (λ reader. (calls_of call n reader first.rest).rest) here.reader
      ∙ enough_calls n here.left here.good first.rest (splitting.less line good piece n h)

  pub a_feeding_is : (pieces : List (List ℕ)) (line : Line) (reader : Reader) → Good line → reader ≡ reader_of line → AllUsedUp call reader (map serve pieces)
  a_feeding_is [] line reader good is = tt
  a_feeding_is (piece ∷ pieces) line reader good is =
      let over = enough_calls (length piece) line good piece (omega arith) in (
        ap (λ r. (calls_of call (length piece) r piece).rest) is ∙ over,
        a_feeding_is pieces (line_after line piece) (calls_of call (length piece) reader piece).reader (good_after line piece good)
            (ap (λ r. (calls_of call (length piece) r piece).reader) is ∙ (calls_tell (length piece) line good piece over).1),
      )

  -- the same of any well-formed reader
  pub takes_some : TakesSome call
  takes_some reader piece declared well some =
      subst (λ r. length (call r piece).rest < length piece) (reader_back reader well declared.0 declared.1 declared.2)
      (omega (arith, splitting.less (line_of reader) (good_line reader declared.0 well) piece (length piece - 1) (omega arith)))

  pub uses_up_any_cut : UsesUpAnyCut call
  uses_up_any_cut reader pieces declared well =
      a_feeding_is pieces (line_of reader) reader (good_line reader declared.0 well) (sym (reader_back reader well declared.0 declared.1 declared.2))

  pub tells_the_line : TellsTheLine call
  tells_the_line reader served declared well used =
      cut_anywhere served (line_of reader) reader (good_line reader declared.0 well) (sym (reader_back reader well declared.0 declared.1 declared.2)) used

pub same_by_any_cut : (call other : Reader → List ℕ → Calls) → Splitting call → Splitting other → SameByAnyCut call other
same_by_any_cut call other splitting others reader a b declared well same used_a used_b =
    let of_a = tells_the_line call splitting reader a declared well used_a in
    let of_b = tells_the_line other others reader b declared well used_b in (
      of_a.0 ∙ ap (events_of (line_of reader)) same ∙ sym of_b.0,
      of_a.1 ∙ ap (λ bytes. reader_of (line_after (line_of reader) bytes)) same ∙ sym of_b.1,
    )

-- by feed
pub feeding_tells_the_line : FeedingTellsTheLine
feeding_tells_the_line =
    (takes_some (feeding feed_reader) feeding_splits, uses_up_any_cut (feeding feed_reader) feeding_splits, tells_the_line (feeding feed_reader) feeding_splits)

pub cut_independence : CutIndependence
cut_independence = same_by_any_cut (feeding feed_reader) (feeding feed_reader) feeding_splits feeding_splits
