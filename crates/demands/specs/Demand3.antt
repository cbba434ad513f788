-- Demand 3, sentence by sentence; document 02, f: "for a line whose order is known to the reader".
use Rattle.std.specs.Prelude.{true, List, [], ◌∷◌, map, ◌≡◌, ℕ, ◌%◌}
use Rattle.record_rules.specs.declared.Record.{Record}
use Rattle.record_rules.specs.Rule.{refusal_of}
use Rattle.trailer_rules.specs.declared.Order.{Order}
use Rattle.line.specs.declared.Reader.{Reader}
use Rattle.line_rules.specs.Hearing.{Heard, Nothing}
use Rattle.line.specs.Readers.{fresh_in, end_reader, Fed}
use Rattle.line.specs.Cuts.{Calls, feeding, Served, bytes_served, heard_of, reader_behind, AllUsedUp, serve}
use Rattle.line.specs.Pieces.{using_up}
use Rattle.line.specs.ReaderSentences.{SameByAnyCut, UsesUpAnyCut}
use Rattle.line_rules.specs.SentLine.{Sent, bytes_sent, no_stx, events_sent, stray_sent}
use Rattle.demands.specs.Programs.{feeds}

-- "Take any list of good telegrams, layouts mixed at will, each written with control characters and without second advance,"
-- (a `Sent` is a record with the bytes before its telegram; `bytes_sent` writes each so, as `WrittenByTheTables` of demand 2 says)
abbrev pub GoodTelegrams : List Sent → Type 0
GoodTelegrams [] = Unit {0}
GoodTelegrams (sent ∷ others) = (refusal_of sent.rec ≡ 0) × GoodTelegrams others

-- "with any bytes except STX before, between and after."
abbrev pub NoStxAround : List Sent → List ℕ → Type 0
NoStxAround [] behind = no_stx behind ≡ true
NoStxAround (sent ∷ others) behind = (no_stx sent.before ≡ true) × NoStxAround others behind

-- "Cut that line anywhere, and feed it to a fresh reader, each piece until it is used up.": a fresh reader of the line's order
-- (a `Served` is a piece with the number of calls made on it; `AllUsedUp` says that after those calls nothing of it is left)
-- What comes back then of a line, however it was cut: events, a stray count, and nothing at the end of the line.
abbrev pub GivesBack : (Reader → List ℕ → Calls) → Order → List ℕ → List Heard → ℕ → Type 0
GivesBack call order bytes events stray =
    (served : List Served) → bytes_served served ≡ bytes → AllUsedUp call (fresh_in order) served
    → (heard_of call (fresh_in order) served ≡ events)
    × ((reader_behind call (fresh_in order) served).stray ≡ stray)
    × ((end_reader (reader_behind call (fresh_in order) served)).heard ≡ Nothing)

-- "The reader hands back that list, no record more or fewer, no refusal, and the true number of stray bytes, counted modulo
-- 4,294,967,296." (`events_sent` is that list: the records in their order, each with its position and length)
abbrev pub HandsBack : (Reader → List ℕ → Calls) → Type 0
HandsBack call =
    (order : Order) (sents : List Sent) (behind : List ℕ) → GoodTelegrams sents → NoStxAround sents behind
    → GivesBack call order (bytes_sent order sents behind) (events_sent order 0 sents) (stray_sent sents behind % 4294967296)

abbrev pub HandsBackThatList : (Reader → List ℕ → Fed) → Type 0
HandsBackThatList feed = HandsBack (feeding feed)

abbrev pub TheReaderHandsBackThatList : Type 0
TheReaderHandsBackThatList = HandsBackThatList feeds

-- Every cut can be fed so: as many calls as a piece has bytes use it up.
abbrev pub EveryCutCanBeUsedUp : Type 0
EveryCutCanBeUsedUp = (order : Order) (pieces : List (List ℕ)) → AllUsedUp (feeding feeds) (fresh_in order) (map serve pieces)

-- The public function that uses a piece up is such a feeding, for pieces of any length: called again on what is left of a piece until
-- nothing is, it hands on the events of the calls of feed and leaves their reader. So it hands back that list too.
abbrev pub UsingUpIsAFeedingToo : Type 0
UsingUpIsAFeedingToo = SameByAnyCut using_up (feeding feeds) × UsesUpAnyCut using_up

abbrev pub UsingUpHandsBackThatList : Type 0
UsingUpHandsBackThatList = HandsBack using_up

-- "So two lists that differ in one layout or one carried field never make the same line.", where its order is known
abbrev pub records_of : List Sent → List Record
records_of sents = map (λ sent. sent.rec) sents

abbrev pub TwoListsThatDifferNeverMakeTheSameLine : Type 0
TwoListsThatDifferNeverMakeTheSameLine =
    (order : Order) (a b : List Sent) (behind_a behind_b : List ℕ) → GoodTelegrams a → NoStxAround a behind_a → GoodTelegrams b → NoStxAround b behind_b
    → (records_of a ≡ records_of b → ⊥) → bytes_sent order a behind_a ≡ bytes_sent order b behind_b → ⊥
