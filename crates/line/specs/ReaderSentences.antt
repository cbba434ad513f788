-- Document 01, "The line, byte by byte": what its sentences say of every reader, each as a statement beside its words.
use Rattle.std.specs.Prelude.{◌≡◌, ℕ, ◌+◌, ◌-◌, ◌%◌, ◌^◌, ◌<◌, true, List, [], map, length, take}
use Rattle.trailer_rules.specs.declared.Order.{Order}
use Rattle.trailer_rules.specs.declared.Order.TheVariants.{AsPrinted}
use Rattle.line.specs.declared.Reader.{Reader}
use Rattle.line_rules.specs.Hearing.{Nothing}
use Rattle.line.specs.Readers.{reader_with, reader_of, line_of, fresh_in, fresh_reader, well_formed, AsDeclared, feed_reader, end_reader, Fed}
use Rattle.line_rules.specs.Line.{Line, fresh_line}
use Rattle.line_rules.specs.Events.{events_of, line_after, heard_then}
use Rattle.line.specs.Cuts.{Calls, feeding, Served, bytes_served, heard_of, reader_behind, AllUsedUp, serve, heard_from, reader_after, UsedUp}
use Rattle.line.specs.Pieces.{room, passing, using_up}
use Rattle.line_rules.specs.Account.{sizes_of, lengths_of, strays_of}

-- "a fresh one holds none and all its counts are 0"
abbrev pub AFreshOneHoldsNone : Type 0
AFreshOneHoldsNone =
    (order : Order)
    → let fresh = fresh_in order in
    (well_formed fresh ≡ true) × (fresh.len ≡ 0) × (fresh.fed ≡ 0) × (fresh.stray ≡ 0) × (fresh.start ≡ 0) × (fresh.order ≡ order)

-- document 02, f, "as-printed if not named"
abbrev pub AFreshOneIsAsPrintedIfNotNamed : Type 0
AFreshOneIsAsPrintedIfNotNamed = fresh_reader.order ≡ AsPrinted

-- "a setting of the line": whatever the order, a state is as well formed as it was, and no call changes it
abbrev pub in_the_order : Order → Reader → Reader
in_the_order order reader = reader_with reader.held reader.len reader.fed reader.stray reader.start order

abbrev pub EveryOrderIsWellFormed : Type 0
EveryOrderIsWellFormed = (reader : Reader) (order : Order) → well_formed (in_the_order order reader) ≡ well_formed reader

abbrev pub TheOrderStays : Type 0
TheOrderStays =
    (reader : Reader) (piece : List ℕ) (more : ℕ)
    → ((feed_reader reader piece).reader.order ≡ reader.order)
    × ((passing more reader piece).reader.order ≡ reader.order)
    × ((end_reader reader).reader.order ≡ reader.order)

-- "and hands the state back": what feed, use_up and end return for a well-formed state is well formed
abbrev pub AGoodStateStaysGood : Type 0
AGoodStateStaysGood =
    (reader : Reader) (piece : List ℕ) → AsDeclared reader → well_formed reader ≡ true
    → (well_formed (feed_reader reader piece).reader ≡ true)
    × (well_formed (passing room reader piece).reader ≡ true)
    × (well_formed (end_reader reader).reader ≡ true)

-- "a call stops after the first event, or takes the whole piece where there is none, says how many bytes it took, and hands the state
-- back": what it heard is what the bytes it took tell, all but the last of them tell nothing, and the state is theirs
pub record StopsAfterTheFirstEvent (line : Line) (piece : List ℕ) (fed : Fed) : Type 0 where
  pub heard : heard_then fed.heard [] ≡ events_of line (take fed.taken piece)
  pub none_before : events_of line (take (fed.taken - 1) piece) ≡ []
  pub or_all : fed.heard ≡ Nothing → fed.taken ≡ length piece
  pub reader : fed.reader ≡ reader_of (line_after line (take fed.taken piece))

abbrev pub ACallStopsAfterTheFirstEvent : Type 0
ACallStopsAfterTheFirstEvent =
    (reader : Reader) (piece : List ℕ) → AsDeclared reader → well_formed reader ≡ true
    → StopsAfterTheFirstEvent (line_of reader) piece (feed_reader reader piece)

-- "an empty piece takes 0 and gives nothing"
abbrev pub AnEmptyPieceGivesNothing : Type 0
AnEmptyPieceGivesNothing =
    (reader : Reader) → AsDeclared reader → well_formed reader ≡ true
    → feed_reader reader [] ≡ record { reader = reader; taken = 0; heard = Nothing }

-- "the state after it is outside, with fed and stray kept and the start position equal to fed"
abbrev pub TheEndLeavesItOutside : Type 0
TheEndLeavesItOutside =
    (reader : Reader) → AsDeclared reader → well_formed reader ≡ true
    → ((end_reader reader).reader.len ≡ 0)
    × ((end_reader reader).reader.fed ≡ reader.fed)
    × ((end_reader reader).reader.stray ≡ reader.stray)
    × ((end_reader reader).reader.start ≡ reader.fed)

-- "from a fresh reader on, fed equals event lengths plus stray plus held, with that wrap; the first two sums are defined from the bytes",
-- and they are the lengths of the events that were heard and the reader's stray count
abbrev pub TheAccountHolds : Type 0
TheAccountHolds =
    (order : Order) (served : List Served) → UsedUp (fresh_in order) served
    → let bytes = bytes_served served in
    let reader = reader_after (fresh_in order) served in
    (reader.fed ≡ (lengths_of (fresh_line order) bytes + strays_of (fresh_line order) bytes + reader.len) % 2 ^ 32)
    × (sizes_of (heard_from (fresh_in order) served) ≡ lengths_of (fresh_line order) bytes)
    × (reader.stray ≡ strays_of (fresh_line order) bytes % 2 ^ 32)

-- and so after the end, whose event has the bytes held
abbrev pub TheAccountHoldsAfterTheEnd : Type 0
TheAccountHoldsAfterTheEnd =
    (order : Order) (served : List Served) → UsedUp (fresh_in order) served
    → let bytes = bytes_served served in
    let ended = end_reader (reader_after (fresh_in order) served) in
    (ended.reader.fed ≡ (lengths_of (fresh_line order) bytes + sizes_of (heard_then ended.heard []) + strays_of (fresh_line order) bytes) % 2 ^ 32)
    × (ended.reader.stray ≡ strays_of (fresh_line order) bytes % 2 ^ 32)

-- "the caller passes on the rest of the piece that it hasn't taken": a call takes at least one byte of a piece that has one, so that any
-- cut of a line is used up, and then what was heard is what the line's bytes tell, and the reader is theirs
abbrev pub TakesSome : (Reader → List ℕ → Calls) → Type 0
TakesSome call =
    (reader : Reader) (piece : List ℕ) → AsDeclared reader → well_formed reader ≡ true → 0 < length piece
    → length (call reader piece).rest < length piece

abbrev pub UsesUpAnyCut : (Reader → List ℕ → Calls) → Type 0
UsesUpAnyCut call =
    (reader : Reader) (pieces : List (List ℕ)) → AsDeclared reader → well_formed reader ≡ true → AllUsedUp call reader (map serve pieces)

abbrev pub TellsTheLine : (Reader → List ℕ → Calls) → Type 0
TellsTheLine call =
    (reader : Reader) (served : List Served) → AsDeclared reader → well_formed reader ≡ true → AllUsedUp call reader served
    → (heard_of call reader served ≡ events_of (line_of reader) (bytes_served served))
    × (reader_behind call reader served ≡ reader_of (line_after (line_of reader) (bytes_served served)))

-- by feed, and by use_up on pieces of any length
abbrev pub FeedingTellsTheLine : Type 0
FeedingTellsTheLine = TakesSome (feeding feed_reader) × UsesUpAnyCut (feeding feed_reader) × TellsTheLine (feeding feed_reader)

abbrev pub UsingUpTellsTheLine : Type 0
UsingUpTellsTheLine = TakesSome using_up × UsesUpAnyCut using_up × TellsTheLine using_up

-- so any two ways of cutting one line, each piece fed until it is used up, give the same events and the same reader
abbrev pub SameByAnyCut : (Reader → List ℕ → Calls) → (Reader → List ℕ → Calls) → Type 0
SameByAnyCut call other =
    (reader : Reader) (a b : List Served) → AsDeclared reader → well_formed reader ≡ true → bytes_served a ≡ bytes_served b
    → AllUsedUp call reader a → AllUsedUp other reader b
    → (heard_of call reader a ≡ heard_of other reader b) × (reader_behind call reader a ≡ reader_behind other reader b)

abbrev pub CutIndependence : Type 0
CutIndependence = SameByAnyCut (feeding feed_reader) (feeding feed_reader)

-- and use_up, called again and again on what is left of each piece, hands on the events of the calls of feed
abbrev pub UsingUpIsSuchAFeeding : Type 0
UsingUpIsSuchAFeeding = SameByAnyCut using_up (feeding feed_reader)
