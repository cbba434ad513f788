-- Demand 1 of the listing: its rows, a piece's rows, and a state that is refused.
use Rattle.std.specs.Prelude.{false, cond, List, [], ◌∷◌, ◌++◌, ◌≡◌, ℕ, ltb, length}
use Rattle.refusals.specs.Refusals.{Outcome, done, refused}
use Rattle.lent_buffer.specs.Endings as ending
use Rattle.lent_buffer.specs.Laying.{laid}
use Rattle.lent_buffer.specs.OneBehindAnother.{ending_in}
use Rattle.record_rules.specs.declared.Record.{Record}
use Rattle.line.specs.declared.Reader.{Reader}
use Rattle.line_rules.specs.Hearing.{Heard, Nothing, Event, Refused}
use Rattle.line.specs.Readers.{well_formed, line_of, AsDeclared}
use Rattle.line_rules.specs.Events.{events_of}
use Rattle.listing_rules.specs.Listing.{header_row, record_row, refused_row, event_row, stray_row}
use Rattle.listing_of_lines.specs.Pages.{row_for, stopped, page_of}
use Rattle.listing_of_lines.specs.Whole.{rows_of}
use Rattle.demands.specs.Numbers.{Rule, ◌given_when◌, ◌refused_by◌, ◌done_or◌}
use Rattle.demands.specs.Rules.{record_rules}

-- a row that is there has one rule: 13 "the lent buffer is shorter than what is to be written"
abbrev pub room_rules : ℕ → List ℕ → List Rule
room_rules room row = 13 given_when ltb room (length row) ∷ []

-- the row of an event: a record's own rules, and 13
abbrev pub row_rules : ℕ → Outcome Record → ℕ → List Rule
row_rules start (done rec) room = record_rules rec ++ room_rules room (record_row start rec)
row_rules start (refused number) room = room_rules room (refused_row start number)

-- the header and the count of stray bytes: 13
abbrev pub TheHeaderRefuses : Type 0
TheHeaderRefuses = (buffer : List ℕ) → (laid (done header_row) buffer).0 refused_by room_rules (length buffer) header_row

abbrev pub TheStrayLineRefuses : Type 0
TheStrayLineRefuses = (stray : ℕ) (buffer : List ℕ) → (laid (done (stray_row stray)) buffer).0 refused_by room_rules (length buffer) (stray_row stray)

-- an event's row, into a buffer of any length: 5 to 8, 13
abbrev pub ARowRefuses : Type 0
ARowRefuses =
    (start : ℕ) (told : Outcome Record) (buffer : List ℕ)
    → ((laid (event_row start told) buffer).0 refused_by row_rules start told (length buffer))
    × ((laid (event_row start told) buffer).0 done_or 5 ∷ 6 ∷ 7 ∷ 8 ∷ 13 ∷ [])

-- the row of what was heard: nothing is never refused, an event as its row is, and a refused state with its own number, whatever it is
abbrev pub ARowForRefuses : Type 0
ARowForRefuses =
    (heard : Heard) (buffer : List ℕ)
    → (heard ≡ Nothing → (laid (row_for heard) buffer).0 ≡ done 0)
    × ((told : Outcome Record) (start size : ℕ) → heard ≡ Event told start size → (laid (row_for heard) buffer).0 ≡ (laid (event_row start told) buffer).0)
    × ((n : ℕ) → heard ≡ Refused n → (laid (row_for heard) buffer).0 ≡ refused n)

-- a piece listed into a buffer: 15 where the state is not well formed, else 13 exactly where the buffer is shorter than the rows of
-- the piece's events
abbrev pub ListingRefuses : Type 0
ListingRefuses =
    (room : ℕ) (reader : Reader) (piece : List ℕ) → AsDeclared reader
    → (page_of room reader piece).ending ≡ cond (well_formed reader) (ending_in room (rows_of (events_of (line_of reader) piece))) (ending.Refused 15)

-- a refused row changes no byte of the buffer
abbrev pub ARefusedRowChangesNoByte : Type 0
ARefusedRowChangesNoByte =
    (start : ℕ) (told : Outcome Record) (buffer : List ℕ) (n : ℕ) → (laid (event_row start told) buffer).0 ≡ refused n
    → (laid (event_row start told) buffer).1 ≡ buffer

-- "a refused state .. comes back unchanged" from the listing too: no byte is taken, and no row is laid
abbrev pub ARefusedStateIsNotListed : Type 0
ARefusedStateIsNotListed =
    (room : ℕ) (reader : Reader) (piece : List ℕ) → well_formed reader ≡ false → page_of room reader piece ≡ stopped reader (ending.Refused 15)
