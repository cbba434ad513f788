-- Document 01, "Listing, whole", and document 02, f: the listing of a line, in either order, and a caller that lays it piece by piece.
use Rattle.std.specs.Prelude.{List, [], ◌∷◌, ◌++◌, map, ◌≡◌, ℕ, ◌%◌, ◌^◌, ◌≤◌, length, drop, replicate}
use Prim.{Unit}
use Rattle.lent_buffer.specs.OneBehindAnother.{joined}
use Rattle.trailer_rules.specs.declared.Order.{Order}
use Rattle.trailer_rules.specs.declared.Order.TheVariants.{AsPrinted}
use Rattle.line.specs.declared.Reader.{Reader}
use Rattle.line_rules.specs.Hearing.{Heard, Nothing, Event, Refused}
use Rattle.line.specs.Readers.{fresh_in, end_reader}
use Rattle.line_rules.specs.Line.{Line, fresh_line, told_by_end, start_of, heard_for}
use Rattle.line_rules.specs.Events.{events_of, line_after}
use Rattle.listing_rules.specs.Listing.{longest_row, header_row, record_row, refused_row, stray_row}
use Rattle.listing_of_lines.specs.Pages.{page_of}
use Rattle.refusals.specs.Refusals.{done, refused}

-- a row for each event: the record that was read, or the number that it was refused with
abbrev pub row_of_event : Heard → List ℕ
row_of_event Nothing = []
row_of_event (Event (done rec) start size) = record_row start rec
row_of_event (Event (refused number) start size) = refused_row start number
row_of_event (Refused number) = []

abbrev pub rows_of : List Heard → List ℕ
rows_of events = joined (map row_of_event events)

-- what the end of the line tells: 11 for the bytes held, if any
abbrev pub last_heard : Line → Heard
last_heard line = heard_for (told_by_end line.held) (start_of line)

-- the listing of a line: the header, a row for each event, the last event's row, if any, and the number of stray bytes, with its wrap
unfoldable pub listing_in : Order → List ℕ → List ℕ
listing_in order bytes =
    header_row
    ++ rows_of (events_of (fresh_line order) bytes)
    ++ row_of_event (last_heard (line_after (fresh_line order) bytes))
    ++ stray_row ((line_after (fresh_line order) bytes).stray % 2 ^ 32)

-- "as-printed if not named"
abbrev pub listing_of : List ℕ → List ℕ
listing_of = listing_in AsPrinted

-- A caller lists a piece in turns: each time what is left of it is lent again, with a buffer of some length.
pub record Turns : Type 0 where
  pub reader : Reader
  pub rest : List ℕ
  pub laid : List ℕ

abbrev pub turns_with : List ℕ → Reader → List ℕ → Turns
turns_with [] reader piece = record { reader = reader; rest = piece; laid = [] }
turns_with (room ∷ rooms) reader piece =
    record {
      reader = (turns_with rooms (page_of room reader piece).reader (drop (page_of room reader piece).taken piece)).reader;
      rest = (turns_with rooms (page_of room reader piece).reader (drop (page_of room reader piece).taken piece)).rest;
      laid = (page_of room reader piece).bytes ++ (turns_with rooms (page_of room reader piece).reader (drop (page_of room reader piece).taken piece)).laid;
    }

-- a piece, and the lengths of the buffers that are lent for it
pub record Lent : Type 0 where
  pub piece : List ℕ
  pub rooms : List ℕ

-- the bytes of the line, the rows laid, the reader behind them; and that each piece was used up
abbrev pub bytes_lent : List Lent → List ℕ
bytes_lent lents = joined (map (λ lent. lent.piece) lents)

abbrev pub rows_laid : Reader → List Lent → List ℕ
rows_laid reader [] = []
rows_laid reader (lent ∷ others) =
    (turns_with lent.rooms reader lent.piece).laid ++ rows_laid (turns_with lent.rooms reader lent.piece).reader others

abbrev pub reader_left : Reader → List Lent → Reader
reader_left reader [] = reader
reader_left reader (lent ∷ others) = reader_left (turns_with lent.rooms reader lent.piece).reader others

abbrev pub AllListed : Reader → List Lent → Type 0
AllListed reader [] = Unit
AllListed reader (lent ∷ others) =
    ((turns_with lent.rooms reader lent.piece).rest ≡ []) × AllListed (turns_with lent.rooms reader lent.piece).reader others

-- what is laid for a line in all: by `header`, by `list` for each piece, by `row_for` at the end, by `stray_line`
abbrev pub all_laid : Order → List Lent → List ℕ
all_laid order lents =
    header_row
    ++ rows_laid (fresh_in order) lents
    ++ row_of_event (end_reader (reader_left (fresh_in order) lents)).heard
    ++ stray_row (reader_left (fresh_in order) lents).stray

-- However a line is cut, and whatever buffers are lent: what is laid, one behind another, is the listing of the line.
abbrev pub WhatIsLaidIsTheListing : Type 0
WhatIsLaidIsTheListing =
    (order : Order) (lents : List Lent) → AllListed (fresh_in order) lents → all_laid order lents ≡ listing_in order (bytes_lent lents)

-- Every cut can be listed so: with buffers that hold the longest row, as many turns as a piece has bytes use it up.
abbrev pub lent_with : ℕ → List ℕ → Lent
lent_with room piece = record { piece = piece; rooms = replicate (length piece) room }

abbrev pub EveryCutCanBeListed : Type 0
EveryCutCanBeListed =
    (order : Order) (room : ℕ) → longest_row ≤ room → (pieces : List (List ℕ)) → AllListed (fresh_in order) (map (lent_with room) pieces)
