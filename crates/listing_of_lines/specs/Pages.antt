-- The rows of a line's events, one behind another in a lent buffer.
use Rattle.std.specs.Prelude.{cond, List, [], ◌∷◌, ℕ, ◌-◌, length, drop, Option, None, Some, Result, Ok, Err}
use Rattle.refusals.specs.Refusals.{Outcome, done, refused}
use Rattle.lent_buffer.specs.Endings.{Ending}
use Rattle.lent_buffer.specs.Endings as ending
use Rattle.lent_buffer.specs.OneBehindAnother.{Next, nothing, part, Standing, joined, one_behind_another}
use Rattle.line.specs.declared.Reader.{Reader}
use Rattle.line_rules.specs.Hearing.{Heard, Nothing, Event, Refused}
use Rattle.line.specs.Readers.{well_formed, feed_reader, Fed}
use Rattle.listing_rules.specs.Listing.{event_row}
use Rattle.listing.specs.Texts.{told_as}
use Rattle.listing_of_lines.specs.declared.Listed as code
use Rattle.listing_of_lines.specs.declared.Told as told_code

-- what is told with the numbers of its refusals, which may be any
abbrev pub heard_in_numbers : Result (Option told_code.Told) ℕ → Heard
heard_in_numbers (Ok None) = Nothing
heard_in_numbers (Ok (Some event)) = Event (told_as event.answer) event.start event.size
heard_in_numbers (Err number) = Refused number

-- the row of what was heard: an event has one, nothing has none, and a refused state has its number
abbrev pub row_for : Heard → Outcome (List ℕ)
row_for Nothing = done []
row_for (Event answer start size) = event_row start answer
row_for (Refused number) = refused number

-- a reader, and what is left of a piece
pub record Underway : Type 0 where
  pub reader : Reader
  pub rest : List ℕ

-- the same behind a call of the line
abbrev pub behind_call : Fed → List ℕ → Underway
behind_call fed piece = record { reader = fed.reader; rest = drop fed.taken piece }

-- what comes next is the row of what the line tells; of a piece with no byte nothing comes
abbrev pub if_any : List ℕ → Next Underway → Next Underway
if_any [] row = nothing
if_any (byte ∷ piece) row = row

unfoldable pub next_row : Underway → Next Underway
next_row here =
    if_any here.rest
    (part (row_for (feed_reader here.reader here.rest).heard) (behind_call (feed_reader here.reader here.rest) here.rest))

-- the rows of a piece in a room of so many bytes, one behind another. A call of the line takes a byte at least, so a piece has at
-- most as many rows as bytes
abbrev pub rows_in : ℕ → Reader → List ℕ → Standing Underway
rows_in room reader piece = one_behind_another next_row (length piece) room (record { reader = reader; rest = piece })

-- what a call lays, how many bytes of the piece it takes, the reader after them, and how it ends
pub record Page : Type 0 where
  pub bytes : List ℕ
  pub taken : ℕ
  pub reader : Reader
  pub ending : Ending

abbrev pub page_for : List ℕ → Standing Underway → Page
page_for piece standing =
    record {
      bytes = joined standing.parts;
      taken = length piece - length standing.left.rest;
      reader = standing.left.reader;
      ending = standing.ending;
    }

-- nothing is laid
abbrev pub stopped : Reader → Ending → Page
stopped reader end = record { bytes = []; taken = 0; reader = reader; ending = end }

-- a piece listed into a buffer of so many bytes; a state that is not well formed is 15, and takes nothing
unfoldable pub page_of : ℕ → Reader → List ℕ → Page
page_of room reader piece = cond (well_formed reader) (page_for piece (rows_in room reader piece)) (stopped reader (ending.Refused 15))

-- a call's answer
pub record Listed : Type 0 where
  pub reader : Reader
  pub taken : ℕ
  pub used : ℕ
  pub ending : Ending

abbrev pub listed_for : Page → Listed
listed_for page = record { reader = page.reader; taken = page.taken; used = length page.bytes; ending = page.ending }

-- what the code hands out
abbrev pub listed_as : code.Listed → Listed
listed_as listed = record { reader = listed.reader; taken = listed.taken; used = listed.used; ending = ending.ending_as listed.ending }
