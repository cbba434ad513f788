-- What a printer is after a piece and after the end of the line. What goes out is what `listing` and `pages` lay; whether it went out
-- is the writer's answer, and no definition can give it.
use Rattle.std.specs.Prelude.{cond, List, [], ◌++◌, ℕ, take, Option, Result, Ok, Err}
use Rattle.std.specs.Io.KnownBytes.{Appends, Keeps}
use Rattle.refusals.specs.Refusals.{Outcome, done, refused}
use Rattle.line.specs.declared.Reader.{Reader}
use Rattle.line.specs.Readers.{reader_of, line_of, well_formed, end_reader}
use Rattle.line_rules.specs.Events.{events_of, line_after}
use Rattle.listing_rules.specs.Listing.{stray_row}
use Rattle.listing_of_lines.specs.Whole.{row_of_event, rows_of}
use Rattle.refusals.specs.declared.Refusal.{Refusal}
use Rattle.refusals.specs.Numbers.{number}
use Rattle.listing_output.specs.declared.Unwritten.{Unwritten}
use Rattle.listing_output.specs.declared.Unwritten.TheVariants.{Failed, Refused}
use Rattle.listing_output.specs.declared.Printer.{Printer}

-- how many bytes of rows are handed on at once
abbrev pub page_room : ℕ
page_room = 4096

-- the reader after a whole piece
abbrev pub after_piece : Reader → List ℕ → Reader
after_piece reader piece = reader_of (line_after (line_of reader) piece)

-- how the output stands: everything went out, or why not
abbrev pub Output : Type 0
Output = Result (Unit {0}) Unwritten

-- what a call leaves, by what the output then is: where everything went out, the next reader; else the reader as it was
abbrev pub handed : Reader → Reader → Output → Printer
handed reader next (Ok whole) = record { reader = next; output = Ok tt }
handed reader next (Err why) = record { reader = reader; output = Err why }

-- once something did not go out, or was refused, a printer stays as it is; a state that is not well formed is refused with 15 and
-- comes back unchanged
abbrev pub printed : Output → Reader → Reader → Output → Printer
printed (Ok whole) reader next told = cond (well_formed reader) (handed reader next told) (record { reader = reader; output = Err (Refused 15) })
printed (Err why) reader next told = record { reader = reader; output = Err why }

-- a row that was laid goes out or does not, and is not refused; one that was refused is told with its number
abbrev pub sent_out : Output → Output
sent_out (Ok whole) = Ok tt
sent_out (Err (Failed why)) = Err (Failed why)
sent_out (Err (Refused number)) = Ok tt

-- what is handed out of a row, with the number of its refusal
abbrev pub numbered : Result ℕ Refusal → Result ℕ ℕ
numbered (Ok size) = Ok size
numbered (Err refusal) = Err (number refusal)

abbrev pub printed_row : Result ℕ ℕ → Output → Output
printed_row (Ok size) told = sent_out told
printed_row (Err number) told = Err (Refused number)

-- the bytes of a row, if it has some
abbrev pub bytes_of : Outcome (List ℕ) → List ℕ
bytes_of (done bytes) = bytes
bytes_of (refused number) = []

-- what goes out where everything does, of the bytes that the writer is known to hold: the row of each event of a piece, and at the end the
-- last event's row, if there is one, and the count of stray bytes
abbrev pub piece_rows : Reader → List ℕ → List ℕ
piece_rows reader piece = rows_of (events_of (line_of reader) piece)

abbrev pub end_rows : Reader → List ℕ
end_rows reader = row_of_event (end_reader reader).heard ++ stray_row reader.stray

abbrev pub IsSent : Output → Option (List ℕ) → Option (List ℕ) → List ℕ → Type 0
IsSent (Ok whole) before after bytes = Appends before after bytes
IsSent (Err why) before after bytes = Unit {0}

-- of a row that was laid at the front of a buffer its bytes go out; of one that was refused nothing
abbrev pub IsRowSent : Result ℕ ℕ → Output → Option (List ℕ) → Option (List ℕ) → List ℕ → Type 0
IsRowSent (Ok size) told before after out = IsSent told before after (take size out)
IsRowSent (Err number) told before after out = Keeps before after

-- once something did not go out, or was refused, nothing more is written
abbrev pub IsSilentUnlessWhole : Output → Option (List ℕ) → Option (List ℕ) → Type 0
IsSilentUnlessWhole (Ok whole) before after = Unit {0}
IsSilentUnlessWhole (Err why) before after = Keeps before after
