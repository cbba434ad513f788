-- Laws of a line that is read and listed to its end. Assumes nothing.
use Rattle.std.proofs.Common.{◌≡◌, ℕ, ◌%◌, ◌^◌, List, ◌++◌, None, Some, Option, Ok, IfSome, refl, ap, map, sym, ◌∙◌, subst, append_assoc, append-nil}
use Rattle.std.proofs.lemmas.List.{map-append}
use Rattle.std.specs.Io.KnownBytes.{Appends, Consumes, IsAtEnd}
use Rattle.std.proofs.KnownBytes.{Appends-trans}
use Rattle.lent_buffer.specs.OneBehindAnother.{joined}
use Rattle.lent_buffer.proofs.OneBehindAnotherLaws.{joined_behind}
use Rattle.trailer_rules.specs.declared.Order.{Order}
use Rattle.line.specs.declared.Reader.{Reader}
use Rattle.line.specs.Readers.{reader_of}
use Rattle.line_rules.specs.Hearing.{Heard}
use Rattle.line_rules.specs.Line.{fresh_line}
use Rattle.line_rules.specs.Events.{events_of, line_after}
use Rattle.line.proofs.StaysGood.{reader_of_good}
use Rattle.line_rules.proofs.EventLaws.{events_join, after_join, good_after, good_fresh}
use Rattle.listing_rules.specs.Listing.{header_row, stray_row}
use Rattle.listing_of_lines.specs.Whole.{row_of_event, rows_of, last_heard, listing_in}
use Rattle.listing_output.specs.declared.Printer.{Printer}
use Rattle.listing_output.specs.Printing.{Output, after_piece, printed, piece_rows, end_rows, IsSent}
use Rattle.listing_output.proofs.SentLaws.{was_sent, appends_same}
use Rattle.listing_output.proofs.LineLaws.{rows_of_line, reader_of_line, end_of_line}

-- the reader and the rows of so many bytes of a line
abbrev pub reader_behind : Order → List ℕ → Reader
reader_behind order seen = reader_of (line_after (fresh_line order) seen)

abbrev pub rows_behind : Order → List ℕ → List ℕ
rows_behind order seen = header_row ++ rows_of (events_of (fresh_line order) seen)

rows_join : (a b : List Heard) → rows_of (a ++ b) ≡ rows_of a ++ rows_of b
rows_join a b = ap joined (map-append row_of_event a b) ∙ joined_behind (map row_of_event a) (map row_of_event b)

-- a piece more
pub reader_on : (order : Order) (seen piece : List ℕ) → after_piece (reader_behind order seen) piece ≡ reader_behind order (seen ++ piece)
reader_on order seen piece =
    reader_of_line (line_after (fresh_line order) seen) (good_after (fresh_line order) seen (good_fresh order)) piece
    ∙ ap reader_of (sym (after_join (fresh_line order) seen piece))

pub rows_on : (order : Order) (seen piece : List ℕ) → rows_behind order seen ++ piece_rows (reader_behind order seen) piece ≡ rows_behind order (seen ++ piece)
rows_on order seen piece =
    append_assoc header_row (rows_of (events_of (fresh_line order) seen)) (piece_rows (reader_behind order seen) piece)
    ∙ ap (λ rows. header_row ++ rows)
    (ap (λ rows. rows_of (events_of (fresh_line order) seen) ++ rows)
    (rows_of_line (line_after (fresh_line order) seen) (good_after (fresh_line order) seen (good_fresh order)) piece)
    ∙ sym (ap rows_of (events_join (fresh_line order) seen piece) ∙ rows_join (events_of (fresh_line order) seen) (events_of (line_after (fresh_line order) seen) piece)))

-- what goes out, where everything does
pub went_out : (told : Output) (before after : Option (List ℕ)) (rows same : List ℕ) → rows ≡ same → told ≡ Ok tt → IsSent told before after rows → Appends before after same
went_out told before after rows same is whole sent = appends_same before after rows same is (was_sent told before after rows whole sent)

-- a printer that took one, and what the writer then holds
module _ (order : Order) (seen piece : List ℕ) (printer next : Printer) (reader : printer.reader ≡ reader_behind order seen) (whole : next.output ≡ Ok tt) where
  pub printer_on : printer.output ≡ Ok tt → next ≡ printed printer.output printer.reader (after_piece printer.reader piece) next.output
      → next.reader ≡ reader_behind order (seen ++ piece)
  printer_on was is =
      let here = reader_behind order seen in
      let there = after_piece here piece in
      let good = reader_of_good (line_after (fresh_line order) seen) (good_after (fresh_line order) seen (good_fresh order)) in
      let says : next ≡ printed (Ok tt) here there (Ok tt) =
      is ∙ ap (λ o. printed o printer.reader (after_piece printer.reader piece) next.output) was
      ∙ ap (λ r. printed (Ok tt) r (after_piece r piece) next.output) reader
      ∙ ap (printed (Ok tt) here there) whole in
      let left : printed (Ok tt) here there (Ok tt) ≡ record { reader = there; output = Ok tt } = rw good refl in
      ap (λ p. p.reader) (says ∙ left) ∙ reader_on order seen piece

  pub sent_on : (before between after : Option (List ℕ)) → Appends before between (rows_behind order seen)
      → IsSent next.output between after (piece_rows printer.reader piece) → Appends before after (rows_behind order (seen ++ piece))
  sent_on before between after so_far sent =
      subst (Appends before after) (rows_on order seen piece)
      (Appends-trans before between after _ _ so_far (went_out next.output between after _ _ (ap (λ r. piece_rows r piece) reader) whole sent))

-- the end
pub rows_end : (order : Order) (seen : List ℕ) → rows_behind order seen ++ end_rows (reader_behind order seen) ≡ listing_in order seen
unfolding listing_in
rows_end order seen =
    let line = line_after (fresh_line order) seen in
    ap (λ rows. rows_behind order seen ++ rows) (end_of_line line (good_after (fresh_line order) seen (good_fresh order)))
    ∙ sym (append_assoc (rows_behind order seen) (row_of_event (last_heard line)) (stray_row (line.stray % 2 ^ 32)))

pub listed : (order : Order) (bytes left before between after : Option (List ℕ)) (seen : List ℕ) → Consumes bytes left seen → IsAtEnd left
    → Appends before between (rows_behind order seen) → Appends between after (end_rows (reader_behind order seen))
    → IfSome bytes (λ all. Appends before after (listing_in order all))
listed order None left before between after seen taken ended rows last = tt
listed order (Some all) None before between after seen taken ended rows last = absurd taken
listed order (Some all) (Some rest) before between after seen taken ended rows last =
    let is : all ≡ seen = taken ∙ ap (λ more. seen ++ more) ended ∙ append-nil seen in
    subst (Appends before after) (rows_end order seen ∙ ap (listing_in order) (sym is)) (Appends-trans before between after _ _ rows last)
