-- The rows of a piece and of the end, and the reader behind a piece, are those of any line that the reader stands for. Assumes nothing.
use Rattle.std.proofs.Common.{◌≡◌, ℕ, ◌-◌, ◌%◌, ◌^◌, List, [], ◌∷◌, ◌++◌, length, replicate, refl, ap, sym, ◌∙◌, append-nil, length-append, arith}
use Rattle.std.proofs.lemmas.List.{length-replicate}
use Rattle.line.specs.Readers.{reader_of, line_of}
use Rattle.line_rules.specs.Line.{places, Line}
use Rattle.line_rules.specs.Events.{events_of, line_after}
use Rattle.line_rules.proofs.GoodLines.{Good}
use Rattle.line.proofs.ReaderLaws.{reader_back}
use Rattle.line.proofs.StaysGood.{reader_of_good, good_line, end_good}
use Rattle.listing_rules.specs.Listing.{stray_row}
use Rattle.listing_of_lines.specs.Whole.{row_of_event, rows_of, AllListed, Lent, lent_with, last_heard}
use Rattle.listing_of_lines.proofs.WholeLaws.{line_listed}
use Rattle.listing_of_lines.proofs.RoomLaws.{enough_turns}
use Rattle.listing_output.specs.Printing.{page_room, after_piece, piece_rows, end_rows}

-- what a piece gives for one line it gives for each other that the same reader stands for
module _ (line other : Line) (good : Good line) (other_good : Good other) (same : reader_of line ≡ reader_of other) (piece : List ℕ) where
  abbrev lents : List Lent
  lents = lent_with page_room piece ∷ []

  of_line : (rows_of (events_of line (piece ++ [])) ≡ rows_of (events_of other (piece ++ [])))
      × (reader_of (line_after line (piece ++ [])) ≡ reader_of (line_after other (piece ++ [])))
  of_line =
      let used : AllListed (reader_of line) lents = (enough_turns page_room (omega arith) (length piece) line good piece (omega arith), tt) in
      let here = line_listed lents line (reader_of line) good refl used in
      let there = line_listed lents other (reader_of line) other_good same used in
      (sym here.0 ∙ there.0, sym here.1 ∙ there.1)

  pub rows_same : rows_of (events_of line piece) ≡ rows_of (events_of other piece)
  rows_same =
      ap (λ bytes. rows_of (events_of line bytes)) (sym (append-nil piece)) ∙ of_line.0 ∙ ap (λ bytes. rows_of (events_of other bytes)) (append-nil piece)

  pub reader_same : reader_of (line_after line piece) ≡ reader_of (line_after other piece)
  reader_same =
      ap (λ bytes. reader_of (line_after line bytes)) (sym (append-nil piece)) ∙ of_line.1 ∙ ap (λ bytes. reader_of (line_after other bytes)) (append-nil piece)

module _ (line : Line) (good : Good line) where
  size : length (reader_of line).held ≡ places
  size = length-append line.held (replicate (places - length line.held) 0) ∙ omega (arith, length-replicate {A = ℕ} (places - length line.held) 0, good.fits)

  back : reader_of line ≡ reader_of (line_of (reader_of line))
  back = sym (reader_back (reader_of line) (reader_of_good line good) size (omega arith) (omega arith))

  line_good : Good (line_of (reader_of line))
  line_good = good_line (reader_of line) size (reader_of_good line good)

  pub rows_of_line : (piece : List ℕ) → piece_rows (reader_of line) piece ≡ rows_of (events_of line piece)
  rows_of_line piece = sym (rows_same line (line_of (reader_of line)) good line_good back piece)

  pub reader_of_line : (piece : List ℕ) → after_piece (reader_of line) piece ≡ reader_of (line_after line piece)
  reader_of_line piece = sym (reader_same line (line_of (reader_of line)) good line_good back piece)

  pub end_of_line : end_rows (reader_of line) ≡ row_of_event (last_heard line) ++ stray_row (line.stray % 2 ^ 32)
  end_of_line = ap (λ ended. row_of_event ended.heard ++ stray_row (line.stray % 2 ^ 32)) (end_good line good)
