-- Laws of a reader that follows a piece, page by page. Assumes nothing.
use Rattle.std.proofs.Common.{◌≡◌, ℕ, ◌+◌, ◌-◌, ◌^◌, ◌≤◌, ◌<◌, true, List, [], ◌∷◌, ◌++◌, length, take, drop, refl, ap, ap₂, sym, ◌∙◌, append_assoc, append-nil, arith, length-drop}
use lib.Seq.{take_all, drop-drop}
use Rattle.line.specs.declared.Reader.{Reader}
use Rattle.line.specs.Readers.{reader_of, line_of, well_formed}
use Rattle.line_rules.specs.Line.{places, Line}
use Rattle.line_rules.specs.Events.{events_of, line_after}
use Rattle.line.proofs.ReaderLaws.{reader_back}
use Rattle.line_rules.proofs.GoodLines.{Good}
use Rattle.line.proofs.StaysGood.{good_line}
use Rattle.listing_of_lines.specs.Pages.{Page, page_of}
use Rattle.listing_of_lines.specs.Whole.{rows_of}
use Rattle.listing_of_lines.proofs.PageLaws.{call_takes}
use Rattle.listing_of_lines.proofs.WholeLaws.{call_continues}
use Rattle.listing_of_lines.proofs.RoomLaws.{call_takes_some}
use Rattle.listing_output.specs.Printing.{page_room, after_piece, piece_rows}

-- a reader from which the rest of the piece leads to the whole piece's reader, and the rows so far with those of the rest to the whole
-- piece's rows
pub record Follows (whole reader : Reader) (rows laid rest : List ℕ) : Type 0 where
  pub line : Line
  pub good : Good line
  pub is : reader ≡ reader_of line
  pub ends : whole ≡ reader_of (line_after line rest)
  pub goes_on : rows ≡ laid ++ rows_of (events_of line rest)

pub begins : (reader : Reader) (piece : List ℕ) → well_formed reader ≡ true → length reader.held ≡ places → reader.fed < 2 ^ 32 → reader.stray < 2 ^ 32
    → Follows (after_piece reader piece) reader (piece_rows reader piece) [] piece
begins reader piece good size fed stray =
    record { line = line_of reader; good = good_line reader size good; is = sym (reader_back reader good size fed stray); ends = refl; goes_on = refl }

pub over : (whole reader : Reader) (rows laid rest : List ℕ) → rest ≡ [] → Follows whole reader rows laid rest → reader ≡ whole
over whole reader rows laid rest none follows =
    follows.is ∙ sym (follows.ends ∙ ap (λ bytes. reader_of (line_after follows.line bytes)) none)

pub all_laid : (whole reader : Reader) (rows laid rest : List ℕ) → rest ≡ [] → Follows whole reader rows laid rest → laid ≡ rows
all_laid whole reader rows laid rest none follows =
    sym (follows.goes_on ∙ ap (λ bytes. laid ++ rows_of (events_of follows.line bytes)) none ∙ append-nil laid)

-- one page, of the unread end of the piece
module _ (whole reader : Reader) (rows laid piece : List ℕ) (at : ℕ) (follows : Follows whole reader rows laid (drop at piece))
    (next : Reader) (taken : ℕ) (reads : next ≡ (page_of page_room reader (take (length piece - at) (drop at piece))).reader)
    (takes : taken ≡ (page_of page_room reader (take (length piece - at) (drop at piece))).taken) where
  left : take (length piece - at) (drop at piece) ≡ drop at piece
  left = take_all (length piece - at) (drop at piece) (omega (arith, length-drop at piece))

  abbrev page : Page
  page = page_of page_room (reader_of follows.line) (drop at piece)

  same : page_of page_room reader (take (length piece - at) (drop at piece)) ≡ page
  same = ap (page_of page_room reader) left ∙ ap (λ r. page_of page_room r (drop at piece)) follows.is

  taken_is : taken ≡ page.taken
  taken_is = takes ∙ ap (λ p. p.taken) same

  pub fits : at ≤ length piece → at + taken ≤ length piece
  fits inside = omega (arith, taken_is, call_takes page_room (reader_of follows.line) (drop at piece), length-drop at piece)

  pub turn : Follows whole next rows (laid ++ (page_of page_room reader (take (length piece - at) (drop at piece))).bytes) (drop (at + taken) piece)
  turn =
      let on = call_continues page_room follows.line follows.good (drop at piece) in
      let rest : drop page.taken (drop at piece) ≡ drop (at + taken) piece = drop-drop page.taken at piece ∙ ap (λ n. drop (at + n) piece) (sym taken_is) in
      record {
        line = on.next;
        good = on.good;
        is = reads ∙ ap (λ p. p.reader) same ∙ on.is;
        ends = follows.ends ∙ ap reader_of (on.ends ∙ ap (line_after on.next) rest);
        goes_on =
            follows.goes_on
            ∙ ap (λ more. laid ++ more) (on.rows ∙ ap₂ (λ p bytes. p.bytes ++ rows_of (events_of on.next bytes)) (sym same) rest)
            ∙ sym (append_assoc laid _ _);
      }

  some_by : (rest : List ℕ) → 0 < length rest → 0 < (page_of page_room (reader_of follows.line) rest).taken
  some_by [] some = absurd (omega arith)
  some_by (byte ∷ rest) some = call_takes_some page_room (omega arith) follows.line follows.good byte rest

  pub some_taken : at < length piece → 0 < taken
  some_taken more = omega (arith, taken_is, some_by (drop at piece) (omega (arith, length-drop at piece)))
