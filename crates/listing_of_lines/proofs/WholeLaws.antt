-- What is laid for a line, however it is cut and whatever buffers are lent, is the listing of the line. Assumes nothing.
use mathlib.Core.Path.{◌≡◌, refl, ap, ap₂, sym, ◌∙◌, subst⁻¹}
use mathlib.Core.Bool.{Bool, true, false, cond}
use mathlib.Core.List.{List, [], ◌∷◌, ◌++◌, map, map-append, append_assoc, append-nil}
use Prim.Native.Nat.{ℕ, ◌^◌, ◌<◌}
use Prim.{Unit, tt}
use native.Mathlib.Omega.{arith}
use lib.Dec.{leb, eqb}
use lib.ListN.{length, drop}
use Rattle.ascii.specs.Control.{stx, etx}
use Rattle.refusals.specs.Refusals.{Outcome, done, refused}
use Rattle.refusals.proofs.Laws.{does}
use Rattle.lent_buffer.specs.OneBehindAnother.{part, joined, one_behind_another}
use Rattle.lent_buffer.proofs.OneBehindAnotherLaws.{joined_behind, stands_by}
use Rattle.record_rules.specs.declared.Record.{Record}
use Rattle.record_rules.specs.Rule.{refusal_of}
use Rattle.telegram_rules.specs.Reading.{read_in}
use Rattle.telegram_rules.proofs.InOrder.{accepted}
use Rattle.trailer_rules.specs.declared.Order.{Order}
use Rattle.line.specs.declared.Reader.{Reader}
use Rattle.line_rules.specs.Hearing.{Heard, Nothing, Event, Refused}
use Rattle.line.specs.Readers.{reader_of, fresh_in, feed_reader, end_reader}
use Rattle.line_rules.specs.Line.{places, Line, Told, nothing, event, Feeding, stop_or, feed_of, told_by, step, start_of, heard_for, fresh_line}
use Rattle.line_rules.specs.Events.{events_of, line_after, heard_then}
use Rattle.line_rules.proofs.GoodLines.{Good, good_feed}
use Rattle.line.proofs.StaysGood.{feed_good, end_good, reader_of_good}
use Rattle.line_rules.proofs.EventLaws.{feed_parts, events_join, after_join, good_after, good_fresh}
use Rattle.listing_rules.specs.Listing.{header_row, record_row, stray_row}
use Rattle.listing_of_lines.specs.Pages.{row_for, Underway, behind_call, next_row, rows_in, Page, page_of}
use Rattle.listing_of_lines.specs.Whole.{row_of_event, rows_of, listing_in, Turns, turns_with, Lent, bytes_lent, rows_laid, reader_left, AllListed, WhatIsLaidIsTheListing}
use Rattle.listing_of_lines.proofs.NumberLaws.{read_number}
use Rattle.listing_of_lines.proofs.PageLaws.{came, page_good, page_left}

-- a record that the line hands out is good, and a number that it gives is a byte
abbrev pub Sound : Told → Type 0
Sound nothing = Unit
Sound (event (done rec) size) = refusal_of rec ≡ 0
Sound (event (refused n) size) = n < 2 ^ 8

sound_read : (order : Order) (bytes : List ℕ) (size : ℕ) (outcome : Outcome Record) → read_in order true bytes ≡ outcome → Sound (event outcome size)
sound_read order bytes size (done rec) e = (accepted order true bytes rec e).is_good_law
sound_read order bytes size (refused n) e = omega (arith, read_number order true bytes n e)

sound_inside : (order : Order) (bytes : List ℕ) (size held longest : ℕ) (etx stx full : Bool)
    → Sound (cond etx (event (read_in order true bytes) size) (cond stx (event (refused 9) held) (cond full (event (refused 10) longest) nothing)))
sound_inside order bytes size held longest true stx full = sound_read order bytes size (read_in order true bytes) refl
sound_inside order bytes size held longest false true full = omega arith
sound_inside order bytes size held longest false false true = omega arith
sound_inside order bytes size held longest false false false = tt

sound_told : (order : Order) (held : List ℕ) (byte : ℕ) → Sound (told_by order held byte)
sound_told order [] byte = tt
sound_told order (first ∷ held) byte = sound_inside order _ _ _ _ (eqb byte etx) (eqb byte stx) (leb places (length (first ∷ held)))

stop_sound : (told : Told) (start : ℕ) (next : Line) (on : Feeding) → Sound told → Sound on.told → Sound (stop_or told start next on).told
stop_sound nothing start next on here later = later
stop_sound (event outcome size) start next on here later = here

pub sound_feed : (line : Line) (piece : List ℕ) → Sound (feed_of line piece).told
sound_feed line [] = tt
sound_feed line (byte ∷ piece) =
    stop_sound (told_by line.order line.held byte) (start_of line) (step line byte) (feed_of (step line byte) piece) (sound_told line.order line.held byte) (sound_feed (step line byte) piece)

-- so what is heard has its row
pub row_told : (told : Told) (at : ℕ) → Sound told → row_for (heard_for told at) ≡ done (row_of_event (heard_for told at))
row_told nothing at sound = refl
row_told (event (done rec) size) at sound = does (record_row at rec) sound
row_told (event (refused n) size) at sound = refl

pub rows_then : (heard : Heard) (later : List Heard) → rows_of (heard_then heard [] ++ later) ≡ row_of_event heard ++ rows_of later
rows_then Nothing later = refl
rows_then (Event answer start size) later = refl
rows_then (Refused number) later = refl

rows_join : (a b : List Heard) → rows_of (a ++ b) ≡ rows_of a ++ rows_of b
rows_join a b = ap joined (map-append row_of_event a b) ∙ joined_behind (map row_of_event a) (map row_of_event b)

-- a line that goes on where the bytes laid and what is left of the piece say: together they make the whole
pub record GoesOn (line : Line) (piece laid : List ℕ) (reader : Reader) (rest : List ℕ) : Type 0 where
  pub next : Line
  pub good : Good next
  pub is : reader ≡ reader_of next
  pub rows : rows_of (events_of line piece) ≡ laid ++ rows_of (events_of next rest)
  pub ends : line_after line piece ≡ line_after next rest

abbrev pub Continues : Line → List ℕ → Page → Type 0
Continues line piece page = GoesOn line piece page.bytes page.reader (drop page.taken piece)

-- one row more
row_continues : (here rest left : Underway) (bytes : List ℕ) (parts : List (List ℕ)) → next_row here ≡ part (done bytes) rest
    → ((line : Line) → Good line → rest.reader ≡ reader_of line → GoesOn line rest.rest (joined parts) left.reader left.rest)
    → (line : Line) → Good line → here.reader ≡ reader_of line → GoesOn line here.rest (bytes ++ joined parts) left.reader left.rest
row_continues here rest left bytes parts comes later line good is =
    let feeding = feed_of line here.rest in
    let heard = heard_for feeding.told feeding.at in
    let of_it = came here rest (done bytes) comes in
    let fed = ap (λ reader. feed_reader reader here.rest) is ∙ feed_good line good here.rest in
    let behind : rest ≡ record { reader = reader_of feeding.line; rest = drop feeding.taken here.rest } =
    sym of_it.behind ∙ ap (λ f. behind_call f here.rest) fed in
    let told : done (row_of_event heard) ≡ done bytes =
    sym (row_told feeding.told feeding.at (sound_feed line here.rest)) ∙ ap (λ f. row_for f.heard) (sym fed) ∙ of_it.row in
    let row : row_of_event heard ≡ bytes = cc in
    let on = later feeding.line (good_feed line here.rest good) (ap (λ u. u.reader) behind) in
    let left_is = ap (λ u. u.rest) behind in
    let splits = feed_parts line here.rest in
    record {
      next = on.next;
      good = on.good;
      is = on.is;
      rows =
          ap rows_of splits.0
          ∙ rows_then heard (events_of feeding.line (drop feeding.taken here.rest))
          ∙ ap₂ (λ a b. a ++ rows_of (events_of feeding.line b)) row (sym left_is)
          ∙ ap (◌++◌ bytes) on.rows
          ∙ sym (append_assoc bytes (joined parts) (rows_of (events_of on.next left.rest)));
      ends = splits.1 ∙ ap (line_after feeding.line) (sym left_is) ∙ on.ends;
    }

rows_continue : (n room : ℕ) (here : Underway) (line : Line) → Good line → here.reader ≡ reader_of line
    → GoesOn line here.rest (joined (one_behind_another next_row n room here).parts) (one_behind_another next_row n room here).left.reader (one_behind_another next_row n room here).left.rest
rows_continue =
    stands_by next_row (λ here parts left. (line : Line) → Good line → here.reader ≡ reader_of line → GoesOn line here.rest (joined parts) left.reader left.rest)
    (λ here line good is. record { next = line; good = good; is = is; rows = refl; ends = refl }) row_continues

pub call_continues : (room : ℕ) (line : Line) → Good line → (piece : List ℕ) → Continues line piece (page_of room (reader_of line) piece)
call_continues room line good piece =
    let standing = rows_in room (reader_of line) piece in
    subst⁻¹ (Continues line piece) (page_good room (reader_of line) piece (reader_of_good line good))
    (subst⁻¹ (GoesOn line piece (joined standing.parts) standing.left.reader) (page_left room (reader_of line) piece)
    (rows_continue (length piece) room (record { reader = reader_of line; rest = piece }) line good refl))

-- any number of turns on one piece
abbrev TurnsOn : Line → List ℕ → Turns → Type 0
TurnsOn line piece turns = GoesOn line piece turns.laid turns.reader turns.rest

pub turns_continue : (rooms : List ℕ) (line : Line) → Good line → (piece : List ℕ) → TurnsOn line piece (turns_with rooms (reader_of line) piece)
turns_continue [] line good piece = record { next = line; good = good; is = refl; rows = refl; ends = refl }
turns_continue (room ∷ rooms) line good piece =
    let page = page_of room (reader_of line) piece in
    let rest = drop page.taken piece in
    let here = call_continues room line good piece in
    let later = subst⁻¹ (λ reader. TurnsOn here.next rest (turns_with rooms reader rest)) here.is (turns_continue rooms here.next here.good rest) in
    record {
      next = later.next;
      good = later.good;
      is = later.is;
      rows =
          here.rows
          ∙ ap (◌++◌ page.bytes) later.rows
          ∙ sym (append_assoc page.bytes (turns_with rooms page.reader rest).laid (rows_of (events_of later.next (turns_with rooms page.reader rest).rest)));
      ends = here.ends ∙ later.ends;
    }

-- and a whole line
pub line_listed : (lents : List Lent) (line : Line) (reader : Reader) → Good line → reader ≡ reader_of line → AllListed reader lents
    → (rows_laid reader lents ≡ rows_of (events_of line (bytes_lent lents))) × (reader_left reader lents ≡ reader_of (line_after line (bytes_lent lents)))
line_listed [] line reader good is used = (refl, is)
line_listed (lent ∷ others) line reader good is used =
    let turns = turns_with lent.rooms reader lent.piece in
    let here = subst⁻¹ (λ r. TurnsOn line lent.piece (turns_with lent.rooms r lent.piece)) is (turns_continue lent.rooms line good lent.piece) in
    let after : line_after line lent.piece ≡ here.next = here.ends ∙ ap (line_after here.next) used.0 in
    let laid : rows_of (events_of line lent.piece) ≡ turns.laid =
    here.rows ∙ ap (λ rest. turns.laid ++ rows_of (events_of here.next rest)) used.0 ∙ append-nil turns.laid in
    let on = line_listed others (line_after line lent.piece) turns.reader (good_after line lent.piece good) (here.is ∙ ap reader_of (sym after)) used.1 in (
      ap₂ ◌++◌ (sym laid) on.0
          ∙ sym (rows_join (events_of line lent.piece) (events_of (line_after line lent.piece) (bytes_lent others)))
          ∙ ap rows_of (sym (events_join line lent.piece (bytes_lent others))),
      on.1 ∙ ap reader_of (sym (after_join line lent.piece (bytes_lent others))),
    )

pub what_is_laid : WhatIsLaidIsTheListing
unfolding listing_in
what_is_laid order lents used =
    let all = line_listed lents (fresh_line order) (fresh_in order) (good_fresh order) refl used in
    let line = line_after (fresh_line order) (bytes_lent lents) in
    ap₂ (λ rows reader. header_row ++ rows ++ row_of_event (end_reader reader).heard ++ stray_row reader.stray) all.0 all.1
    ∙ ap (λ heard. header_row ++ rows_of (events_of (fresh_line order) (bytes_lent lents)) ++ row_of_event heard ++ stray_row (reader_of line).stray)
    (ap (λ ended. ended.heard) (end_good line (good_after (fresh_line order) (bytes_lent lents) (good_fresh order))))
