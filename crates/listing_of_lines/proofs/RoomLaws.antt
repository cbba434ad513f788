-- Buffers and rows: 13 is given exactly where a buffer is shorter than the rows of a piece, and with buffers that hold the longest row
-- every line can be listed. Assumes nothing.
use mathlib.Core.Path.{◌≡◌, refl, ap, ◌∙◌, subst⁻¹}
use mathlib.Core.List.{List, [], ◌∷◌, map}
use Prim.Native.Nat.{ℕ, zero, suc, ◌-◌, ◌^◌, ◌≤◌, ◌<◌}
use Prim.{tt}
use native.Mathlib.Nat.{mod-lt}
use native.Mathlib.Omega.{arith}
use lib.ListN.{length, drop, replicate, length-drop}
use Rattle.refusals.specs.Refusals.{done, refused}
use Rattle.lent_buffer.specs.OneBehindAnother.{part, part_then, one_behind_another, ending_in}
use Rattle.lent_buffer.proofs.LayingLaws.{within_fits}
use Rattle.lent_buffer.proofs.OneBehindAnotherLaws.{first_part, Comes, none, more, ends_by_room}
use Rattle.line.specs.declared.Reader.{Reader}
use Rattle.line.specs.Readers.{reader_of, fed_for, fresh_in}
use Rattle.line_rules.specs.Line.{Line, Told, nothing, event, Feeding, stop_or, feed_of, told_by, step, start_of, heard_for, fresh_line}
use Rattle.line_rules.specs.Events.{events_of}
use Rattle.line_rules.proofs.GoodLines.{Good, good_feed}
use Rattle.line.proofs.StaysGood.{feed_good, reader_of_good}
use Rattle.line_rules.proofs.EventLaws.{feed_parts, some_by, shorter, good_fresh}
use Rattle.listing_rules.specs.Listing.{longest_row}
use Rattle.listing_rules.proofs.RowLaws.{record_short, refused_short}
use Rattle.listing_of_lines.specs.Pages.{row_for, Underway, behind_call, next_row, rows_in, page_for, page_of}
use Rattle.listing_of_lines.specs.Whole.{row_of_event, rows_of, turns_with, lent_with, AllListed, EveryCutCanBeListed}
use Rattle.listing_of_lines.proofs.PageLaws.{comes_some, comes_none, page_good, left_tail}
use Rattle.listing_of_lines.proofs.WholeLaws.{Sound, sound_feed, row_told, rows_then, call_continues, turns_continue}

-- all the rows of a piece come, one for each call
comes_row : (line : Line) → Good line → (byte : ℕ) (piece : List ℕ)
    → let feeding = feed_of line (byte ∷ piece) in
    next_row (record { reader = reader_of line; rest = byte ∷ piece })
    ≡ part (done (row_of_event (heard_for feeding.told feeding.at))) (record { reader = reader_of feeding.line; rest = drop feeding.taken (byte ∷ piece) })
comes_row line good byte piece =
    let feeding = feed_of line (byte ∷ piece) in
    comes_some (reader_of line) (byte ∷ piece) (omega arith)
    ∙ ap (λ fed. part (row_for fed.heard) (behind_call fed (byte ∷ piece))) (feed_good line good (byte ∷ piece))
    ∙ ap (λ outcome. part outcome (behind_call (fed_for feeding) (byte ∷ piece))) (row_told feeding.told feeding.at (sound_feed line (byte ∷ piece)))

rows_come : (n : ℕ) (line : Line) → Good line → (piece : List ℕ) → length piece ≤ n
    → Comes next_row n (record { reader = reader_of line; rest = piece }) (rows_of (events_of line piece))
rows_come zero line good [] enough = none (comes_none (reader_of line))
rows_come zero line good (byte ∷ piece) enough = absurd (omega arith)
rows_come (suc n) line good [] enough = none (comes_none (reader_of line))
rows_come (suc n) line good (byte ∷ piece) enough =
    let whole = byte ∷ piece in
    let feeding = feed_of line whole in
    let rest = drop feeding.taken whole in
    subst⁻¹ (Comes next_row (suc n) (record { reader = reader_of line; rest = whole }))
    (ap rows_of (feed_parts line whole).0 ∙ rows_then (heard_for feeding.told feeding.at) (events_of feeding.line rest))
    (more (comes_row line good byte piece) (rows_come n feeding.line (good_feed line whole good) rest (shorter line whole n enough)))

pub call_ends_by_room : (room : ℕ) (line : Line) → Good line → (piece : List ℕ) → (page_of room (reader_of line) piece).ending ≡ ending_in room (rows_of (events_of line piece))
call_ends_by_room room line good piece =
    ap (λ page. page.ending) (page_good room (reader_of line) piece (reader_of_good line good)) ∙ ends_by_room next_row (rows_come (length piece) line good piece (omega arith)) room

-- no row of an event is longer than the longest
at_by : (told : Told) (start : ℕ) (next : Line) (on : Feeding) → start < 2 ^ 32 → on.at < 2 ^ 32 → (stop_or told start next on).at < 2 ^ 32
at_by nothing start next on s o = o
at_by (event outcome size) start next on s o = s

at_fits : (line : Line) (piece : List ℕ) → (feed_of line piece).at < 2 ^ 32
at_fits line [] = omega arith
at_fits line (byte ∷ piece) =
    at_by (told_by line.order line.held byte) (start_of line) (step line byte) (feed_of (step line byte) piece) (mod-lt _ (omega arith)) (at_fits (step line byte) piece)

row_short : (told : Told) (at : ℕ) → at < 2 ^ 32 → Sound told → length (row_of_event (heard_for told at)) ≤ longest_row
row_short nothing at fits sound = omega arith
row_short (event (done rec) size) at fits sound = record_short at fits rec
row_short (event (refused n) size) at fits sound = refused_short at n (omega arith) sound

-- so a call takes a byte at least
takes_some : (room : ℕ) → longest_row ≤ room → (line : Line) → Good line → (byte : ℕ) (piece : List ℕ)
    → 0 < (page_for (byte ∷ piece) (rows_in room (reader_of line) (byte ∷ piece))).taken
takes_some room enough line good byte piece =
    let whole = byte ∷ piece in
    let feeding = feed_of line whole in
    let row = row_of_event (heard_for feeding.told feeding.at) in
    let start : Underway = record { reader = reader_of line; rest = whole } in
    let rest : Underway = record { reader = reader_of feeding.line; rest = drop feeding.taken whole } in
    let short = row_short feeding.told feeding.at (at_fits line whole) (sound_feed line whole) in
    let stands =
    first_part next_row (length piece) room start (done row) rest (comes_row line good byte piece)
    ∙ ap (λ o. part_then o start (λ bytes. one_behind_another next_row (length piece) (room - length bytes) rest)) (within_fits room row (omega arith)) in
    let tail = left_tail (length piece) (room - length row) rest in
    omega (
      arith,
      ap (λ s. length s.left.rest) stands,
      ap length tail.is,
      length-drop tail.taken rest.rest,
      length-drop feeding.taken whole,
      some_by (told_by line.order line.held byte) (start_of line) (step line byte) (feed_of (step line byte) piece),
    )

pub call_takes_some : (room : ℕ) → longest_row ≤ room → (line : Line) → Good line → (byte : ℕ) (piece : List ℕ) → 0 < (page_of room (reader_of line) (byte ∷ piece)).taken
call_takes_some room enough line good byte piece =
    subst⁻¹ (λ page. 0 < page.taken) (page_good room (reader_of line) (byte ∷ piece) (reader_of_good line good)) (takes_some room enough line good byte piece)

-- and as many turns as a piece has bytes use it up
less_left : (room : ℕ) → longest_row ≤ room → (line : Line) → Good line → (piece : List ℕ) (n : ℕ) → length piece ≤ suc n
    → length (drop (page_of room (reader_of line) piece).taken piece) ≤ n
less_left room enough line good [] n h =
    let none : List ℕ = [] in
    omega (arith, length-drop (page_of room (reader_of line) none).taken none)
less_left room enough line good (byte ∷ piece) n h =
    omega (arith, length-drop (page_of room (reader_of line) (byte ∷ piece)).taken (byte ∷ piece), call_takes_some room enough line good byte piece)

pub enough_turns : (room : ℕ) → longest_row ≤ room → (n : ℕ) (line : Line) → Good line → (piece : List ℕ) → length piece ≤ n
    → (turns_with (replicate n room) (reader_of line) piece).rest ≡ []
enough_turns room enough zero line good [] h = refl
enough_turns room enough zero line good (byte ∷ piece) h = absurd (omega arith)
enough_turns room enough (suc n) line good piece h =
    let page = page_of room (reader_of line) piece in
    let rest = drop page.taken piece in
    let here = call_continues room line good piece in
    ap (λ reader. (turns_with (replicate n room) reader rest).rest) here.is
    ∙ enough_turns room enough n here.next here.good rest (less_left room enough line good piece n h)

all_listed : (room : ℕ) → longest_row ≤ room → (pieces : List (List ℕ)) (line : Line) (reader : Reader) → Good line → reader ≡ reader_of line → AllListed reader (map (lent_with room) pieces)
all_listed room enough [] line reader good is = tt
all_listed room enough (piece ∷ pieces) line reader good is =
    let rooms = replicate (length piece) room in
    let here = turns_continue rooms line good piece in (
      ap (λ r. (turns_with rooms r piece).rest) is ∙ enough_turns room enough (length piece) line good piece (omega arith),
      all_listed room enough pieces here.next (turns_with rooms reader piece).reader here.good (ap (λ r. (turns_with rooms r piece).reader) is ∙ here.is),
    )

pub every_cut_can_be_listed : EveryCutCanBeListed
every_cut_can_be_listed order room enough pieces = all_listed room enough pieces (fresh_line order) (fresh_in order) (good_fresh order) refl
