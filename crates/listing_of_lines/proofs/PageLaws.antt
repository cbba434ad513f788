-- Laws of rows that stand one behind another in a buffer, while a piece is listed. Assumes nothing.
use mathlib.Core.Path.{◌≡◌, refl, ap, sym, ◌∙◌, subst, subst⁻¹}
use mathlib.Core.Bool.{Bool, true, false, cond}
use mathlib.Core.List.{List, [], ◌∷◌, ◌++◌}
use Prim.Native.Nat.{ℕ, zero, suc, ◌+◌, ◌-◌, ◌≤◌, ◌<◌}
use native.Mathlib.Omega.{arith}
use lib.ListN.{length, take, drop, length-drop, drop_of_length-le}
use lib.Seq.{drop-drop}
use borrow.Rule.Slice.PartMut.{put_mid}
use Rattle.refusals.specs.Refusals.{Outcome, done, refused}
use Rattle.lent_buffer.specs.Endings.{Ending}
use Rattle.lent_buffer.specs.Endings as ending
use Rattle.lent_buffer.specs.Laying.{laid}
use Rattle.lent_buffer.specs.OneBehindAnother.{nothing, part, Standing, joined, one_behind_another}
use Rattle.lent_buffer.proofs.LayingLaws.{within_done, laid_fits, laid_refused, stands}
use Rattle.lent_buffer.proofs.TailLaws.{tail_lent, tail_back}
use Rattle.lent_buffer.proofs.OneBehindAnotherLaws.{stands_by, Laying, Ended, none_yet_law, no_more_law, part_stops, part_stands}
use Rattle.line.specs.declared.Reader.{Reader}
use Rattle.line_rules.specs.Hearing.{Heard, Nothing, Refused}
use Rattle.line.specs.Readers.{well_formed, feed_reader, feed_reader_at, line_of, fed_for, Fed}
use Rattle.line_rules.specs.Line.{feed_of, told_by, start_of, step}
use Rattle.line.proofs.PieceLaws.{feed_fits}
use Rattle.line_rules.proofs.EventLaws.{some_by}
use Rattle.listing_of_lines.specs.Pages.{row_for, Underway, behind_call, if_any, next_row, rows_in, page_for, stopped, page_of, listed_for}

-- what has no row is not laid
pub nothing_laid : {heard : Heard} (buffer : List ℕ) → heard ≡ Nothing → laid (row_for heard) buffer ≡ (done 0, buffer)
nothing_laid buffer is = ap (λ heard. laid (row_for heard) buffer) is ∙ laid_fits [] buffer (omega arith)

pub refused_laid : {heard : Heard} {number : ℕ} (buffer : List ℕ) → heard ≡ Refused number → laid (row_for heard) buffer ≡ (refused number, buffer)
refused_laid {number = number} buffer is = ap (λ heard. laid (row_for heard) buffer) is ∙ laid_refused number buffer

-- a piece that has a byte is fed, and the row of what is heard comes; of no byte nothing comes
pub comes_some : (reader : Reader) (piece : List ℕ) → 0 < length piece
    → next_row (record { reader = reader; rest = piece }) ≡ part (row_for (feed_reader reader piece).heard) (behind_call (feed_reader reader piece) piece)
unfolding next_row
comes_some reader [] some = absurd (omega arith)
comes_some reader (byte ∷ piece) some = refl

pub comes_none : (reader : Reader) → next_row (record { reader = reader; rest = [] }) ≡ nothing
unfolding next_row
comes_none reader = refl

-- and what comes so came of a call
pub record Came (here : Underway) (outcome : Outcome (List ℕ)) (rest : Underway) : Type 0 where
  pub row : row_for (feed_reader here.reader here.rest).heard ≡ outcome
  pub behind : behind_call (feed_reader here.reader here.rest) here.rest ≡ rest

pub came : (here rest : Underway) (outcome : Outcome (List ℕ)) → next_row here ≡ part outcome rest → Came here outcome rest
unfolding next_row
came here rest outcome = go here.rest
  where
    go : (piece : List ℕ)
        → if_any piece (part (row_for (feed_reader here.reader here.rest).heard) (behind_call (feed_reader here.reader here.rest) here.rest)) ≡ part outcome rest
        → Came here outcome rest
    go [] e = let z : ◌≡◌ {A = ℕ} 0 1 = cc in absurd (omega arith)
    go (byte ∷ piece) e = record { row = cc; behind = cc }

-- a call that has a row took a byte: where the state is refused, there is no row
took_by : (reader : Reader) (byte : ℕ) (piece row : List ℕ) (good : Bool)
    → let fed : Fed = cond good (fed_for (feed_of (line_of reader) (byte ∷ piece))) (record { reader = reader; taken = 0; heard = Refused 15 }) in
    row_for fed.heard ≡ done row → 0 < fed.taken
took_by reader byte piece row true e =
    some_by (told_by reader.order (line_of reader).held byte) (start_of (line_of reader)) (step (line_of reader) byte) (feed_of (step (line_of reader) byte) piece)
took_by reader byte piece row false e = let z : ◌≡◌ {A = ℕ} 0 1 = cc in absurd (omega arith)

pub took_some : (reader : Reader) (piece row : List ℕ) → 0 < length piece → row_for (feed_reader reader piece).heard ≡ done row
    → 0 < (feed_reader reader piece).taken
unfolding feed_reader_at
took_some reader [] row some e = absurd (omega arith)
took_some reader (byte ∷ piece) row some e = took_by reader byte piece row (well_formed reader) e

-- while a piece is listed: so many bytes of it are taken, and the rows so far stand in the buffer's front
pub record Holds (whole : Standing Underway) (piece first out : List ℕ) (reader : Reader) (taken used : ℕ) : Type 0 where
  pub inside : taken ≤ length piece
  pub calls : ℕ
  pub enough : length piece - taken ≤ calls
  pub parts : List (List ℕ)
  pub laying : Laying next_row whole calls parts first out (record { reader = reader; rest = drop taken piece }) used

pub none_listed : (piece first : List ℕ) (reader : Reader) → Holds (rows_in (length first) reader piece) piece first first reader 0 0
none_listed piece first reader =
    record {
      inside = omega arith;
      calls = length piece;
      enough = omega arith;
      parts = [];
      laying = none_yet_law next_row (length piece) first (record { reader = reader; rest = piece });
    }

-- how it ends
ends_as : (whole : Standing Underway) (parts : List (List ℕ)) (piece first out : List ℕ) (reader : Reader) (taken used : ℕ) (end : Ending) → taken ≤ length piece
    → Ended next_row whole parts first out (record { reader = reader; rest = drop taken piece }) used end
    → (record { reader = reader; taken = taken; used = used; ending = end } ≡ listed_for (page_for piece whole))
    × (out ≡ (page_for piece whole).bytes ++ drop used first)
ends_as whole parts piece first out reader taken used end inside ended =
    let took : taken ≡ length piece - length (drop taken piece) = omega (arith, length-drop taken piece) in (
      (λ i. record { reader = reader; taken = took i; used = ended.size i; ending = end }) ∙ ap (λ s. listed_for (page_for piece s)) (sym ended.whole_is),
      ended.buffer ∙ ap (λ s. joined s.parts ++ drop used first) (sym ended.whole_is),
    )

module _ (whole : Standing Underway) (piece first out : List ℕ) (reader : Reader) (taken used : ℕ) (holds : Holds whole piece first out reader taken used)
    (more : taken < length piece) (fed : Fed) (call : fed ≡ feed_reader reader (take (length piece - taken) (drop taken piece)))
    (answer : Outcome ℕ) (last : List ℕ) (told : laid (row_for fed.heard) (take (length out - used) (drop used out)) ≡ (answer, last)) where
  abbrev here : Underway
  here = record { reader = reader; rest = drop taken piece }

  abbrev behind : Underway
  behind = record { reader = fed.reader; rest = drop (taken + fed.taken) piece }

  fed_is : fed ≡ feed_reader reader (drop taken piece)
  fed_is = call ∙ ap (feed_reader reader) (tail_lent taken piece taken (omega arith))

  answered : laid (row_for fed.heard) (drop used out) ≡ (answer, last)
  answered = ap (laid (row_for fed.heard)) (sym (tail_lent used out used (omega (arith, holds.laying.fits)))) ∙ told

  back : put_mid used (length out - used) out last ≡ take used out ++ last
  back = tail_back used out used last (omega (arith, holds.laying.fits))

  some : 0 < length (drop taken piece)
  some = omega (arith, length-drop taken piece)

  comes : next_row here ≡ part (row_for fed.heard) behind
  comes =
      comes_some reader (drop taken piece) some
      ∙ ap (λ f. part (row_for f.heard) (behind_call f (drop taken piece))) (sym fed_is)
      ∙ ap (λ rest. part (row_for fed.heard) (record { reader = fed.reader; rest = rest })) (drop-drop fed.taken taken piece)

  -- one call less
  record Less : Type 0 where
    calls : ℕ
    is : holds.calls ≡ suc calls

  less : Less
  less = go holds.calls refl
    where
      go : (n : ℕ) → holds.calls ≡ n → Less
      go zero e = absurd (omega (arith, e, holds.enough))
      go (suc n) e = record { calls = n; is = e }

  laying : Laying next_row whole (suc less.calls) holds.parts first out here used
  laying = subst (λ n. Laying next_row whole n holds.parts first out here used) less.is holds.laying

  took_fits : taken + fed.taken ≤ length piece
  took_fits = omega (arith, ap (λ f. f.taken) fed_is, feed_fits reader (drop taken piece), length-drop taken piece)

  pub row_stands : (n : ℕ) → answer ≡ done n
      → Holds whole piece first (put_mid used (length out - used) out last) fed.reader (taken + fed.taken) (used + n) × (0 < fed.taken)
  row_stands n is =
      let row = stands (row_for fed.heard) (drop used out) n last (answered ∙ ap (λ a. (a, last)) is) in
      let made = (within_done (length (drop used out)) (row_for fed.heard) row.bytes row.is_laid).0 in
      let took : 0 < fed.taken =
      omega (arith, ap (λ f. f.taken) fed_is, took_some reader (drop taken piece) row.bytes some (ap (λ f. row_for f.heard) (sym fed_is) ∙ made)) in
      let next = part_stands next_row whole less.calls holds.parts first out here used laying (row_for fed.heard) behind comes answer last answered n is in (
        record {
          inside = took_fits;
          calls = less.calls;
          enough = omega (arith, holds.enough, less.is, took);
          parts = holds.parts ++ next.0 ∷ [];
          laying = subst⁻¹ (λ o. Laying next_row whole less.calls (holds.parts ++ next.0 ∷ []) first o behind (used + n)) back next.1;
        },
        took,
      )

  pub row_stops : (n : ℕ) → answer ≡ refused n
      → (record { reader = reader; taken = taken; used = used; ending = ending.Refused n } ≡ listed_for (page_for piece whole))
      × (put_mid used (length out - used) out last ≡ (page_for piece whole).bytes ++ drop used first)
  row_stops n is =
      let stopped = part_stops next_row whole less.calls holds.parts first out here used laying (row_for fed.heard) behind comes answer last answered n is in
      let so = ends_as whole holds.parts piece first (take used out ++ last) reader taken used (ending.Refused n) holds.inside stopped in
      (so.0, back ∙ so.1)

pub page_ends : (whole : Standing Underway) (piece first out : List ℕ) (reader : Reader) (taken used : ℕ) → length piece ≤ taken → Holds whole piece first out reader taken used
    → (record { reader = reader; taken = taken; used = used; ending = ending.Whole } ≡ listed_for (page_for piece whole))
    × (out ≡ (page_for piece whole).bytes ++ drop used first)
page_ends whole piece first out reader taken used over holds =
    let none = ap (λ rest. next_row (record { reader = reader; rest = rest })) (drop_of_length-le piece {i = taken} over) ∙ comes_none reader in
    ends_as whole holds.parts piece first out reader taken used ending.Whole holds.inside
    (no_more_law next_row whole holds.calls holds.parts first out (record { reader = reader; rest = drop taken piece }) used holds.laying none)

-- a piece listed by a reader whose state is refused, and by one whose state is well formed
pub page_refused : (room : ℕ) (reader : Reader) (piece : List ℕ) → well_formed reader ≡ false → page_of room reader piece ≡ stopped reader (ending.Refused 15)
unfolding page_of
page_refused room reader piece bad = rw bad

pub page_good : (room : ℕ) (reader : Reader) (piece : List ℕ) → well_formed reader ≡ true → page_of room reader piece ≡ page_for piece (rows_in room reader piece)
unfolding page_of
page_good room reader piece good = rw good

-- no more is taken than there is
pub call_takes : (room : ℕ) (reader : Reader) (piece : List ℕ) → (page_of room reader piece).taken ≤ length piece
unfolding page_of
call_takes room reader piece = go (well_formed reader)
  where
    go : (good : Bool) → (cond good (page_for piece (rows_in room reader piece)) (stopped reader (ending.Refused 15))).taken ≤ length piece
    go true = omega arith
    go false = omega arith

-- what is left of a piece is what stands behind the bytes taken
pub record Tail (whole rest : List ℕ) : Type 0 where
  pub taken : ℕ
  pub inside : taken ≤ length whole
  pub is : rest ≡ drop taken whole

pub left_tail : (n room : ℕ) (here : Underway) → Tail here.rest (one_behind_another next_row n room here).left.rest
left_tail = stands_by next_row (λ here parts left. Tail here.rest left.rest) (λ here. record { taken = 0; inside = omega arith; is = refl }) more
  where
    more : (here rest left : Underway) (bytes : List ℕ) (parts : List (List ℕ)) → next_row here ≡ part (done bytes) rest → Tail rest.rest left.rest
        → Tail here.rest left.rest
    more here rest left bytes parts comes on =
        let fed = feed_reader here.reader here.rest in
        let so : rest.rest ≡ drop fed.taken here.rest = sym (ap (λ u. u.rest) (came here rest (done bytes) comes).behind) in
        record {
          taken = fed.taken + on.taken;
          inside = omega (arith, feed_fits here.reader here.rest, on.inside, ap length so, length-drop fed.taken here.rest);
          is = on.is ∙ ap (drop on.taken) so ∙ drop-drop on.taken fed.taken here.rest;
        }

pub page_left : (room : ℕ) (reader : Reader) (piece : List ℕ)
    → drop (page_for piece (rows_in room reader piece)).taken piece ≡ (rows_in room reader piece).left.rest
page_left room reader piece =
    let tail = left_tail (length piece) room (record { reader = reader; rest = piece }) in
    let taken : length piece - length (rows_in room reader piece).left.rest ≡ tail.taken =
    omega (arith, tail.inside, ap length tail.is, length-drop tail.taken piece) in
    ap (λ k. drop k piece) taken ∙ sym tail.is
