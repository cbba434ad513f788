-- Laws of a reader: what a well-formed one gives, and what it answers. Assumes nothing.
use Rattle.std.proofs.Common.{◌≡◌, ℕ, ◌-◌, ◌%◌, ◌^◌, ◌<◌, ◌≤◌, true, false, ◌&&◌, eqb, leb, List, [], ◌∷◌, ◌++◌, length, take, drop, replicate, sym, refl, ap, ◌∙◌, add-zero, arith, take-append-drop, eqb-true, leb-true}
use Rattle.refusals.specs.Refusals.{refused}
use Rattle.refusals.proofs.Laws.{both}
use Rattle.line.specs.declared.Reader.{Reader}
use Rattle.line_rules.specs.Hearing.{Nothing, Event, Refused}
use Rattle.line.specs.Readers.{reader_with, reader_of, line_of, all_zero, well_formed, well_formed_at, feed_reader, feed_reader_at, end_reader, end_reader_at}
use Rattle.line_rules.specs.Line.{places, line_with, event, told_by_end, start_of, is_started}
use Rattle.line.proofs.Forms.{taken_length, padding}

pub record Well (reader : Reader) : Type 0 where
  pub fits : reader.len ≤ places
  pub started : is_started (take reader.len reader.held) ≡ true
  pub padded : all_zero (drop reader.len reader.held) ≡ true
  pub start : reader.start ≡ start_of (line_of reader)

pub well : (reader : Reader) → well_formed reader ≡ true → Well reader
unfolding well_formed_at
well reader e =
    let begun = is_started (take reader.len reader.held) in
    let zeros = all_zero (drop reader.len reader.held) in
    let placed = eqb reader.start (start_of (line_of reader)) in
    let len_rest = both (leb reader.len places) (begun && (zeros && placed)) e in
    let started_rest = both begun (zeros && placed) len_rest.1 in
    let zero_start = both zeros placed started_rest.1 in
    record {
      fits = leb-true _ _ len_rest.0;
      started = started_rest.0;
      padded = zero_start.0;
      start = eqb-true _ _ zero_start.1;
    }

-- the end of the line
told_by_end_law : (held : List ℕ) → 0 < length held → told_by_end held ≡ event (refused 11) (length held)
told_by_end_law [] some = absurd (omega arith)
told_by_end_law (first ∷ held) some = refl

module _ (reader : Reader) where
  pub end_refused : well_formed reader ≡ false → end_reader reader ≡ record { reader = reader; heard = Refused 15 }
  unfolding end_reader_at
  end_refused e = rw e

  pub end_outside : well_formed reader ≡ true → reader.len ≡ 0
      → end_reader reader ≡ record { reader = reader_of (line_with [] reader.fed reader.stray reader.order); heard = Nothing }
  unfolding end_reader_at
  end_outside e none = rw (e, none)

  pub end_inside : well_formed reader ≡ true → length reader.held ≡ places → 0 < reader.len
      → end_reader reader ≡ record { reader = reader_of (line_with [] reader.fed reader.stray reader.order); heard = Event (refused 11) reader.start reader.len }
  unfolding end_reader_at
  end_inside e size some =
      let len = taken_length reader.held reader.len size in
      let fits = (well reader e).fits in
      let told = told_by_end_law (take reader.len reader.held) (omega (arith, len)) in
      let same : length (take reader.len reader.held) ≡ reader.len = omega (arith, len) in
      rw (e, told, same)

  pub feed_refused : (piece : List ℕ) → well_formed reader ≡ false → feed_reader reader piece ≡ record { reader = reader; taken = 0; heard = Refused 15 }
  unfolding feed_reader_at
  feed_refused piece e = rw e

-- a well-formed reader is the reader of its line
module _ (reader : Reader) (good : well_formed reader ≡ true) (size : length reader.held ≡ places) (fed_fits : reader.fed < 2 ^ 32) (stray_fits : reader.stray < 2 ^ 32) where
  kept : Well reader
  kept = well reader good

  held_size : length (take reader.len reader.held) ≡ reader.len
  held_size = omega (arith, kept.fits, taken_length reader.held reader.len size)

  pub reader_back : reader_of (line_of reader) ≡ reader
  reader_back =
      let rest : drop reader.len reader.held ≡ replicate (places - reader.len) 0 =
      ap (λ n. drop n reader.held) (sym (add-zero reader.len))
      ∙ padding reader.held reader.len 0 size kept.padded
      ∙ ap (λ n. replicate (places - n) 0) (add-zero reader.len) in
      let held : take reader.len reader.held ++ replicate (places - length (take reader.len reader.held)) 0 ≡ reader.held =
      ap (λ n. take reader.len reader.held ++ replicate (places - n) 0) held_size
      ∙ ap (λ zeros. take reader.len reader.held ++ zeros) (sym rest)
      ∙ take-append-drop reader.len reader.held in
      let fed : reader.fed % 2 ^ 32 ≡ reader.fed = omega arith in
      let stray : reader.stray % 2 ^ 32 ≡ reader.stray = omega arith in
      λ i. reader_with (held i) (held_size i) (fed i) (stray i) (sym kept.start i) reader.order

  pub outside_back : reader.len ≡ 0 → reader_of (line_with [] reader.fed reader.stray reader.order) ≡ reader
  outside_back none = (λ i. reader_of (line_with (take (sym none i) reader.held) reader.fed reader.stray reader.order)) ∙ reader_back
