-- Laws of feeding inside a telegram: the plain bytes are held, and the byte behind them tells. Assumes nothing.
use Rattle.std.proofs.Common.{◌≡◌, ℕ, suc, ◌+◌, ◌-◌, ◌%◌, ◌^◌, ◌<◌, ◌≤◌, Bool, true, false, ltb, List, [], ◌∷◌, ◌++◌, length, get_or, take, drop, replicate, sym, refl, ap, ◌∙◌, ap₂, true≢false, add-zero, zero-add, arith, length-append, drop_of_length-le, length-take-le, drop-cons, ltb-false, ltb-true, ne_eqb, le-leb}
use lib.Seq.{paste, take-paste}
use Rattle.refusals.specs.Refusals.{Outcome, refused}
use Rattle.record_rules.specs.declared.Record.{Record}
use Rattle.ascii.specs.Control.{stx, etx}
use Rattle.trailer_rules.specs.declared.Order.{Order}
use Rattle.line.specs.declared.Reader.{Reader}
use Rattle.line_rules.specs.Hearing.{Nothing, Event}
use Rattle.line.specs.Readers.{reader_with, reader_of, line_of, well_formed, fed_for, feed_reader, feed_reader_at}
use Rattle.line_rules.specs.Line.{places, judgement, Line, line_with, is_plain, event, Feeding, feed_of, start_of}
use Rattle.line_rules.specs.Runs.{roomy_run}
use Rattle.line.proofs.Forms.{taken_length, start_stays, padding}
use Rattle.line_rules.proofs.RunLaws.{Within, run_within, run_ends}
use Rattle.line.proofs.ReaderLaws.{Well, well}
use Rattle.line_rules.proofs.FeedLaws.{later, feed_run}

-- a feeding that ended with the byte it was given
abbrev pub stopped : Line → List ℕ → Outcome Record → ℕ → Feeding
stopped line next outcome size =
    record { line = line_with next (line.fed + 1) line.stray line.order; taken = 1; told = event outcome size; at = start_of line }

module _ (order : Order) (fed stray : ℕ) (rest : List ℕ) where
  pub at_etx : (held : List ℕ) → 0 < length held
      → feed_of (line_with held fed stray order) (etx ∷ rest) ≡ stopped (line_with held fed stray order) [] (judgement order held) (length held + 1)
  at_etx [] some = absurd (omega arith)
  at_etx (first ∷ held) some = rw (add-zero stray)

  pub at_stx : (held : List ℕ) → 0 < length held
      → feed_of (line_with held fed stray order) (stx ∷ rest) ≡ stopped (line_with held fed stray order) (stx ∷ []) (refused 9) (length held)
  at_stx [] some = absurd (omega arith)
  at_stx (first ∷ held) some = rw (add-zero stray)

  pub at_full : (byte : ℕ) (held : List ℕ) → 0 < length held → (byte ≡ etx → ⊥) → (byte ≡ stx → ⊥) → places ≤ length held
      → feed_of (line_with held fed stray order) (byte ∷ rest) ≡ stopped (line_with held fed stray order) [] (refused 10) (places + 1)
  at_full byte [] some no_etx no_stx_law full = absurd (omega arith)
  at_full byte (first ∷ held) some no_etx no_stx_law full =
      simp (ne_eqb byte etx no_etx, ne_eqb byte stx no_stx_law, le-leb places (length (first ∷ held)) full, add-zero)

-- a reader knows its counts only with the wrap
pub reader_wraps : (order : Order) (held : List ℕ) (fed fed' stray stray' : ℕ) → length held ≤ places → fed % 2 ^ 32 ≡ fed' % 2 ^ 32 → stray % 2 ^ 32 ≡ stray' % 2 ^ 32
    → reader_of (line_with held fed stray order) ≡ reader_of (line_with held fed' stray' order)
reader_wraps order held fed fed' stray stray' fits f s =
    let start : (fed + (2 ^ 32 - length held)) % 2 ^ 32 ≡ (fed' + (2 ^ 32 - length held)) % 2 ^ 32 = omega (arith, f) in
    λ i. reader_with (held ++ replicate (places - length held) 0) (length held) (f i) (s i) (start i) order

-- all that one call finds inside a telegram
module _ (reader : Reader) (piece : List ℕ) (size : length reader.held ≡ places) (good : well_formed reader ≡ true) (some : 0 < reader.len) where
  abbrev pub added : ℕ
  added = roomy_run reader.len piece

  abbrev pub gathered : List ℕ
  gathered = take reader.len reader.held ++ take added piece

  abbrev pub grown : Line
  grown = line_with gathered (reader.fed + added) reader.stray reader.order

  kept : Well reader
  kept = well reader good

  pub held_size : length (take reader.len reader.held) ≡ reader.len
  held_size = omega (arith, kept.fits, taken_length reader.held reader.len size)

  pub added_fits : Within added (places - reader.len) piece
  added_fits = run_within (places - reader.len) piece

  pub gathered_size : length gathered ≡ reader.len + added
  gathered_size = length-append (take reader.len reader.held) (take added piece) ∙ ap₂ ◌+◌ held_size (length-take-le added piece added_fits.1)

  pub run : feed_of (line_of reader) piece ≡ later added (feed_of grown (drop added piece))
  run =
      feed_run reader.order (take reader.len reader.held) reader.fed reader.stray piece added (omega (arith, held_size)) (omega (arith, held_size, kept.fits))
      (ap (λ len. roomy_run len piece) held_size)

  pub starts : start_of grown ≡ reader.start
  starts =
      ap (λ len. (reader.fed + added + (2 ^ 32 - len)) % 2 ^ 32) gathered_size
      ∙ start_stays reader.fed reader.len added (omega (arith, added_fits.0, kept.fits))
      ∙ ap (λ len. (reader.fed + (2 ^ 32 - len)) % 2 ^ 32) (sym held_size)
      ∙ sym kept.start

  fed_by_run : feed_reader reader piece ≡ fed_for (later added (feed_of grown (drop added piece)))
  unfolding feed_reader_at
  fed_by_run = rw good (ap fed_for run)

  -- the piece ends: the bytes are held
  pub inside_holds : reader.stray < 2 ^ 32 → added ≡ length piece
      → feed_reader reader piece
      ≡ record {
        reader =
            reader_with (paste reader.held reader.len piece added) (reader.len + added) ((reader.fed + added) % 2 ^ 32) reader.stray reader.start reader.order;
        taken = added;
        heard = Nothing;
      }
  inside_holds stray_fits e =
      let over : drop added piece ≡ [] = drop_of_length-le piece {i = added} (omega (arith, e)) in
      let padded : gathered ++ replicate (places - length gathered) 0 ≡ paste reader.held reader.len piece added =
      ap (λ len. gathered ++ replicate (places - len) 0) gathered_size
      ∙ ap (λ rest. gathered ++ rest) (sym (padding reader.held reader.len added size kept.padded)) in
      let stray : reader.stray % 2 ^ 32 ≡ reader.stray = omega arith in
      fed_by_run
      ∙ (λ i. fed_for (later added (feed_of grown (over i))))
      ∙ (λ i. record {
        reader = reader_with (padded i) (gathered_size i) ((reader.fed + added) % 2 ^ 32) (stray i) (starts i) reader.order;
        taken = zero-add added i;
        heard = Nothing;
      })

  -- a byte that tells
  pub inside_stops : (next : List ℕ) (outcome : Outcome Record) (count : ℕ) → length next ≤ places
      → feed_of grown (drop added piece) ≡ stopped grown next outcome count
      → feed_reader reader piece
      ≡ record { reader = reader_of (line_with next ((reader.fed + (added + 1)) % 2 ^ 32) reader.stray reader.order); taken = added + 1; heard = Event outcome reader.start count }
  inside_stops next outcome count fits e =
      let same : (reader.fed + added + 1) % 2 ^ 32 ≡ (reader.fed + (added + 1)) % 2 ^ 32 % 2 ^ 32 = omega arith in
      let reads = reader_wraps reader.order next (reader.fed + added + 1) ((reader.fed + (added + 1)) % 2 ^ 32) reader.stray reader.stray fits same refl in
      let one : 1 + added ≡ added + 1 = omega arith in
      fed_by_run
      ∙ ap (λ feeding. fed_for (later added feeding)) e
      ∙ (λ i. record { reader = reads i; taken = one i; heard = Event outcome (starts i) count })

  pub stops_with : (next : List ℕ) (outcome : Outcome Record) (count : ℕ) → length next ≤ places
      → feed_of grown (drop added piece) ≡ stopped grown next outcome count
      → (after : Reader) (fed n size : ℕ) (answer : Outcome Record)
      → after ≡ reader_of (line_with next fed reader.stray reader.order) → fed ≡ (reader.fed + (n + 1)) % 2 ^ 32 → n ≡ added → answer ≡ outcome → size ≡ count
      → record { reader = after; taken = n + 1; heard = Event answer reader.start size } ≡ feed_reader reader piece
  stops_with next outcome count fits e after fed n size answer is_after is_fed is_n is_answer is_size =
      let reads =
      is_after
      ∙ ap (λ f. reader_of (line_with next f reader.stray reader.order)) (is_fed ∙ ap (λ k. (reader.fed + (k + 1)) % 2 ^ 32) is_n) in
      (λ i. record { reader = reads i; taken = is_n i + 1; heard = Event (is_answer i) reader.start (is_size i) })
      ∙ sym (inside_stops next outcome count fits e)

  abbrev Behind : ℕ → Type 0
  Behind byte = drop added piece ≡ byte ∷ drop (suc added) piece

  behind : (byte : ℕ) → added < length piece → get_or piece added 0 ≡ byte → Behind byte
  behind byte more e = drop-cons piece added 0 more ∙ ap (λ b. b ∷ drop (suc added) piece) e

  gathered_some : 0 < length gathered
  gathered_some = omega (arith, gathered_size)

  pub told_etx : added < length piece → get_or piece added 0 ≡ etx
      → feed_of grown (drop added piece)
      ≡ stopped grown [] (judgement reader.order gathered) (length gathered + 1)
  told_etx more e =
      ap (feed_of grown) (behind etx more e)
      ∙ at_etx reader.order (reader.fed + added) reader.stray (drop (suc added) piece) gathered gathered_some

  pub told_stx : added < length piece → get_or piece added 0 ≡ stx
      → feed_of grown (drop added piece)
      ≡ stopped grown (stx ∷ []) (refused 9) (length gathered)
  told_stx more e =
      ap (feed_of grown) (behind stx more e)
      ∙ at_stx reader.order (reader.fed + added) reader.stray (drop (suc added) piece) gathered gathered_some

  -- a plain byte behind the run: there is no room for it
  plain : (byte : ℕ) → (byte ≡ etx → ⊥) → (byte ≡ stx → ⊥) → is_plain byte ≡ true
  plain byte no_etx no_stx_law = simp (ne_eqb byte etx no_etx, ne_eqb byte stx no_stx_law)

  filled_by : (t : Bool) → ltb added (places - reader.len) ≡ t → added < length piece → is_plain (get_or piece added 0) ≡ true → places ≤ length gathered
  filled_by true e more is_plain_law = absurd (true≢false (sym is_plain_law ∙ run_ends (places - reader.len) piece (ltb-true _ _ e) more))
  filled_by false e more is_plain_law = omega (arith, ltb-false added (places - reader.len) e, gathered_size)

  filled : added < length piece → is_plain (get_or piece added 0) ≡ true → places ≤ length gathered
  filled = filled_by (ltb added (places - reader.len)) refl

  pub told_full : added < length piece → (get_or piece added 0 ≡ etx → ⊥) → (get_or piece added 0 ≡ stx → ⊥)
      → feed_of grown (drop added piece)
      ≡ stopped grown [] (refused 10) (places + 1)
  told_full more no_etx no_stx_law =
      ap (feed_of grown) (behind (get_or piece added 0) more refl)
      ∙ at_full reader.order (reader.fed + added) reader.stray (drop (suc added) piece) (get_or piece added 0) gathered gathered_some no_etx no_stx_law
      (filled more (plain (get_or piece added 0) no_etx no_stx_law))

  -- what is judged
  pub judged : take (reader.len + added) (paste reader.held reader.len piece added) ≡ gathered
  judged = take-paste reader.held reader.len piece added (omega (arith, size, kept.fits)) added_fits.1
