-- Laws of feeding outside a telegram: stray bytes are counted at once, an STX begins a telegram, and one that is whole is judged. Assumes nothing.
use Rattle.std.proofs.Common.{◌≡◌, ℕ, suc, ◌+◌, ◌-◌, ◌%◌, ◌^◌, ◌<◌, ◌≤◌, true, List, [], ◌∷◌, ◌++◌, length, get_or, take, drop, sym, refl, ap, ◌∙◌, ap₂, zero-add, add-one, arith, length-drop, drop_of_length-le, length-take-le, get_or-drop, drop-cons, take-suc}
use Rattle.ascii.specs.Control.{stx, etx}
use Rattle.trailer_rules.specs.declared.Order.{Order}
use Rattle.telegram_rules.specs.Reading.{read_in}
use Rattle.line.specs.declared.Reader.{Reader}
use Rattle.line_rules.specs.Hearing.{Nothing, Event}
use Rattle.line.specs.Readers.{reader_of, fed_for, feed_reader, Fed}
use Rattle.line_rules.specs.Line.{places, judgement, line_with, feed_of, start_of}
use Rattle.line_rules.specs.Runs.{stray_run, roomy_run, WholeAt}
use Rattle.line_rules.proofs.FeedLaws.{later, outside, feed_stray, feed_start, feed_run}
use Rattle.line_rules.proofs.RunLaws.{stray_ends, run_within}
use Rattle.line.proofs.Inside.{reader_wraps, stopped, at_etx}
use Rattle.line.proofs.Wraps.{alike, feed_reader_law}
use Rattle.refusals.specs.Refusals.{Outcome}
use Rattle.record_rules.specs.declared.Record.{Record}

wrapped : (count : ℕ) → count % 2 ^ 32 % 2 ^ 32 ≡ count % 2 ^ 32
wrapped count = omega arith

-- a count that was moved with the wrap
moved_so : (count moved by by' : ℕ) → moved ≡ (count + by) % 2 ^ 32 → count + by ≡ by' → moved % 2 ^ 32 ≡ by' % 2 ^ 32
moved_so count moved by by' m e = ap (λ k. k % 2 ^ 32) m ∙ wrapped (count + by) ∙ ap (λ k. k % 2 ^ 32) e

module _ (order : Order) (fed stray : ℕ) (piece : List ℕ) where
  abbrev skipped : ℕ
  skipped = stray_run piece

  fed_by_run : feed_reader (reader_of (outside order fed stray)) piece
      ≡ fed_for (later skipped (feed_of (outside order (fed + skipped) (stray + skipped)) (drop skipped piece)))
  fed_by_run = feed_reader_law order [] fed stray (omega arith) refl piece ∙ ap fed_for (feed_stray order fed stray piece)

  -- no STX: every byte is stray
  pub outside_all : (n f s : ℕ) (after : Reader) → n ≡ skipped → n ≡ length piece → f ≡ (fed + n) % 2 ^ 32 → s ≡ (stray + n) % 2 ^ 32 → after ≡ reader_of (outside order f s)
      → record { reader = after; taken = n; heard = Nothing } ≡ feed_reader (reader_of (outside order fed stray)) piece
  outside_all n f s after is_n all is_f is_s is_after =
      let over : drop skipped piece ≡ [] = drop_of_length-le piece {i = skipped} (omega (arith, is_n, all)) in
      let fed_wraps = moved_so fed f n (fed + skipped) is_f (ap (λ k. fed + k) is_n) in
      let stray_wraps = moved_so stray s n (stray + skipped) is_s (ap (λ k. stray + k) is_n) in
      let reads = is_after ∙ reader_wraps order [] f (fed + skipped) s (stray + skipped) (omega arith) fed_wraps stray_wraps in
      (λ i. record { reader = reads i; taken = (is_n ∙ sym (zero-add skipped)) i; heard = Nothing })
      ∙ (λ i. fed_for (later skipped (feed_of (outside order (fed + skipped) (stray + skipped)) (sym over i))))
      ∙ sym fed_by_run

  -- an STX behind the stray bytes: what the rest gives, so many bytes later
  pub outside_starts : (n f s : ℕ) (rest : List ℕ) (on : Fed) → n ≡ skipped → n < length piece → f ≡ (fed + (n + 1)) % 2 ^ 32 → s ≡ (stray + n) % 2 ^ 32
      → rest ≡ drop (n + 1) piece → on ≡ feed_reader (reader_of (line_with (stx ∷ []) f s order)) rest
      → record { reader = on.reader; taken = n + 1 + on.taken; heard = on.heard } ≡ feed_reader (reader_of (outside order fed stray)) piece
  outside_starts n f s rest on is_n more is_f is_s is_rest is_on_law =
      let open_more : skipped < length piece = omega (arith, is_n, more) in
      let next : drop skipped piece ≡ stx ∷ drop (suc skipped) piece =
      drop-cons piece skipped 0 open_more ∙ ap (λ b. b ∷ drop (suc skipped) piece) ((stray_ends piece).1 open_more) in
      let tail : rest ≡ drop (suc skipped) piece = is_rest ∙ ap (λ k. drop k piece) (add-one n ∙ ap suc is_n) in
      let fed_sum : fed + (n + 1) ≡ fed + skipped + 1 = omega (arith, is_n) in
      let fed_wraps = moved_so fed f (n + 1) (fed + skipped + 1) is_f fed_sum in
      let stray_wraps = moved_so stray s n (stray + skipped) is_s (ap (λ k. stray + k) is_n) in
      let told : on ≡ fed_for (feed_of (line_with (stx ∷ []) (fed + skipped + 1) (stray + skipped) order) (drop (suc skipped) piece)) =
      is_on_law
      ∙ feed_reader_law order (stx ∷ []) f s (omega arith) refl rest
      ∙ alike order (stx ∷ []) f (fed + skipped + 1) s (stray + skipped) rest (omega arith) fed_wraps stray_wraps
      ∙ ap (λ bytes. fed_for (feed_of (line_with (stx ∷ []) (fed + skipped + 1) (stray + skipped) order) bytes)) tail in
      let sum : (k : ℕ) → n + 1 + k ≡ k + 1 + skipped = λ k. omega (arith, is_n) in
      (λ i. record { reader = on.reader; taken = sum on.taken i; heard = on.heard })
      ∙ (λ i. record { reader = (told i).reader; taken = (told i).taken + 1 + skipped; heard = (told i).heard })
      ∙ ap (λ feeding. fed_for (later skipped feeding)) (sym (feed_start order (fed + skipped) (stray + skipped) (drop (suc skipped) piece)))
      ∙ (λ i. fed_for (later skipped (feed_of (outside order (fed + skipped) (stray + skipped)) (sym next i))))
      ∙ sym fed_by_run

  -- a telegram that stands whole in the piece is judged where it stands
  module _ (begin end : ℕ) (whole : WholeAt piece begin end) where
    abbrev rest : List ℕ
    rest = drop (begin + 1) piece

    abbrev plain : ℕ
    plain = roomy_run 1 rest

    abbrev held : List ℕ
    held = stx ∷ take plain rest

    few : plain ≤ places - 1
    few = (run_within (places - 1) rest).0

    pub whole_fits : end + 1 - begin ≤ places + 1
    whole_fits = omega (arith, whole.ends, few)

    more : plain < length rest
    more = omega (arith, whole.ends, whole.inside, length-drop (begin + 1) piece)

    held_size : length held ≡ plain + 1
    held_size = omega (arith, length-take-le plain rest (omega (arith, more)))

    begins_so : drop begin piece ≡ stx ∷ rest
    begins_so =
        let some : begin < length piece = omega (arith, whole.ends, whole.inside) in
        let first : get_or piece begin 0 ≡ stx = ap (λ k. get_or piece k 0) whole.begins ∙ (stray_ends piece).1 (omega (arith, whole.begins, some)) in
        drop-cons piece begin 0 some ∙ ap (λ b. b ∷ drop (suc begin) piece) first ∙ ap (λ k. stx ∷ drop k piece) (sym (add-one begin))

    etx_behind : get_or rest plain 0 ≡ etx
    etx_behind = get_or-drop (begin + 1) piece plain 0 ∙ ap (λ k. get_or piece k 0) (sym whole.ends) ∙ whole.ended

    ends_so : drop plain rest ≡ etx ∷ drop (suc plain) rest
    ends_so = drop-cons rest plain 0 more ∙ ap (λ b. b ∷ drop (suc plain) rest) etx_behind

    -- its bytes are those that would be held, and its ETX
    telegram_is : take (end + 1 - begin) (drop begin piece) ≡ held ++ etx ∷ []
    telegram_is =
        let count : end + 1 - begin ≡ suc (suc plain) = omega (arith, whole.ends) in
        ap₂ take count begins_so ∙ ap (λ bytes. stx ∷ bytes) (take-suc rest plain 0 more ∙ ap (λ b. take plain rest ++ b ∷ []) etx_behind)

    fed_so : feed_of (outside order (fed + begin) (stray + begin)) (drop begin piece)
        ≡ later 1 (later plain (stopped (line_with held (fed + begin + 1 + plain) (stray + begin) order) [] (judgement order held) (length held + 1)))
    fed_so =
        ap (feed_of (outside order (fed + begin) (stray + begin))) begins_so
        ∙ feed_start order (fed + begin) (stray + begin) rest
        ∙ ap (later 1)
        (feed_run order (stx ∷ []) (fed + begin + 1) (stray + begin) rest plain (omega arith) (omega arith) refl
        ∙ ap (λ bytes. later plain (feed_of (line_with held (fed + begin + 1 + plain) (stray + begin) order) bytes)) ends_so
        ∙ ap (later plain) (at_etx order (fed + begin + 1 + plain) (stray + begin) (drop (suc plain) rest) held (omega arith)))

    pub whole_read : (after : Reader) (f s start : ℕ) (answer : Outcome Record)
        → f ≡ (fed + (end + 1)) % 2 ^ 32 → s ≡ (stray + begin) % 2 ^ 32 → after ≡ reader_of (outside order f s) → start ≡ (fed + begin) % 2 ^ 32
        → answer ≡ read_in order true (take (end + 1 - begin) (drop begin piece))
        → record { reader = after; taken = end + 1; heard = Event answer start (end + 1 - begin) } ≡ feed_reader (reader_of (outside order fed stray)) piece
    whole_read after f s start answer is_f is_s is_after is_start is_answer =
        let fed_sum : fed + (end + 1) ≡ fed + begin + 1 + plain + 1 = omega (arith, whole.ends) in
        let fed_wraps = moved_so fed f (end + 1) (fed + begin + 1 + plain + 1) is_f fed_sum in
        let stray_wraps = moved_so stray s begin (stray + begin) is_s refl in
        let reads = is_after ∙ reader_wraps order [] f (fed + begin + 1 + plain + 1) s (stray + begin) (omega arith) fed_wraps stray_wraps in
        let taken : end + 1 ≡ 1 + plain + 1 + begin = omega (arith, whole.ends) in
        let said : answer ≡ (judgement order held) = is_answer ∙ ap (read_in order true) telegram_is in
        let at : start ≡ start_of (line_with held (fed + begin + 1 + plain) (stray + begin) order) = omega (arith, is_start, held_size, few) in
        let size : end + 1 - begin ≡ length held + 1 = omega (arith, held_size, whole.ends) in
        let n = sym whole.begins in
        (λ i. record { reader = reads i; taken = taken i; heard = Event (said i) (at i) (size i) })
        ∙ ap (λ feeding. fed_for (later begin feeding)) (sym fed_so)
        ∙ sym (fed_by_run ∙ (λ i. fed_for (later (n i) (feed_of (outside order (fed + n i) (stray + n i)) (drop (n i) piece)))))
