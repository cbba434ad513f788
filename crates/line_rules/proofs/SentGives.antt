-- A line of good records tells exactly those records, and two lists that make the same line are the same list. Assumes nothing.
use mathlib.Core.Path.{◌≡◌, refl, ap, ap₂, sym, ◌∙◌}
use mathlib.Core.Bool.{true, ◌&&◌}
use mathlib.Core.List.{List, [], ◌∷◌, ◌++◌, map}
use Prim.Native.Nat.{ℕ, suc, ◌+◌, ◌-◌, ◌%◌, ◌^◌}
use native.Mathlib.Nat.{add-zero}
use native.Mathlib.Omega.{arith}
use lib.Dec.{eqb}
use lib.ListN.{length, length-append}
use borrow.Author.Tests.{eqb-true}
use Rattle.refusals.proofs.Laws.{both}
use Rattle.record_rules.specs.declared.Record.{Record}
use Rattle.refusals.specs.Refusals.{Outcome, done, refused}
use Rattle.record_rules.specs.Rule.{refusal_of}
use Rattle.trailer_rules.specs.declared.Order.{Order}
use Rattle.trailer_rules.specs.Trailer.{in_order}
use Rattle.telegram_rules.specs.Writing.{body_bytes, telegram_in}
use Rattle.telegram_rules.proofs.InOrder.{reads_back_law}
use Rattle.ascii.specs.Control.{stx, etx}
use Rattle.line_rules.specs.Hearing.{Heard, Nothing, Event, Refused}
use Rattle.line_rules.specs.Line.{line_with, judgement, Line}
use Rattle.line_rules.specs.Events.{events_of, line_after}
use Rattle.line_rules.specs.SentLine.{Sent, bytes_sent, no_stx, all_good, events_sent, stray_sent}
use Rattle.line_rules.proofs.FeedLaws.{outside}
use Rattle.line_rules.proofs.EventLaws.{events_join, after_join}
use Rattle.line_rules.proofs.SentLaws.{Gives, plain_body, body_fits, strays_give, plain_gives}

gives_join : (line : Line) (a b : List ℕ) (ea eb : List Heard) (mid after : Line) → Gives line a ea mid → Gives mid b eb after → Gives line (a ++ b) (ea ++ eb) after
gives_join line a b ea eb mid after of_a of_b = (
  events_join line a b ∙ ap₂ ◌++◌ of_a.0 (ap (λ l. events_of l b) of_a.1 ∙ of_b.0),
  after_join line a b ∙ ap (λ l. line_after l b) of_a.1 ∙ of_b.1,
)

-- one telegram is one event
module _ (order : Order) (rec : Record) (none : refusal_of rec ≡ 0) (fed stray : ℕ) where
  abbrev body : List ℕ
  body = in_order order (body_bytes rec)

  abbrev size : ℕ
  size = length body

  ends : Gives (line_with (stx ∷ body) (fed + 1 + size) stray order) (etx ∷ []) (Event (done rec) (fed % 2 ^ 32) (suc (size + 1)) ∷ []) (outside order (fed + 1 + size + 1) stray)
  ends =
      let judged : (judgement order (stx ∷ body)) ≡ done rec = (reads_back_law order true rec none) in
      let fits = body_fits order rec in
      let start : (fed + 1 + size + (2 ^ 32 - suc size)) % 2 ^ 32 ≡ fed % 2 ^ 32 = omega (arith, fits) in
      let count : suc size + 1 ≡ suc (size + 1) = omega arith in
      ((λ i. Event (judged i) (start i) (count i) ∷ []), λ i. outside order (fed + 1 + size + 1) (add-zero stray i))

  runs : Gives (line_with (stx ∷ []) (fed + 1) stray order) (body ++ etx ∷ []) (Event (done rec) (fed % 2 ^ 32) (suc (size + 1)) ∷ []) (outside order (fed + 1 + size + 1) stray)
  runs =
      gives_join (line_with (stx ∷ []) (fed + 1) stray order) body (etx ∷ []) [] _ _ _
      (plain_gives order stx [] (fed + 1) stray body (plain_body order rec) (omega (arith, body_fits order rec)))
      ends

  pub telegram_gives : Gives (outside order fed stray) (telegram_in order true rec)
      (Event (done rec) (fed % 2 ^ 32) (length (telegram_in order true rec)) ∷ [])
      (outside order (fed + length (telegram_in order true rec)) stray)
  telegram_gives =
      let count : suc (size + 1) ≡ suc (length (body ++ etx ∷ [])) = omega (arith, length-append body (etx ∷ [])) in
      let sum : fed + 1 + size + 1 ≡ fed + suc (length (body ++ etx ∷ [])) = omega (arith, length-append body (etx ∷ [])) in (
        ap (λ s. events_of (line_with (stx ∷ []) (fed + 1) s order) (body ++ etx ∷ [])) (add-zero stray)
            ∙ runs.0
            ∙ (λ i. Event (done rec) (fed % 2 ^ 32) (count i) ∷ []),
        ap (λ s. line_after (line_with (stx ∷ []) (fed + 1) s order) (body ++ etx ∷ [])) (add-zero stray)
            ∙ runs.1
            ∙ (λ i. outside order (sum i) stray),
      )

-- the whole line
pub sent_gives : (order : Order) (sents : List Sent) (behind : List ℕ) (fed stray : ℕ) → all_good sents behind ≡ true
    → Gives (outside order fed stray) (bytes_sent order sents behind) (events_sent order fed sents) (outside order (fed + length (bytes_sent order sents behind)) (stray + stray_sent sents behind))
sent_gives order [] behind fed stray good = strays_give order fed stray behind good
sent_gives order (sent ∷ others) behind fed stray good =
    let parts = both (no_stx sent.before && eqb (refusal_of sent.rec) 0) (all_good others behind) good in
    let here = both (no_stx sent.before) (eqb (refusal_of sent.rec) 0) parts.0 in
    let gap = length sent.before in
    let telegram = telegram_in order true sent.rec in
    let rest = bytes_sent order others behind in
    let on = sent_gives order others behind (fed + gap + length telegram) (stray + gap) parts.1 in
    let f : fed + gap + length telegram + length rest ≡ fed + length (sent.before ++ (telegram ++ rest)) =
    omega (arith, length-append sent.before (telegram ++ rest), length-append telegram rest) in
    let s : stray + gap + stray_sent others behind ≡ stray + (gap + stray_sent others behind) = omega arith in
    let all =
    gives_join (outside order fed stray) sent.before (telegram ++ rest) [] _ _ _
    (strays_give order fed stray sent.before here.0)
    (gives_join (outside order (fed + gap) (stray + gap)) telegram rest _ _ _ _
    (telegram_gives order sent.rec (eqb-true (refusal_of sent.rec) 0 here.1) (fed + gap) (stray + gap))
    on) in
    (all.0, all.1 ∙ (λ i. outside order (f i) (s i)))

-- two lists that make the same line are the same list
record_of : Outcome Record → List Record
record_of (done rec) = rec ∷ []
record_of (refused number) = []

records_in : List Heard → List Record
records_in [] = []
records_in (Nothing ∷ heard) = records_in heard
records_in (Event answer start size ∷ heard) = record_of answer ++ records_in heard
records_in (Refused number ∷ heard) = records_in heard

records_back : (order : Order) (from : ℕ) (sents : List Sent) → records_in (events_sent order from sents) ≡ map (λ sent. sent.rec) sents
unfolding records_in record_of
records_back order from [] = refl
records_back order from (sent ∷ others) = ap (◌∷◌ sent.rec) (records_back order (from + length sent.before + length (telegram_in order true sent.rec)) others)

pub same_line_same_records : (order : Order) (a b : List Sent) (behind_a behind_b : List ℕ) → all_good a behind_a ≡ true → all_good b behind_b ≡ true
    → bytes_sent order a behind_a ≡ bytes_sent order b behind_b → map (λ sent. sent.rec) a ≡ map (λ sent. sent.rec) b
same_line_same_records order a b behind_a behind_b good_a good_b same =
    sym (records_back order 0 a)
    ∙ ap records_in (sym (sent_gives order a behind_a 0 0 good_a).0 ∙ ap (events_of (outside order 0 0)) same ∙ (sent_gives order b behind_b 0 0 good_b).0)
    ∙ records_back order 0 b
