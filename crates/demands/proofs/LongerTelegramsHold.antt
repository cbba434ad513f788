-- Document 02, g, holds. Assumes nothing.
use mathlib.Core.Path.{◌≡◌, refl, ap, ap₂, ◌∙◌, sym}
use mathlib.Core.Bool.{Bool, true, false, cond}
use mathlib.Core.List.{List, [], ◌∷◌, ◌++◌, append-nil}
use native.Mathlib.Nat.{add-zero}
use Prim.Native.Nat.{ℕ, ◌+◌, ◌-◌, ◌≤◌, ◌<◌}
use native.Mathlib.Omega.{arith}
use lib.Dec.{eqb, leb}
use lib.ListN.{length, drop, length-append, length-take, length-drop}
use borrow.Author.Tests.{ne_eqb, leb-true}
use Rattle.refusals.specs.Refusals.{Outcome, done, refused}
use Rattle.ascii.specs.Control.{stx, etx}
use Rattle.record_rules.specs.declared.Record.{Record}
use Rattle.layouts_rules.specs.Layouts.{layout_of}
use Rattle.trailer_rules.specs.declared.Order.{Order}
use Rattle.trailer_rules.proofs.TrailerLaws.{length_in_order}
use Rattle.telegram_rules.specs.Reading.{body_of, body_in, read_in}
use Rattle.line.specs.Readers.{line_of}
use Rattle.line_rules.specs.Line.{places, Told, nothing, event, judgement, held_after_at, told_by_at, start_of, line_with, stray_by}
use Rattle.line_rules.specs.Events.{tells, events_at, line_after_at, events_of, line_after}
use Rattle.line_rules.proofs.GoodLines.{good_after_at}
use Rattle.line_rules.proofs.EventLaws.{events_join, after_join}
use Rattle.line.proofs.LongerReadersHold.{the_end_cuts_off_up_to_38, the_rule_is_the_one_at_38}
use Rattle.line_rules.proofs.LongerTelegramsHold.{up_to_38_bytes_are_held, stx_cuts_off_up_to_38, ten_is_given_when_38_are_held, up_to_39_bytes_are_judged}
use Rattle.takeover.specs.TakingOver.{kept_places, state_of}
use Rattle.takeover.specs.Sentences.{reader_for, line_kept}
use Rattle.takeover.proofs.SentencesHold.{kept_good, the_old_bound_is_24, refuses_what_the_old_rule_refused, what_the_old_reader_left}
use Rattle.takeover.proofs.SentencesHold.{a_refused_state_comes_back, more_held_is_15, taken_over_is_the_same, taken_over_is_well_formed}
use Rattle.takeover.proofs.SentencesHold.{without_a_ten_nothing_differs, a_call_without_a_ten, the_end_is_the_same, without_a_ten_each_cut}
use Rattle.listing_of_lines.proofs.NumberLaws.{read_number}
use Rattle.log_rules.proofs.BlockLaws.{none_accepted_is_longer, that_many_fit_a_slot}
use Rattle.demands.specs.LongerTelegrams.{LongerThan25Is1, AtTheFirstTenItHolds25, LongerTelegramsAreAsAskedFor}

-- no layout has such a length
longer_than_25 : LongerThan25Is1
unfolding read_in layout_of
longer_than_25 order bytes long =
    let n = length (body_in order true bytes) in
    let size : n ≡ length bytes - 2 =
    length_in_order order (body_of true bytes) ∙ omega (arith, length-take (length bytes - 2) (drop 1 bytes), length-drop 1 bytes) in
    rw (
      ne_eqb n 16 (λ e. absurd (omega arith)),
      ne_eqb n 8 (λ e. absurd (omega arith)),
      ne_eqb n 18 (λ e. absurd (omega arith)),
      ne_eqb n 19 (λ e. absurd (omega arith)),
      ne_eqb n 23 (λ e. absurd (omega arith)),
      ne_eqb n 11 (λ e. absurd (omega arith)),
    )

-- a 10 comes of one byte too many and of nothing else: a judgement has another number
abbrev number_told : Told → ℕ
number_told nothing = 0
number_told (event (done rec) size) = 0
number_told (event (refused n) size) = n

abbrev size_told : Told → ℕ
size_told nothing = 0
size_told (event outcome size) = size

no_judgement : (order : Order) (bytes : List ℕ) (size other : ℕ) → event (read_in order true bytes) size ≡ event (refused 10) other → ⊥
no_judgement order bytes size other ten = go (read_in order true bytes) refl (ap number_told ten)
  where
    go : (o : Outcome Record) → read_in order true bytes ≡ o → number_told (event o size) ≡ 10 → ⊥
    go (done rec) is e = absurd (omega arith)
    go (refused n) is e = absurd (omega (arith, read_number order true bytes n is))

-- at a higher bound that byte is held
one_more : (low high : ℕ) → low < high → (order : Order) (held : List ℕ) (byte size : ℕ) → length held ≤ low
    → told_by_at low order held byte ≡ event (refused 10) size
    → (length held ≡ low) × (told_by_at high order held byte ≡ nothing) × (held_after_at high held byte ≡ held ++ byte ∷ []) × (size ≡ low + 1)
one_more low high within order [] byte size fits ten = cc
one_more low high within order (first ∷ held) byte size fits ten =
    by_tests (eqb byte etx) (eqb byte stx) (leb low (length all)) (leb high (length all)) refl refl ten
  where
    all : List ℕ
    all = first ∷ held

    told : ℕ → Bool → Bool → Bool → Told
    told bound is_etx is_stx is_full_law =
        cond is_etx (event (judgement order all) (length all + 1)) (cond is_stx (event (refused 9) (length all)) (cond is_full_law (event (refused 10) (bound + 1)) nothing))

    by_tests : (is_etx is_stx is_full_law is_full' : Bool) → leb low (length all) ≡ is_full_law → leb high (length all) ≡ is_full'
        → told low is_etx is_stx is_full_law ≡ event (refused 10) size
        → (length all ≡ low) × (told high is_etx is_stx is_full' ≡ nothing)
        × (cond is_etx [] (cond is_stx (stx ∷ []) (cond is_full' [] (all ++ byte ∷ []))) ≡ all ++ byte ∷ [])
        × (size ≡ low + 1)
    by_tests true is_stx is_full_law is_full' l h ten = absurd (no_judgement order (all ++ etx ∷ []) (length all + 1) size ten)
    by_tests false true is_full_law is_full' l h ten = cc
    by_tests false false false is_full' l h ten = cc
    by_tests false false true true l h ten = absurd (omega (arith, leb-true high (length all) h))
    by_tests false false true false l h ten = (omega (arith, leb-true low (length all) l), refl, refl, sym (ap size_told ten))

-- and is not stray
inside_none : (held : List ℕ) (byte stray : ℕ) → 0 < length held → stray + stray_by held byte ≡ stray
inside_none [] byte stray some = absurd (omega arith)
inside_none (first ∷ held) byte stray some = add-zero stray

at_the_first_ten : AtTheFirstTenItHolds25
at_the_first_ten kept before byte size declared well none ten =
    let old = line_after_at kept_places (line_kept kept) before in
    let good = good_after_at kept_places (omega arith) (line_kept kept) before (kept_good (state_of kept) declared.0 well) in
    let same = without_a_ten_nothing_differs kept before declared well none in
    let more = one_more kept_places places (omega arith) old.order old.held byte size good.fits ten in
    let new = line_of (reader_for kept) in
    record {
      ten = more.3;
      told = events_join new before (byte ∷ [])
          ∙ ap₂ (λ events line. events ++ events_of line (byte ∷ [])) same.0 same.1
          ∙ ap (λ told. events_at kept_places (line_kept kept) before ++ tells told (start_of old) []) more.1
          ∙ append-nil (events_at kept_places (line_kept kept) before);
      line =
          after_join new before (byte ∷ [])
          ∙ ap (λ line. line_after line (byte ∷ [])) same.1
          ∙ ap₂ (λ held stray. line_with held (old.fed + 1) stray old.order) more.2 (inside_none old.held byte old.stray (omega (arith, more.0)));
      held = omega (arith, length-append old.held (byte ∷ []), more.0);
    }

pub longer_telegrams : LongerTelegramsAreAsAskedFor
longer_telegrams = (
  up_to_39_bytes_are_judged,
  longer_than_25,
  up_to_38_bytes_are_held,
  stx_cuts_off_up_to_38,
  the_end_cuts_off_up_to_38,
  the_rule_is_the_one_at_38,
  ten_is_given_when_38_are_held,
  none_accepted_is_longer,
  that_many_fit_a_slot,
  the_old_bound_is_24,
  taken_over_is_the_same,
  taken_over_is_well_formed,
  refuses_what_the_old_rule_refused,
  what_the_old_reader_left,
  a_refused_state_comes_back,
  more_held_is_15,
  without_a_ten_nothing_differs,
  a_call_without_a_ten,
  the_end_is_the_same,
  without_a_ten_each_cut,
  at_the_first_ten,
)
