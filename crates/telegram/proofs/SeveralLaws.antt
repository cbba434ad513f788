-- Laws of several telegrams, one behind another. Assumes nothing.
use Rattle.std.proofs.Common.{◌≡◌, ℕ, ◌+◌, ◌-◌, ◌%◌, ◌^◌, ◌<◌, min, List, [], ◌∷◌, ◌++◌, length, take, drop, sym, refl, ap, ◌∙◌, ap₂, append-nil, add-zero, arith, length-append, length-drop}
use borrow.Rule.Slice.PartMut.{put_mid}
use Rattle.refusals.specs.Refusals.{Outcome, done, refused}
use Rattle.lent_buffer.specs.Endings.{Ending, Whole, Refused}
use Rattle.lent_buffer.specs.Laying.{within, laid_in, laid}
use Rattle.lent_buffer.specs.OneBehindAnother.{Standing, joined, part_then, one_behind_another}
use Rattle.lent_buffer.proofs.LayingLaws.{stands, stops}
use Rattle.lent_buffer.proofs.TailLaws.{tail_lent, tail_back}
use Rattle.lent_buffer.proofs.OneBehindAnotherLaws.{no_part, first_part, Laying, Ended, none_yet_law, no_more_law, part_stops, part_stands}
use Rattle.record_rules.specs.declared.Record.{Record}
use Rattle.telegram_rules.specs.declared.write.Choice.{Choice}
use Rattle.telegram.specs.SeveralTelegrams.{Several}
use Rattle.telegram.specs.SeveralTelegrams.{none_yet, with_more, unless_ended, several_after, several_all}
use Rattle.telegram_rules.specs.Writing.{telegram_for, next_telegram, telegrams_in}

-- how several stand with one telegram more
abbrev pub one_more : Several → Outcome ℕ → Several
one_more several (done n) = record { count = (several.count + 1) % 2 ^ 64; used = several.used + n; ending = Whole }
one_more several (refused number) = record { count = several.count % 2 ^ 64; used = several.used; ending = Refused number }

-- the ways in which one more telegram ends
module _ (choice : Choice) (several : Several) (out : List ℕ) where
  pub ended_before : (recs : List Record) (number : ℕ) → several.ending ≡ Refused number → several_after choice several recs out ≡ (several, out)
  unfolding several_after
  ended_before recs number is =
      ap (λ end. unless_ended end (with_more several out (telegrams_in choice (length out - several.used) recs)) (several, out)) is

  goes_on : (recs : List Record) → several.ending ≡ Whole
      → several_after choice several recs out ≡ with_more several out (telegrams_in choice (length out - several.used) recs)
  unfolding several_after
  goes_on recs is =
      ap (λ end. unless_ended end (with_more several out (telegrams_in choice (length out - several.used) recs)) (several, out)) is

  module _ (whole : several.ending ≡ Whole) (rec : Record) (answer : Outcome ℕ) (last : List ℕ)
      (told : laid (telegram_for choice rec) (drop several.used out) ≡ (answer, last)) where
    abbrev room : ℕ
    room = length out - several.used

    abbrev behind : List ℕ → Standing (List Record)
    behind bytes = one_behind_another (next_telegram choice) 0 (room - length bytes) []

    in_room : within room (telegram_for choice rec) ≡ within (length (drop several.used out)) (telegram_for choice rec)
    in_room = ap (λ k. within k (telegram_for choice rec)) (sym (length-drop several.used out))

    one_of : (made : Outcome (List ℕ)) → within (length (drop several.used out)) (telegram_for choice rec) ≡ made
        → telegrams_in choice room (rec ∷ []) ≡ part_then made (rec ∷ []) behind
    one_of made is =
        first_part (next_telegram choice) 0 room (rec ∷ []) (telegram_for choice rec) [] refl
        ∙ ap (λ o. part_then o (rec ∷ []) behind) (in_room ∙ is)

    stood : (n : ℕ) → answer ≡ done n → several_after choice several (rec ∷ []) out ≡ (one_more several (done n), take several.used out ++ last)
    stood n is =
        let s = stands (telegram_for choice rec) (drop several.used out) n last (told ∙ ap (λ a. (a, last)) is) in
        let one : telegrams_in choice room (rec ∷ []) ≡ record { parts = s.bytes ∷ []; left = []; ending = Whole } =
        one_of (done s.bytes) s.is_laid
        ∙ ap (λ later. part_then (done s.bytes) (rec ∷ []) (λ bytes. later)) (no_part (next_telegram choice) 0 (room - length s.bytes) [] refl) in
        let size : length (s.bytes ++ []) ≡ n = ap length (append-nil s.bytes) ∙ s.size in
        let rest : laid_in (done (s.bytes ++ [])) (drop several.used out) ≡ last =
        ap₂ (λ bytes k. bytes ++ drop k (drop several.used out)) (append-nil s.bytes) size ∙ sym s.last_is in
        goes_on (rec ∷ []) whole
        ∙ ap (with_more several out) one
        ∙ (λ i. (record { count = (several.count + 1) % 2 ^ 64; used = several.used + size i; ending = Whole }, take several.used out ++ rest i))

    stopped : (number : ℕ) → answer ≡ refused number
        → several_after choice several (rec ∷ []) out ≡ (one_more several (refused number), take several.used out ++ last)
    stopped number is =
        let s = stops (telegram_for choice rec) (drop several.used out) number last (told ∙ ap (λ a. (a, last)) is) in
        goes_on (rec ∷ []) whole
        ∙ ap (with_more several out) (one_of (refused number) s.0)
        ∙ (λ i. (record { count = add-zero several.count i % 2 ^ 64; used = add-zero several.used i; ending = Refused number }, take several.used out ++ sym s.1 i))

    pub one_more_law : several_after choice several (rec ∷ []) out ≡ (one_more several answer, take several.used out ++ last)
    one_more_law = go answer refl
      where
        go : (a : Outcome ℕ) → answer ≡ a → several_after choice several (rec ∷ []) out ≡ (one_more several answer, take several.used out ++ last)
        go (done n) is = stood n is ∙ ap (λ a. (one_more several a, take several.used out ++ last)) (sym is)
        go (refused n) is = stopped n is ∙ ap (λ a. (one_more several a, take several.used out ++ last)) (sym is)

-- the same with the tail lent from `start` on, and come back
module _ (choice : Choice) (several : Several) (out : List ℕ) (whole : several.ending ≡ Whole) (rec : Record) (start : ℕ) (answer : Outcome ℕ) (last : List ℕ)
    (begins : start ≡ min several.used (length out)) (told : laid (telegram_for choice rec) (take (length out - start) (drop start out)) ≡ (answer, last)) where
  added : (more : Several) → one_more several answer ≡ more → several_after choice several (rec ∷ []) out ≡ (more, put_mid start (length out - start) out last)
  added more is =
      one_more_law choice several out whole rec answer last (ap (laid (telegram_for choice rec)) (sym (tail_lent several.used out start begins)) ∙ told)
      ∙ ap₂ (λ s o. (s, o)) is (sym (tail_back several.used out start last begins))

  pub one_stands : (n count : ℕ) → count ≡ (several.count + 1) % 2 ^ 64 → answer ≡ done n
      → several_after choice several (rec ∷ []) out
      ≡ (record { count = count; used = several.used + n; ending = Whole }, put_mid start (length out - start) out last)
  one_stands n count is told_so =
      added _ (ap (one_more several) told_so ∙ (λ i. record { count = sym is i; used = several.used + n; ending = Whole }))

  pub one_stops : (number : ℕ) → several.count < 2 ^ 64 → answer ≡ refused number
      → several_after choice several (rec ∷ []) out
      ≡ (record { count = several.count; used = several.used; ending = Refused number }, put_mid start (length out - start) out last)
  one_stops number small told_so =
      let same : several.count % 2 ^ 64 ≡ several.count = omega arith in
      added _ (ap (one_more several) told_so ∙ (λ i. record { count = same i; used = several.used; ending = Refused number }))

-- A list, call by call. Once a refusal ended it, nothing changes.
all_ended : (choice : Choice) (recs : List Record) (several : Several) (out : List ℕ) (number : ℕ) → several.ending ≡ Refused number
    → several_all choice recs several out ≡ (several, out)
all_ended choice [] several out number is = refl
all_ended choice (rec ∷ recs) several out number is =
    ap (λ s. several_all choice recs s.0 s.1) (ended_before choice several out (rec ∷ []) number is) ∙ all_ended choice recs several out number is

-- how a list stands in the end: the telegrams of its first records, one behind another, and behind them the buffer as it was
abbrev pub stood_as : Standing (List Record) → List ℕ → Several × List ℕ
stood_as standing first = (
  record { count = length standing.parts % 2 ^ 64; used = length (joined standing.parts); ending = standing.ending },
  joined standing.parts ++ drop (length (joined standing.parts)) first,
)

module _ (choice : Choice) (standing : Standing (List Record)) (first : List ℕ) where
  ends_as : (several : Several) (out : List ℕ) (parts : List (List ℕ)) (left : List Record) (end : Ending) → several.ending ≡ end
      → several.count ≡ length parts % 2 ^ 64 → Ended (next_telegram choice) standing parts first out left several.used end
      → (several, out) ≡ stood_as standing first
  ends_as several out parts left end is counted ended =
      (λ i. (record { count = counted i; used = ended.size i; ending = is i }, (ended.buffer ∙ ap (λ k. joined parts ++ drop k first) ended.size) i))
      ∙ ap (λ s. stood_as s first) (sym ended.whole_is)

  all_from : (recs : List Record) (several : Several) (out : List ℕ) (parts : List (List ℕ)) → several.ending ≡ Whole
      → Laying (next_telegram choice) standing (length recs) parts first out recs several.used → several.count ≡ length parts % 2 ^ 64
      → several_all choice recs several out ≡ stood_as standing first
  all_from [] several out parts whole laying counted =
      ends_as several out parts [] Whole whole counted (no_more_law (next_telegram choice) standing 0 parts first out [] several.used laying refl)
  all_from (rec ∷ recs) several out parts whole laying counted =
      ap (λ s. several_all choice recs s.0 s.1) (one_more_law choice several out whole rec answer last refl)
      ∙ go answer refl (λ bytes several out. all_from recs several out (parts ++ bytes ∷ []))
    where
      answer : Outcome ℕ
      answer = (laid (telegram_for choice rec) (drop several.used out)).0

      last : List ℕ
      last = (laid (telegram_for choice rec) (drop several.used out)).1

      go : (a : Outcome ℕ) → answer ≡ a
          → ((bytes : List ℕ) (more : Several) (out : List ℕ) → more.ending ≡ Whole
          → Laying (next_telegram choice) standing (length recs) (parts ++ bytes ∷ []) first out recs more.used
          → more.count ≡ length (parts ++ bytes ∷ []) % 2 ^ 64
          → several_all choice recs more out ≡ stood_as standing first)
          → several_all choice recs (one_more several answer) (take several.used out ++ last) ≡ stood_as standing first
      go (done n) is on =
          let next = part_stands (next_telegram choice) standing (length recs) parts first out (rec ∷ recs) several.used laying (telegram_for choice rec) recs refl answer last refl n is in
          ap (λ a. several_all choice recs (one_more several a) (take several.used out ++ last)) is
          ∙ on next.0 (one_more several (done n)) (take several.used out ++ last) refl next.1 (omega (arith, counted, length-append parts (next.0 ∷ [])))
      go (refused number) is on =
          ap (λ a. several_all choice recs (one_more several a) (take several.used out ++ last)) is
          ∙ all_ended choice recs (one_more several (refused number)) (take several.used out ++ last) number refl
          ∙ ends_as (one_more several (refused number)) (take several.used out ++ last) parts (rec ∷ recs) (Refused number) refl (omega (arith, counted))
          (part_stops (next_telegram choice) standing (length recs) parts first out (rec ∷ recs) several.used laying (telegram_for choice rec) recs refl answer last refl number is)

-- every list, from the start
pub several_stand : (choice : Choice) (recs : List Record) (out : List ℕ) → several_all choice recs none_yet out ≡ stood_as (telegrams_in choice (length out) recs) out
several_stand choice recs out =
    all_from choice (telegrams_in choice (length out) recs) out recs none_yet out [] refl (none_yet_law (next_telegram choice) (length recs) out recs) refl
