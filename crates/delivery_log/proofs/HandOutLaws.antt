-- What reading back hands out, by what is located; and it refuses nothing with the number 0. Assumes nothing.
use mathlib.Core.Path.{◌≡◌, refl, ap₂}
use mathlib.Core.Bool.{not}
use mathlib.Core.List.{List, [], ◌∷◌}
use Prim.Native.Nat.{ℕ, zero, suc, ◌+◌, ◌-◌}
use native.Mathlib.Omega.{arith}
use lib.ListN.{take, drop}
use denote.Ref.{Bor}
use Rattle.std.specs.Prelude.{Ok}
use Rattle.refusals.specs.Refusals.{◌when◌, Outcome, done, refused, unless, after}
use Rattle.log_rules.specs.Good.{telegrams_of, is_good}
use Rattle.log_rules.specs.Region.{blocks_of}
use Rattle.log_rules.specs.ReadBack.{numbered, telegram_at, read_back_of}
use Rattle.delivery_log.specs.Located.{located_in, StandsIn}
use Rattle.log_rules.specs.Answers.{telegram_place, number_of, bytes_of, lent_at}
use Rattle.log_rules.specs.OfTheLog.{TheNumber0TellsATelegram}
use Rattle.log_rules.proofs.PartLaws.{part_lent}

-- a located part, handed out
module _ (region : Bor (List ℕ)) (block slot start size : ℕ)
    (known : (located_in region.now (Ok (start, size)) ≡ read_back_of region.now block slot) × StandsIn region.now block slot (Ok (start, size))) where
  pub telegram_out : done (take (start + size - start) (drop start region.now), (region.ref_ptr.0, start + region.ref_ptr.1))
      ≡ lent_at region (telegram_place block slot) (read_back_of region.now block slot)
  telegram_out =
      let behind : start + region.ref_ptr.1 ≡ region.ref_ptr.1 + telegram_place block slot = omega (arith, known.1.0) in
      rw (← known.0) (ap₂ (λ bytes offset. done (bytes, (region.ref_ptr.0, offset))) (part_lent size start region.now) behind)

-- No refusal has the number 0, so where reading back gives 0 it gives a telegram.
abbrev Told : {A : Type 0} → Outcome A → Type 0
Told (done value) = Unit {0}
Told (refused number) = number ≡ 0 → ⊥

told_unless : {A : Type 0} (n : ℕ) (value : A) → Told (unless n value)
unfolding unless
told_unless zero value = tt
told_unless (suc n) value = λ none. absurd (omega arith)

told_numbered : {A : Type 0} (n : ℕ) (values : List A) → Told (numbered n values)
told_numbered n [] = λ none. absurd (omega arith)
told_numbered zero (value ∷ values) = tt
told_numbered (suc n) (value ∷ values) = told_numbered n values

told_after : {A B : Type 0} (first : Outcome A) (next : A → Outcome B) → Told first → ((value : A) → Told (next value))
    → Told (after first next)
told_after (done value) next told later = later value
told_after (refused number) next told later = told

pub zero_tells : TheNumber0TellsATelegram
unfolding read_back_of blocks_of
zero_tells region block slot =
    go (read_back_of region block slot)
    (told_after (blocks_of region) (λ blocks. after (numbered block blocks) (telegram_at slot)) (told_unless _ _)
    (λ blocks.
    told_after (numbered block blocks) (telegram_at slot) (told_numbered block blocks)
    (λ bytes.
    told_after (unless (20 when not (is_good bytes)) (telegrams_of bytes)) (numbered slot)
    (told_unless (20 when not (is_good bytes)) (telegrams_of bytes))
    (told_numbered slot))))
  where
    go : (answer : Outcome (List ℕ)) → Told answer → number_of answer ≡ 0 → answer ≡ done (bytes_of answer)
    go (done bytes) told none = refl
    go (refused number) told none = absurd (told none)
