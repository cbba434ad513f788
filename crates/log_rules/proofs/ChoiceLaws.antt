-- Laws of the choice among blocks: the search chooses the one block with a free slot that has no used slot behind it and only
-- gaps before it, or there is none and it is 21. Assumes nothing.
use mathlib.Core.Path.{◌≡◌, refl, ap, ◌∙◌}
use mathlib.Core.Bool.{Bool, true, false, cond, ◌&&◌, ◌||◌, or-true}
use mathlib.Core.List.{List, [], ◌∷◌}
use Prim.Native.Nat.{ℕ, zero, suc, ◌+◌, ◌<◌}
use native.Mathlib.Omega.{arith}
use lib.Dec.{ltb}
use lib.ListN.{length, get_or}
use Rattle.refusals.specs.Refusals.{Outcome, done, refused}
use Rattle.log_rules.specs.declared.Place.{Place}
use Rattle.log_rules.specs.Block.{slots}
use Rattle.log_rules.specs.Good.{count_in, is_good}
use Rattle.log_rules.specs.Add.{place_at, first_free, some_used, free_behind_used}
use Rattle.log_rules.proofs.EitherLaws.{clash}

abbrev pub is_free : List ℕ → Bool
is_free block = is_good block && ltb (count_in block) slots

abbrev pub is_used : List ℕ → Bool
is_used block = is_good block && ltb 0 (count_in block)

-- a slot used behind a block
pub record UsedAfter (blocks : List (List ℕ)) (number : ℕ) : Type 0 where
  pub block : ℕ
  pub behind : number < block
  pub there : block < length blocks
  pub used : is_used (get_or blocks block []) ≡ true

-- the first block with a free slot
record First (blocks : List (List ℕ)) (number : ℕ) : Type 0 where
  there : number < length blocks
  free : is_free (get_or blocks number []) ≡ true
  none_before : (before : ℕ) → before < number → is_free (get_or blocks before []) ≡ true → ⊥

-- and the first one behind the last used slot
pub record Chosen (blocks : List (List ℕ)) (number : ℕ) : Type 0 where
  pub there : number < length blocks
  pub free : is_free (get_or blocks number []) ≡ true
  pub none_behind : UsedAfter blocks number → ⊥
  pub gap_before : (before : ℕ) → before < number → is_free (get_or blocks before []) ≡ true → UsedAfter blocks before

-- an answer: the place in the block that is such a one, or 21 and no block is
pub data Answered (Is : ℕ → Type 0) (number : ℕ) (blocks : List (List ℕ)) (answer : Outcome Place) : Type 0 where
  in_block : (k : ℕ) → Is k → answer ≡ done (place_at (number + k) (count_in (get_or blocks k []))) → Answered Is number blocks answer
  nowhere : ((k : ℕ) → Is k → ⊥) → answer ≡ refused 21 → Answered Is number blocks answer

-- One block in front.
module _ (block : List ℕ) (blocks : List (List ℕ)) where
  moved_on : {number : ℕ} → UsedAfter blocks number → UsedAfter (block ∷ blocks) (suc number)
  moved_on u =
      record { block = suc u.block; behind = omega (arith, u.behind); there = omega (arith, u.there); used = u.used }

  moved_back : {number : ℕ} → UsedAfter (block ∷ blocks) (suc number) → UsedAfter blocks number
  moved_back {number} u = go u.block u.behind u.there u.used
    where
      go : (k : ℕ) → suc number < k → k < suc (length blocks) → is_used (get_or (block ∷ blocks) k []) ≡ true
          → UsedAfter blocks number
      go zero behind there used = absurd (omega arith)
      go (suc k) behind there used = record { block = k; behind = omega arith; there = omega arith; used = used }

  -- the answer for the blocks behind it, where it is no such block itself
  with_front : {Is Is' : ℕ → Type 0} {number : ℕ} {answer : Outcome Place}
      → (Is' 0 → ⊥) → ((k : ℕ) → Is k → Is' (suc k)) → ((k : ℕ) → Is' (suc k) → Is k)
      → Answered Is (suc number) blocks answer → Answered Is' number (block ∷ blocks) answer
  with_front {number} not_front on back (in_block k is e) =
      let next : suc number + k ≡ number + suc k = omega arith in
      in_block (suc k) (on k is) (e ∙ ap (λ n. done (place_at n (count_in (get_or blocks k [])))) next)
  with_front {Is'} not_front on back (nowhere none e) = nowhere go e
    where
      go : (k : ℕ) → Is' k → ⊥
      go zero is = not_front is
      go (suc k) is = none k (back k is)

-- some slot is used behind the first block, or none is
some_behind : (block : List ℕ) (blocks : List (List ℕ)) → some_used blocks ≡ true → UsedAfter (block ∷ blocks) 0
some_behind block [] some = absurd (clash some refl)
some_behind block (next ∷ blocks) some = go (is_used next) refl some (some_behind next blocks)
  where
    go : (used : Bool) → is_used next ≡ used → (used || some_used blocks) ≡ true
        → (some_used blocks ≡ true → UsedAfter (next ∷ blocks) 0) → UsedAfter (block ∷ next ∷ blocks) 0
    go true e some later = record { block = 1; behind = omega arith; there = omega arith; used = e }
    go false e some later =
        let u = moved_on block (next ∷ blocks) (later some) in
        record { block = u.block; behind = omega (arith, u.behind); there = u.there; used = u.used }

used_some : (blocks : List (List ℕ)) (k : ℕ) → k < length blocks → is_used (get_or blocks k []) ≡ true → some_used blocks ≡ true
used_some [] k h used = absurd (omega arith)
used_some (block ∷ blocks) zero h used = rw used
used_some (block ∷ blocks) (suc k) h used = rw (used_some blocks k (omega arith) used) (or-true (is_used block))

none_behind_first : (block : List ℕ) (blocks : List (List ℕ)) → some_used blocks ≡ false
    → (number : ℕ) → UsedAfter (block ∷ blocks) number → ⊥
none_behind_first block blocks none number u = go u.block u.behind u.there u.used
  where
    go : (k : ℕ) → number < k → k < suc (length blocks) → is_used (get_or (block ∷ blocks) k []) ≡ true → ⊥
    go zero behind there used = omega arith
    go (suc k) behind there used = clash (used_some blocks k (omega arith) used) none

-- One turn of each search: what it answers with a block in front.
module _ (number : ℕ) (block : List ℕ) (blocks : List (List ℕ)) where
  first_turn : {later : Outcome Place} (free : Bool) → is_free block ≡ free → Answered (First blocks) (suc number) blocks later
      → Answered (First (block ∷ blocks)) number (block ∷ blocks) (cond free (done (place_at number (count_in block))) later)
  first_turn true e behind =
      let here : number ≡ number + 0 = omega arith in
      in_block 0
      (record { there = omega arith; free = e; none_before = λ before h f. omega arith })
      (ap (λ n. done (place_at n (count_in block))) here)
  first_turn false e behind = with_front block blocks (λ is. clash is.free e) on back behind
    where
      on : (k : ℕ) → First blocks k → First (block ∷ blocks) (suc k)
      on k is = record { there = omega (arith, is.there); free = is.free; none_before = go }
        where
          go : (before : ℕ) → before < suc k → is_free (get_or (block ∷ blocks) before []) ≡ true → ⊥
          go zero h f = clash f e
          go (suc before) h f = is.none_before before (omega arith) f

      back : (k : ℕ) → First (block ∷ blocks) (suc k) → First blocks k
      back k is =
          record {
            there = omega (arith, is.there);
            free = is.free;
            none_before = λ before h f. is.none_before (suc before) (omega arith) f;
          }

  -- where none is used behind, the search from the front chooses
  from_front : {answer : Outcome Place} → some_used blocks ≡ false
      → Answered (First (block ∷ blocks)) number (block ∷ blocks) answer
      → Answered (Chosen (block ∷ blocks)) number (block ∷ blocks) answer
  from_front none (in_block k is e) =
      in_block k
      (record {
        there = is.there;
        free = is.free;
        none_behind = none_behind_first block blocks none k;
        gap_before = λ before h f. absurd (is.none_before before h f);
      })
      e
  from_front none (nowhere not e) =
      nowhere
      (λ k is. not k
      (record {
        there = is.there;
        free = is.free;
        none_before = λ before h f. none_behind_first block blocks none before (is.gap_before before h f);
      }))
      e

  choice_turn : {behind first : Outcome Place} (some : Bool) → some_used blocks ≡ some
      → Answered (Chosen blocks) (suc number) blocks behind
      → Answered (First (block ∷ blocks)) number (block ∷ blocks) first
      → Answered (Chosen (block ∷ blocks)) number (block ∷ blocks) (cond some behind first)
  choice_turn false e behind first = from_front e first
  choice_turn true e behind first = with_front block blocks (λ is. is.none_behind (some_behind block blocks e)) on back behind
    where
      on : (k : ℕ) → Chosen blocks k → Chosen (block ∷ blocks) (suc k)
      on k is =
          record {
            there = omega (arith, is.there);
            free = is.free;
            none_behind = λ u. is.none_behind (moved_back block blocks u);
            gap_before = go;
          }
        where
          go : (before : ℕ) → before < suc k → is_free (get_or (block ∷ blocks) before []) ≡ true → UsedAfter (block ∷ blocks) before
          go zero h f = some_behind block blocks e
          go (suc before) h f = moved_on block blocks (is.gap_before before (omega arith) f)

      back : (k : ℕ) → Chosen (block ∷ blocks) (suc k) → Chosen blocks k
      back k is =
          record {
            there = omega (arith, is.there);
            free = is.free;
            none_behind = λ u. is.none_behind (moved_on block blocks u);
            gap_before = λ before h f. moved_back block blocks (is.gap_before (suc before) (omega arith) f);
          }

-- the search from the front, and the one behind the last used slot
first_answer : (number : ℕ) (blocks : List (List ℕ)) → Answered (First blocks) number blocks (first_free number blocks)
first_answer number [] = nowhere (λ k is. omega (arith, is.there)) refl
first_answer number (block ∷ blocks) = first_turn number block blocks (is_free block) refl (first_answer (suc number) blocks)

pub answer_is : (number : ℕ) (blocks : List (List ℕ)) → Answered (Chosen blocks) number blocks (free_behind_used number blocks)
answer_is number [] = nowhere (λ k is. omega (arith, is.there)) refl
answer_is number (block ∷ blocks) =
    choice_turn number block blocks (some_used blocks) refl (answer_is (suc number) blocks) (first_answer number (block ∷ blocks))

-- one block at most is such a one: of two, the later would make the earlier a gap
pub one_chosen : (blocks : List (List ℕ)) (k l : ℕ) → Chosen blocks k → Chosen blocks l → k ≡ l
one_chosen blocks k l one other =
    let not_less : k < l → ⊥ = λ less. one.none_behind (other.gap_before k less one.free) in
    let not_more : l < k → ⊥ = λ more. other.none_behind (one.gap_before l more other.free) in
    omega arith
