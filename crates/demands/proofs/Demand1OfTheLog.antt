-- Demand 1 holds of the log. Assumes nothing.
use mathlib.Core.Path.{◌≡◌, refl, ap, sym, ◌∙◌}
use mathlib.Core.Bool.{Bool, true, false, cond, not, ◌&&◌, ◌||◌}
use mathlib.Core.List.{List, [], ◌∷◌}
use Prim.Native.Nat.{ℕ, zero, suc}
use native.Mathlib.Omega.{arith}
use lib.Dec.{ltb, leb-suc-zero, leb-suc-suc}
use lib.ListN.{length, get_or}
use borrow.Author.Tests.{ltb-true, lt-ltb}
use Rattle.refusals.specs.Refusals.{◌when◌, Outcome, done, refused, unless, after}
use Rattle.telegram_rules.specs.Reading.{read_of}
use Rattle.trailer_rules.specs.declared.Order.TheVariants.{AsPrinted}
use Rattle.log_rules.specs.Verify.{Bad, first_bad, verified_by, verify_of}
use Rattle.log_rules.specs.Block.{slots}
use Rattle.log_rules.specs.Good.{count_in, telegrams_of, is_good}
use Rattle.log_rules.specs.Region.{is_whole, blocks_in, whole_blocks, blocks_of, block_at}
use Rattle.log_rules.specs.Add.{place_at, first_free, some_used, free_behind_used, place_in, place_for, add_of}
use Rattle.log_rules.specs.ReadBack.{numbered, telegram_at, read_back_of}
use Rattle.log_rules.proofs.BlockLaws.{count_telegrams}
use Rattle.log_rules.proofs.RegionLaws.{blocks_length, blocks_at}
use Rattle.log_rules.proofs.PlaceLaws.{none_used}
use Rattle.log_rules.proofs.AddHolds.{a_refused_add_leaves_the_region}
use Rattle.demands.specs.Numbers.{Rule, ◌given_when◌, first_of, ◌by_first◌}
use Rattle.demands.specs.Rules.{reading_rules}
use Rattle.demands.specs.Demand1OfTheLog.{has_free, some_bad, free_rules, read_back_rules, verify_rules, verified_outcome, AddingRefuses, ReadingBackRefuses, VerifyingRefuses, ARefusedAddChangesNoByte}
use Rattle.demands.proofs.Refusing.{else_nothing, then_by, after_by, after_or, done_or_law}
use Rattle.demands.proofs.RulesHold.{reading_rules_law}
use Rattle.demands.proofs.Demand1Holds.{demand_1_reading}

-- 19, and what is done with the blocks of a whole region
whole_by : {A : Type 0} (region : List ℕ) (next : List (List ℕ) → Outcome A) (later : List Rule)
    → next (whole_blocks region) by_first later
    → after (blocks_of region) next by_first 19 given_when not (is_whole region) ∷ later
unfolding blocks_of
whole_by region next later on =
    let broken = 19 when not (is_whole region) in
    then_by broken (whole_blocks region) next (19 given_when not (is_whole region) ∷ []) later (sym (else_nothing broken)) on

-- a place for an add: the search ends at a block that is good and not full, with none used behind it
free_by : (number : ℕ) (blocks : List (List ℕ)) → free_behind_used number blocks by_first 21 given_when not (has_free blocks) ∷ []
unfolding unless
free_by number [] = refl
free_by number (block ∷ blocks) =
    go (is_good block) (ltb (count_in block) slots) (some_used blocks) (none_used (suc number) blocks) (free_by (suc number) blocks)
  where
    go : (good free some : Bool) → (some ≡ false → free_behind_used (suc number) blocks ≡ first_free (suc number) blocks)
        → free_behind_used (suc number) blocks by_first 21 given_when not (has_free blocks) ∷ []
        → cond some (free_behind_used (suc number) blocks)
        (cond (good && free) (done (place_at number (count_in block))) (first_free (suc number) blocks))
        by_first 21 given_when not ((good && (free && not some)) || has_free blocks) ∷ []
    go true true true first later = later
    go true false true first later = later
    go false free true first later = later
    go true true false first later = refl
    go true false false first later = rw (← first refl) later
    go false free false first later = rw (← first refl) later

pub demand_1_adding : AddingRefuses
unfolding add_of place_for place_in
demand_1_adding region telegram =
    let blocks = whole_blocks region in
    let read = read_of true telegram in
    let place : place_in region by_first free_rules region =
    whole_by region (free_behind_used 0) (21 given_when not (has_free blocks) ∷ []) (free_by 0 blocks) in (
      after_by read (λ rec. place_in region) (reading_rules AsPrinted true telegram) (free_rules region) (reading_rules_law AsPrinted true telegram) (λ rec is. place),
      after_or read (λ rec. place_in region) _ (19 ∷ 21 ∷ []) (demand_1_reading AsPrinted true telegram).1
          (λ rec. done_or_law (19 ∷ 21 ∷ []) (place_in region) (free_rules region) place refl),
    )

pub demand_1_no_byte_of_the_log : ARefusedAddChangesNoByte
unfolding add_of
demand_1_no_byte_of_the_log = a_refused_add_leaves_the_region

-- reading back: what is done with the one of a number, and 27 where there are not so many
numbered_then : {A : Type 0} (n : ℕ) (values : List (List ℕ)) (next : List ℕ → Outcome A)
    → after (numbered n values) next ≡ cond (ltb n (length values)) (next (get_or values n [])) (refused 27)
numbered_then n [] next = rw (leb-suc-zero n)
numbered_then zero (value ∷ values) next = rw (lt-ltb 0 (suc (length values)) (omega arith))
numbered_then (suc n) (value ∷ values) next = rw (leb-suc-suc (suc n) (length values)) (numbered_then n values next)

numbered_by : (n : ℕ) (values : List (List ℕ)) → numbered n values by_first 27 given_when not (ltb n (length values)) ∷ []
unfolding unless
numbered_by n values = numbered_then n values (λ value. done tt) ∙ go (ltb n (length values))
  where
    go : (there : Bool) → cond there (done tt) (refused 27) ≡ unless {A = Unit {0}} (first_of (27 given_when not there ∷ [])) tt
    go true = refl
    go false = refl

slot_by : (slot : ℕ) (block : List ℕ)
    → telegram_at slot block by_first 20 given_when not (is_good block) ∷ 27 given_when not (ltb slot (count_in block)) ∷ []
slot_by slot block =
    let bad = 20 when not (is_good block) in
    let none = 27 given_when not (ltb slot (count_in block)) ∷ [] in
    then_by bad (telegrams_of block) (numbered slot) (20 given_when not (is_good block) ∷ []) none (sym (else_nothing bad))
    (numbered_by slot (telegrams_of block)
    ∙ ap (λ n. unless (first_of (27 given_when not (ltb slot n) ∷ [])) tt) (count_telegrams block))

-- by whether there is such a block
abbrev block_rules : Bool → ℕ → List ℕ → List Rule
block_rules there slot block =
    20 given_when (there && not (is_good block)) ∷ 27 given_when not (there && ltb slot (count_in block)) ∷ []

block_by : (region : List ℕ) (block slot : ℕ)
    → after (numbered block (whole_blocks region)) (telegram_at slot)
    by_first block_rules (ltb block (blocks_in region)) slot (block_at block region)
unfolding unless
block_by region block slot =
    ap (λ o. after o (λ v. done tt))
    (numbered_then block (whole_blocks region) (telegram_at slot) ∙ ap (λ n. found (ltb block n)) (blocks_length (blocks_in region) region))
    ∙ go (ltb block (blocks_in region)) refl
  where
    found : Bool → Outcome (List ℕ)
    found there = cond there (telegram_at slot (get_or (whole_blocks region) block [])) (refused 27)

    go : (there : Bool) → ltb block (blocks_in region) ≡ there → found there by_first block_rules there slot (block_at block region)
    go true e = rw (blocks_at (blocks_in region) block region [] (ltb-true _ _ e)) (slot_by slot (block_at block region))
    go false e = refl

pub demand_1_reading_back : ReadingBackRefuses
unfolding read_back_of
demand_1_reading_back region block slot =
    let rules = block_rules (ltb block (blocks_in region)) slot (block_at block region) in
    let by = whole_by region (λ blocks. after (numbered block blocks) (telegram_at slot)) rules (block_by region block slot) in
    (by, done_or_law (19 ∷ 20 ∷ 27 ∷ []) (read_back_of region block slot) (read_back_rules region block slot) by refl)

-- verifying
bad_by : (number : ℕ) (blocks : List (List ℕ)) → verified_outcome (first_bad number blocks) by_first 20 given_when some_bad blocks ∷ []
unfolding unless
bad_by number [] = refl
bad_by number (block ∷ blocks) = go (is_good block) (bad_by (suc number) blocks)
  where
    go : (good : Bool) → verified_outcome (first_bad (suc number) blocks) by_first 20 given_when some_bad blocks ∷ []
        → verified_outcome (cond good (first_bad (suc number) blocks) (Bad 20 number))
        by_first 20 given_when (not good || some_bad blocks) ∷ []
    go true later = later
    go false later = refl

verified_so : (blocks : Outcome (List (List ℕ)))
    → verified_outcome (verified_by blocks) ≡ after blocks (λ all. verified_outcome (first_bad 0 all))
verified_so (done blocks) = refl
verified_so (refused n) = refl

pub demand_1_verifying : VerifyingRefuses
unfolding verify_of
demand_1_verifying region =
    let blocks = whole_blocks region in
    let by : verified_outcome (verify_of region) by_first verify_rules region =
    ap (λ o. after o (λ v. done tt)) (verified_so (blocks_of region))
    ∙ whole_by region (λ all. verified_outcome (first_bad 0 all)) (20 given_when some_bad blocks ∷ []) (bad_by 0 blocks) in
    (by, done_or_law (19 ∷ 20 ∷ []) (verified_outcome (verify_of region)) (verify_rules region) by refl)
