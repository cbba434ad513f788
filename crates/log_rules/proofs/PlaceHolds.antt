-- Document 02 c)'s sentences on verify and on the place of an add hold. Assumes nothing.
use mathlib.Core.Path.{◌≡◌, refl, ap, ap₂, subst, sym, ◌∙◌}
use mathlib.Core.Bool.{true, ◌&&◌}
use mathlib.Core.List.{List, []}
use Prim.Native.Nat.{ℕ, ◌+◌, ◌<◌}
use native.Mathlib.Nat.{zero-add}
use native.Mathlib.Omega.{arith}
use lib.ListN.{length, get_or}
use borrow.Author.Tests.{ltb-true, lt-ltb}
use Rattle.refusals.specs.Refusals.{Outcome, done, refused}
use Rattle.refusals.proofs.Laws.{both}
use Rattle.log_rules.specs.declared.Place.{Place}
use Rattle.log_rules.specs.Verify.{Bad}
use Rattle.log_rules.specs.Block.{slots}
use Rattle.log_rules.specs.Good.{count_in, is_good}
use Rattle.log_rules.specs.Region.{blocks_from, block_at, blocks_in}
use Rattle.log_rules.specs.Add.{place_at}
use Rattle.log_rules.specs.OfTheLog.{UsedBehind, FirstFreeBehindTheLastUsed}
use Rattle.log_rules.specs.OfTheLog.{VerifyNamesTheFirstBadBlock, NoBlocksAreGoodAndFull}
use Rattle.log_rules.specs.OfTheLog.{AnAddGoesBehindTheLastUsed, ThatPlaceIsTaken, NoSuchPlaceIsRefused}
use Rattle.log_rules.proofs.RegionLaws.{blocks_length, blocks_at}
use Rattle.log_rules.proofs.VerifyLaws.{verify_whole, verify_broken, names_first, passes_all}
use Rattle.log_rules.proofs.PlaceLaws.{place_whole, place_broken, placed_whole}
use Rattle.log_rules.proofs.ChoiceLaws.{is_free, is_used, UsedAfter, Chosen, Answered, in_block, nowhere, answer_is, one_chosen}

-- The blocks of a region, by their numbers.
module _ (region : List ℕ) where
  abbrev all_blocks : List (List ℕ)
  all_blocks = blocks_from (blocks_in region) region

  in_region : {k : ℕ} → k < length all_blocks → k < blocks_in region
  in_region h = omega (arith, h, blocks_length (blocks_in region) region)

  in_list : {k : ℕ} → k < blocks_in region → k < length all_blocks
  in_list h = omega (arith, h, blocks_length (blocks_in region) region)

  is_at : (k : ℕ) → k < blocks_in region → get_or all_blocks k [] ≡ block_at k region
  is_at k h = blocks_at (blocks_in region) k region [] h

  -- a slot used behind a block
  used_behind : {number : ℕ} → UsedAfter all_blocks number → UsedBehind region number
  used_behind u =
      let parts = both _ _ (ap is_used (sym (is_at u.block (in_region u.there))) ∙ u.used) in
      record {
        block = u.block;
        behind = u.behind;
        there = in_region u.there;
        good = parts.0;
        used = ltb-true _ _ parts.1;
      }

  used_after : {number : ℕ} → UsedBehind region number → UsedAfter all_blocks number
  used_after u =
      record {
        block = u.block;
        behind = u.behind;
        there = in_list u.there;
        used = ap is_used (is_at u.block u.there) ∙ ap₂ ◌&&◌ u.good (lt-ltb _ _ u.used);
      }

  -- a free slot in a block
  free_parts : (k : ℕ) → k < blocks_in region → is_free (get_or all_blocks k []) ≡ true
      → (is_good (block_at k region) ≡ true) × (count_in (block_at k region) < slots)
  free_parts k h free =
      let parts = both _ _ (ap is_free (sym (is_at k h)) ∙ free) in
      (parts.0, ltb-true _ _ parts.1)

  free_at : (k : ℕ) → k < blocks_in region → is_good (block_at k region) ≡ true → count_in (block_at k region) < slots
      → is_free (get_or all_blocks k []) ≡ true
  free_at k h good free = ap is_free (is_at k h) ∙ ap₂ ◌&&◌ good (lt-ltb _ _ free)

  -- the block that is chosen is the place that the words describe
  place_described : (k : ℕ) → Chosen all_blocks k → FirstFreeBehindTheLastUsed region (place_at k (count_in (block_at k region)))
  place_described k is =
      let there = in_region is.there in
      let parts = free_parts k there is.free in
      record {
        there = there;
        good = parts.0;
        next = refl;
        free = parts.1;
        none_behind = λ u. is.none_behind (used_after u);
        gap_before = λ number h good free. used_behind (is.gap_before number h (free_at number (omega arith) good free));
      }

  place_chosen : (place : Place) → FirstFreeBehindTheLastUsed region place → Chosen all_blocks place.block
  place_chosen place is =
      record {
        there = in_list is.there;
        free = free_at place.block is.there is.good (omega (arith, is.next, is.free));
        none_behind = λ u. is.none_behind (used_behind u);
        gap_before = λ number h free.
            let parts = free_parts number (omega (arith, is.there)) free in
            used_after (is.gap_before number h parts.0 parts.1);
      }

  -- the answer by its block
  block_place : (k : ℕ) → k < blocks_in region
      → place_at (0 + k) (count_in (get_or all_blocks k [])) ≡ place_at k (count_in (block_at k region))
  block_place k h = ap₂ place_at (zero-add k) (ap count_in (is_at k h))

pub verify_names_the_first_bad_block : VerifyNamesTheFirstBadBlock
verify_names_the_first_bad_block region = (
  verify_broken region,
  λ whole number is. verify_whole region whole
      ∙ names_first 0 number (all_blocks region) (in_list region is.there)
      (ap is_good (is_at region number is.there) ∙ is.bad)
      (λ before h. ap is_good (is_at region before (omega (arith, is.there))) ∙ is.none_before before h)
      ∙ ap (Bad 20) (zero-add number),
  λ whole good. verify_whole region whole
      ∙ passes_all 0 (all_blocks region) (λ k h. ap is_good (is_at region k (in_region region h)) ∙ good k (in_region region h)),
)

pub no_blocks_are_good_and_full : NoBlocksAreGoodAndFull
no_blocks_are_good_and_full = (verify_whole [] refl, place_whole [] refl)

pub an_add_goes_behind_the_last_used : AnAddGoesBehindTheLastUsed
an_add_goes_behind_the_last_used region place found =
    by (answer_is 0 (all_blocks region)) (sym (place_whole region (placed_whole region place found)) ∙ found)
  where
    by : {answer : Outcome Place} → Answered (Chosen (all_blocks region)) 0 (all_blocks region) answer → answer ≡ done place
        → FirstFreeBehindTheLastUsed region place
    by (in_block k is e) found =
        let is_place : place_at (0 + k) (count_in (get_or (all_blocks region) k [])) ≡ place = cc in
        subst (FirstFreeBehindTheLastUsed region)
        (sym (block_place region k (in_region region is.there)) ∙ is_place)
        (place_described region k is)
    by (nowhere none e) found = let z : ◌≡◌ {A = ℕ} 0 1 = cc in absurd (omega arith)

pub that_place_is_taken : ThatPlaceIsTaken
that_place_is_taken region place whole is = place_whole region whole ∙ by (answer_is 0 (all_blocks region))
  where
    by : {answer : Outcome Place} → Answered (Chosen (all_blocks region)) 0 (all_blocks region) answer → answer ≡ done place
    by (in_block k chosen e) =
        let there = in_region region chosen.there in
        let same : k ≡ place.block = one_chosen (all_blocks region) k place.block chosen (place_chosen region place is) in
        let moved = ap (λ n. place_at n (count_in (block_at n region))) same in
        e ∙ ap done (block_place region k there ∙ moved ∙ ap (place_at place.block) (sym is.next))
    by (nowhere none e) = absurd (none place.block (place_chosen region place is))

pub no_such_place_is_refused : NoSuchPlaceIsRefused
no_such_place_is_refused region =
    (place_broken region, λ whole none. place_whole region whole ∙ by none (answer_is 0 (all_blocks region)))
  where
    by : {answer : Outcome Place} → ((place : Place) → FirstFreeBehindTheLastUsed region place → ⊥)
        → Answered (Chosen (all_blocks region)) 0 (all_blocks region) answer → answer ≡ refused 21
    by none (in_block k is e) = absurd (none (place_at k (count_in (block_at k region))) (place_described region k is))
    by none (nowhere not e) = e
