-- Laws of the search for a place: one pass over the blocks finds what the definition says. Assumes nothing.
use mathlib.Core.Path.{◌≡◌, refl, ap, sym, ◌∙◌}
use mathlib.Core.Bool.{Bool, true, false, cond, ◌&&◌, ◌||◌, not-eq-not}
use mathlib.Core.List.{List, [], ◌∷◌, ◌++◌}
use Prim.Native.Nat.{ℕ, zero, suc, ◌+◌}
use native.Mathlib.Numerals.{add-one}
use native.Mathlib.Omega.{arith}
use lib.Dec.{eqb, ltb, eqb-suc-zero}
use lib.ListN.{length}
use borrow.Author.Tests.{lt-ltb}
use Rattle.refusals.specs.Refusals.{Outcome, done, refused, after}
use Rattle.log_rules.specs.declared.Place.{Place}
use Rattle.log_rules.specs.Block.{slots, block_size}
use Rattle.log_rules.specs.Good.{count_in, is_good}
use Rattle.log_rules.specs.Region.{blocks_from, is_whole, whole_blocks, blocks_in}
use Rattle.log_rules.specs.Add.{place_at, first_free, some_used, free_behind_used, place_in}
use Rattle.log_rules.specs.Tests.{or_else, place_with, place_then}
use Rattle.log_rules.proofs.RegionLaws.{whole_next, whole_blocks_law, broken_blocks}

-- where no slot is used, the search behind the last used one is the search from the front
pub none_used : (number : ℕ) (blocks : List (List ℕ)) → some_used blocks ≡ false
    → free_behind_used number blocks ≡ first_free number blocks
none_used number [] none = refl
none_used number (block ∷ blocks) none = go (is_good block && ltb 0 (count_in block)) none
  where
    go : (used : Bool) → (used || some_used blocks) ≡ false
        → free_behind_used number (block ∷ blocks) ≡ first_free number (block ∷ blocks)
    go true e = let z : ◌≡◌ {A = ℕ} 0 1 = cc in absurd (omega arith)
    go false e = rw e

-- One block, by what it is: whether it is good, and how many slots it uses.
abbrev found_with : Outcome Place → ℕ → Bool → ℕ → Outcome Place
found_with found number good count =
    cond good
    (cond (eqb count 0) (or_else found (done (place_at number 0)))
    (cond (ltb count slots) (done (place_at number count)) (refused 21)))
    found

abbrev free_from : ℕ → Bool → ℕ → Outcome Place → Outcome Place
free_from number good count later = cond (good && ltb count slots) (done (place_at number count)) later

-- what the search finds with it is what the definition says of it: `some` is whether a slot is used further behind, `behind` what
-- is found there, `later` the first free slot there
turn : (found : Outcome Place) (number : ℕ) (good : Bool) (count : ℕ) (some : Bool) (behind later : Outcome Place)
    → cond some behind (or_else (found_with found number good count) later)
    ≡ cond ((good && ltb 0 count) || some)
    (cond some behind (free_from number good count later))
    (or_else found (free_from number good count later))
turn found number false count true behind later = refl
turn found number false count false behind later = refl
turn found number true zero true behind later = refl
turn (done place) number true zero false behind later = refl
turn (refused n) number true zero false behind later = refl
turn found number true (suc count) some behind later =
    simp (eqb-suc-zero count, lt-ltb 0 (suc count) (omega arith)) (go (ltb (suc count) slots))
  where
    go : (free : Bool)
        → cond some behind (or_else (cond free (done (place_at number (suc count))) (refused 21)) later)
        ≡ cond some behind (cond free (done (place_at number (suc count))) later)
    go true = refl
    go false = refl

-- "no place" is 21, and stays it
settles : (found : Outcome Place) (number : ℕ) (good : Bool) (count : ℕ) → or_else found (refused 21) ≡ found
    → or_else (found_with found number good count) (refused 21) ≡ found_with found number good count
settles found number false count settled = settled
settles (done place) number true zero settled = refl
settles (refused n) number true zero settled = refl
settles found number true (suc count) settled = rw (eqb-suc-zero count) (go (ltb (suc count) slots))
  where
    go : (free : Bool)
        → let place = cond free (done (place_at number (suc count))) (refused 21) in or_else place (refused 21) ≡ place
    go true = refl
    go false = refl

-- the place found before, if any, stands unless a slot is used further behind
search_goes : (found : Outcome Place) (number : ℕ) (blocks : List (List ℕ)) → or_else found (refused 21) ≡ found
    → place_then found number blocks
    ≡ cond (some_used blocks) (free_behind_used number blocks) (or_else found (first_free number blocks))
search_goes found number [] settled = sym settled
search_goes found number (block ∷ blocks) settled =
    search_goes (place_with found number block) (suc number) blocks (settles found number (is_good block) (count_in block) settled)
    ∙ turn found number (is_good block) (count_in block) (some_used blocks)
    (free_behind_used (suc number) blocks) (first_free (suc number) blocks)

-- from the front, with none found yet
search_is : (number : ℕ) (blocks : List (List ℕ)) → place_then (refused 21) number blocks ≡ free_behind_used number blocks
search_is number blocks = search_goes (refused 21) number blocks refl ∙ go (some_used blocks) refl
  where
    go : (some : Bool) → some_used blocks ≡ some
        → cond some (free_behind_used number blocks) (first_free number blocks) ≡ free_behind_used number blocks
    go true e = refl
    go false e = sym (none_used number blocks e)

-- whole or not
pub place_whole : (region : List ℕ) → is_whole region ≡ true
    → place_in region ≡ free_behind_used 0 (blocks_from (blocks_in region) region)
unfolding place_in
place_whole region whole = ap (λ blocks. after blocks (free_behind_used 0)) (whole_blocks_law region whole)

pub place_broken : (region : List ℕ) → is_whole region ≡ false → place_in region ≡ refused 19
unfolding place_in
place_broken region broken = ap (λ blocks. after blocks (free_behind_used 0)) (broken_blocks region broken)

-- so a region with a place is whole
pub placed_whole : (region : List ℕ) (place : Place) → place_in region ≡ done place → is_whole region ≡ true
placed_whole region place placed = (not-eq-not {a = is_whole region} {b = true}).0 go
  where
    go : is_whole region ≡ false → ⊥
    go broken = let none = place_broken region broken in let z : ◌≡◌ {A = ℕ} 0 1 = cc in omega arith

-- the search over a region, block by block: its start, and what is found with one block more
pub search_starts : (region : List ℕ) → is_whole region ≡ true → place_then (refused 21) 0 (whole_blocks region) ≡ place_in region
search_starts region whole = search_is 0 (whole_blocks region) ∙ sym (place_whole region whole)

pub search_next : (found found' : Outcome Place) (number : ℕ) (left block rest : List ℕ) → left ≡ block ++ rest → length block ≡ block_size
    → found' ≡ place_with found number block
    → place_then found' (number + 1) (whole_blocks rest) ≡ place_then found number (whole_blocks left)
search_next found found' number left block rest parted size next = rw (parted, whole_next block rest size, next, add-one)
