-- Laws of verifying: the first bad block is named, one block after the other. Assumes nothing.
use mathlib.Core.Path.{◌≡◌, refl, ap, ◌∙◌}
use mathlib.Core.Bool.{Bool, true, false, cond}
use mathlib.Core.List.{List, [], ◌∷◌, ◌++◌}
use Prim.Native.Nat.{ℕ, zero, suc, ◌+◌, ◌<◌}
use native.Mathlib.Numerals.{add-one}
use native.Mathlib.Omega.{arith}
use lib.ListN.{length, get_or}
use Rattle.log_rules.specs.Block.{block_size}
use Rattle.log_rules.specs.Good.{is_good}
use Rattle.log_rules.specs.Region.{blocks_from, is_whole, whole_blocks, blocks_in}
use Rattle.log_rules.specs.Verify.{AllGood, Bad, Refused, first_bad, verified_by, verify_of}
use Rattle.log_rules.proofs.RegionLaws.{whole_next, whole_blocks_law, broken_blocks}

-- whole or not
pub verify_whole : (region : List ℕ) → is_whole region ≡ true
    → verify_of region ≡ first_bad 0 (blocks_from (blocks_in region) region)
unfolding verify_of
verify_whole region whole = ap verified_by (whole_blocks_law region whole)

pub verify_broken : (region : List ℕ) → is_whole region ≡ false → verify_of region ≡ Refused 19
unfolding verify_of
verify_broken region broken = ap verified_by (broken_blocks region broken)

-- the first bad block is named, and where none is bad all are good
pub names_first : (number k : ℕ) (blocks : List (List ℕ)) → k < length blocks → is_good (get_or blocks k []) ≡ false
    → ((before : ℕ) → before < k → is_good (get_or blocks before []) ≡ true) → first_bad number blocks ≡ Bad 20 (number + k)
names_first number k [] there bad good = absurd (omega arith)
names_first number zero (block ∷ blocks) there bad good =
    let here : number ≡ number + 0 = omega arith in
    rw bad (ap (Bad 20) here)
names_first number (suc k) (block ∷ blocks) there bad good =
    let next : suc number + k ≡ number + suc k = omega arith in
    rw (good 0 (omega arith))
    (names_first (suc number) k blocks (omega arith) bad (λ before h. good (suc before) (omega arith)) ∙ ap (Bad 20) next)

pub passes_all : (number : ℕ) (blocks : List (List ℕ)) → ((k : ℕ) → k < length blocks → is_good (get_or blocks k []) ≡ true)
    → first_bad number blocks ≡ AllGood
passes_all number [] good = refl
passes_all number (block ∷ blocks) good =
    rw (good 0 (omega arith)) (passes_all (suc number) blocks (λ k h. good (suc k) (omega arith)))

-- over a region, block by block: a good block is passed, a bad one is named
pub verify_next : (number : ℕ) (left block rest : List ℕ) {good : Bool} → left ≡ block ++ rest → length block ≡ block_size
    → good ≡ is_good block
    → first_bad number (whole_blocks left) ≡ cond good (first_bad (number + 1) (whole_blocks rest)) (Bad 20 number)
verify_next number left block rest parted size is = rw (parted, whole_next block rest size, ← is, add-one)
