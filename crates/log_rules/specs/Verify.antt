-- Document 02 c), "verify, which names the first bad block".
use Rattle.std.specs.Prelude.{cond, List, [], ◌∷◌, ℕ, suc, Result, Ok, Err}
use Rattle.refusals.specs.Refusals.{Outcome, done, refused}
use Rattle.log_rules.specs.declared.Damage.{Damage}
use Rattle.log_rules.specs.declared.Damage.TheVariants.{NotWholeBlocks, BadBlock}
use Rattle.log_rules.specs.Good.{is_good}
use Rattle.log_rules.specs.Region.{blocks_of}
use Rattle.refusals.specs.declared.Refusal.{Refusal}
use Rattle.refusals.specs.declared.Refusal.TheVariants as refusal

-- all blocks are good; or 20 and the number of the first bad one; or the number that refuses the region
pub data Verified : Type 0 where
  AllGood : Verified
  Bad : ℕ → ℕ → Verified
  Refused : ℕ → Verified

-- what the code hands out
abbrev pub verified_as : Result (Unit {0}) Damage → Verified
verified_as (Ok nothing) = AllGood
verified_as (Err NotWholeBlocks) = Refused 19
verified_as (Err (BadBlock number)) = Bad 20 number

-- "20 block bad": the first of these blocks, the first of them with the number that is given
abbrev pub first_bad : ℕ → List (List ℕ) → Verified
first_bad number [] = AllGood
first_bad number (block ∷ blocks) = cond (is_good block) (first_bad (suc number) blocks) (Bad 20 number)

-- where the region is whole blocks
abbrev pub verified_by : Outcome (List (List ℕ)) → Verified
verified_by (done blocks) = first_bad 0 blocks
verified_by (refused number) = Refused number

-- 19, or 20 with the first bad block, or all are good
unfoldable pub verify_of : List ℕ → Verified
verify_of region = verified_by (blocks_of region)

-- the refusal of a damaged region
abbrev pub refusal_of : Damage → Refusal
refusal_of NotWholeBlocks = refusal.NotWholeBlocks
refusal_of (BadBlock number) = refusal.BlockBad
