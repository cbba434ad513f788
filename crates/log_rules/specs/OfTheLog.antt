-- Document 02 c): what its sentences say of every region, each as a statement beside its words.
use Rattle.std.specs.Prelude.{true, false, List, [], ◌∷◌, ◌≡◌, ℕ, zero, suc, ◌+◌, ◌*◌, ◌%◌, ◌/◌, ◌≤◌, ◌<◌, length, get_or, replicate}
use Rattle.refusals.specs.Refusals.{Outcome, done, refused}
use Rattle.log_rules.specs.declared.Place.{Place}
use Rattle.log_rules.specs.Verify.{AllGood, Bad, Refused, verify_of}
use Rattle.log_rules.specs.Block.{slots, slot_size, count_place, check_place, block_size}
use Rattle.log_rules.specs.Good.{count_in, reads_well, all_read_well, is_good}
use Rattle.log_rules.specs.Region.{is_whole, blocks_in, block_at, with_block}
use Rattle.log_rules.specs.Add.{place_at, place_in, place_for, add_of}
use Rattle.log_rules.specs.ReadBack.{read_back_of}
use Rattle.log_rules.specs.Answers.{number_of, bytes_of}

-- "verify, which names the first bad block": that one is bad, and none before it
pub record FirstBad (region : List ℕ) (number : ℕ) : Type 0 where
  pub there : number < blocks_in region
  pub bad : is_good (block_at number region) ≡ false
  pub none_before : (before : ℕ) → before < number → is_good (block_at before region) ≡ true

abbrev pub VerifyNamesTheFirstBadBlock : Type 0
VerifyNamesTheFirstBadBlock =
    (region : List ℕ)
    → (is_whole region ≡ false → verify_of region ≡ Refused 19)
    × (is_whole region ≡ true → (number : ℕ) → FirstBad region number → verify_of region ≡ Bad 20 number)
    × (is_whole region ≡ true → ((number : ℕ) → number < blocks_in region → is_good (block_at number region) ≡ true) → verify_of region ≡ AllGood)

-- a region of no blocks is good, and has no free slot
abbrev pub NoBlocksAreGoodAndFull : Type 0
NoBlocksAreGoodAndFull = (verify_of [] ≡ AllGood) × (place_in [] ≡ refused 21)

-- a slot used in a good block behind the block of a number
pub record UsedBehind (region : List ℕ) (number : ℕ) : Type 0 where
  pub block : ℕ
  pub behind : number < block
  pub there : block < blocks_in region
  pub good : is_good (block_at block region) ≡ true
  pub used : 0 < count_in (block_at block region)

-- "the first free slot of a good block behind the last slot used in any good block": it is free; none is used in a good block behind it;
-- and each free slot of a good block before it is a gap
pub record FirstFreeBehindTheLastUsed (region : List ℕ) (place : Place) : Type 0 where
  pub there : place.block < blocks_in region
  pub good : is_good (block_at place.block region) ≡ true
  pub next : place.slot ≡ count_in (block_at place.block region)
  pub free : place.slot < slots
  pub none_behind : UsedBehind region place.block → ⊥
  pub gap_before : (number : ℕ) → number < place.block → is_good (block_at number region) ≡ true → count_in (block_at number region) < slots
      → UsedBehind region number

abbrev pub AnAddGoesBehindTheLastUsed : Type 0
AnAddGoesBehindTheLastUsed = (region : List ℕ) (place : Place) → place_in region ≡ done place → FirstFreeBehindTheLastUsed region place

-- wherever there is such a place, it is the one
abbrev pub ThatPlaceIsTaken : Type 0
ThatPlaceIsTaken =
    (region : List ℕ) (place : Place) → is_whole region ≡ true → FirstFreeBehindTheLastUsed region place → place_in region ≡ done place

-- "19 region not whole blocks", "21 no such free slot": and where there is none, the number says why
abbrev pub NoSuchPlaceIsRefused : Type 0
NoSuchPlaceIsRefused =
    (region : List ℕ)
    → (is_whole region ≡ false → place_in region ≡ refused 19)
    × (is_whole region ≡ true → ((place : Place) → FirstFreeBehindTheLastUsed region place → ⊥) → place_in region ≡ refused 21)

-- what was added is read back at the place that the answer names
abbrev pub WhatIsAddedIsReadBack : Type 0
WhatIsAddedIsReadBack =
    (region telegram : List ℕ) (place : Place) → place_for region telegram ≡ done place
    → read_back_of (add_of region telegram).1 place.block place.slot ≡ done telegram

-- where reading back gives the number 0 it gives a telegram: no refusal has that number
abbrev pub TheNumber0TellsATelegram : Type 0
TheNumber0TellsATelegram =
    (region : List ℕ) (block slot : ℕ) → number_of (read_back_of region block slot) ≡ 0
    → read_back_of region block slot ≡ done (bytes_of (read_back_of region block slot))

-- and all that could be read back before still is
abbrev pub WhatWasReadBackStillIs : Type 0
WhatWasReadBackStillIs =
    (region telegram bytes : List ℕ) (block slot : ℕ) → read_back_of region block slot ≡ done bytes
    → read_back_of (add_of region telegram).1 block slot ≡ done bytes

-- the good blocks stay good, and the bad ones as they were
abbrev pub GoodBlocksStayGood : Type 0
GoodBlocksStayGood =
    (region telegram : List ℕ) (number : ℕ)
    → (is_good (block_at number region) ≡ true → is_good (block_at number (add_of region telegram).1) ≡ true)
    × (is_good (block_at number region) ≡ false → block_at number (add_of region telegram).1 ≡ block_at number region)

-- slot, count and check of one block change, and no other byte of the region
pub record OutsideTheSlot (place : Place) (at : ℕ) : Type 0 where
  pub slot : (k : ℕ) → k < slot_size → at ≡ block_size * place.block + slot_size * place.slot + k → ⊥
  pub count : at ≡ block_size * place.block + count_place → ⊥
  pub low : at ≡ block_size * place.block + check_place → ⊥
  pub high : at ≡ block_size * place.block + suc check_place → ⊥

abbrev pub NoOtherByteChanges : Type 0
NoOtherByteChanges =
    (region telegram : List ℕ) (place : Place) → place_for region telegram ≡ done place
    → (length (add_of region telegram).1 ≡ length region)
    × ((at : ℕ) → OutsideTheSlot place at → get_or (add_of region telegram).1 at 0 ≡ get_or region at 0)

-- "a refused add leaves the region as it stood"
abbrev pub ARefusedAddLeavesTheRegion : Type 0
ARefusedAddLeavesTheRegion =
    (region telegram : List ℕ) (number : ℕ) → place_for region telegram ≡ refused number → (add_of region telegram).1 ≡ region

-- "a bad block must not spoil the reading of the others": whatever bytes stand in a block, the others read back as they did
abbrev pub ABlockSpoilsNoOther : Type 0
ABlockSpoilsNoOther =
    (region bytes : List ℕ) (number block slot : ℕ) → number < blocks_in region → length bytes ≡ block_size → (block ≡ number → ⊥)
    → read_back_of (with_block number bytes region) block slot ≡ read_back_of region block slot

-- adds one behind another: their answers, and the region behind them
abbrev pub add_all : List (List ℕ) → List ℕ → List (Outcome Place) × List ℕ
add_all [] region = ([], region)
add_all (telegram ∷ telegrams) region =
    ((add_of region telegram).0 ∷ (add_all telegrams (add_of region telegram).1).0, (add_all telegrams (add_of region telegram).1).1)

-- so many places from a number on, 15 a block
abbrev pub places_from : ℕ → ℕ → List (Outcome Place)
places_from from zero = []
places_from from (suc n) = done (place_at (from / slots) (from % slots)) ∷ places_from (suc from) n

-- adds into zeroed blocks fill 15 a block in order, and where all are full the next is 21
abbrev pub AddsFillZeroedBlocksInOrder : Type 0
AddsFillZeroedBlocksInOrder =
    (blocks : ℕ) (telegrams : List (List ℕ)) → all_read_well telegrams ≡ true → length telegrams ≤ slots * blocks
    → ((add_all telegrams (replicate (block_size * blocks) 0)).0 ≡ places_from 0 (length telegrams))
    × ((telegram : List ℕ) → length telegrams ≡ slots * blocks → reads_well telegram ≡ true
    → place_for (add_all telegrams (replicate (block_size * blocks) 0)).1 telegram ≡ refused 21)
