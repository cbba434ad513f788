-- Document 02, c, "A delivery log in blocks", sentence by sentence. When an add, a read back or a verify is refused stands in the rules
-- of demand 1.
use Rattle.std.specs.Prelude.{true, List, ◌≡◌, ℕ, ◌<◌}
use Rattle.refusals.specs.Refusals.{Outcome, done}
use Rattle.log_rules.specs.declared.Place.{Place}
use Rattle.refusals.specs.Numbers.{number}
use Rattle.log_rules.specs.declared.Damage.TheVariants.{NotWholeBlocks, BadBlock}
use Rattle.log_rules.specs.Verify.{AllGood, Bad, Verified, refusal_of}
use Rattle.log_rules.specs.Good.{reads_well, is_good}
use Rattle.log_rules.specs.Region.{is_whole, blocks_in, block_at}
use Rattle.log_rules.specs.OfABlock.{AGoodBlockIsMadeByItsTelegrams, AGoodBlockHas512Bytes, AZeroedBlockIsGoodAndEmpty}
use Rattle.log_rules.specs.OfABlock.{AnyChangedByteIsNoticed, TheSumNeedsNoMoreThan32Bits, OneReductionAtTheEndIsEnough}
use Rattle.log_rules.specs.OfTheLog.{FirstBad, FirstFreeBehindTheLastUsed, VerifyNamesTheFirstBadBlock, NoBlocksAreGoodAndFull, AnAddGoesBehindTheLastUsed, ThatPlaceIsTaken, NoSuchPlaceIsRefused}
use Rattle.log_rules.specs.OfTheLog.{WhatIsAddedIsReadBack, TheNumber0TellsATelegram, WhatWasReadBackStillIs, GoodBlocksStayGood}
use Rattle.log_rules.specs.OfTheLog.{NoOtherByteChanges, ARefusedAddLeavesTheRegion, ABlockSpoilsNoOther, AddsFillZeroedBlocksInOrder}
use Rattle.demands.specs.ProgramsOfTheLog.{adds, reads_back, verifies}

-- "we want add, read back of a telegram's bytes by block and slot": what one adds, the other reads back at the place answered
abbrev pub ReadsBackWhatIsAdded : (List ℕ → List ℕ → Outcome Place × List ℕ) → (List ℕ → ℕ → ℕ → Outcome (List ℕ)) → Type 0
ReadsBackWhatIsAdded add read_back =
    (region telegram : List ℕ) (place : Place) → (add region telegram).0 ≡ done place
    → read_back (add region telegram).1 place.block place.slot ≡ done telegram

abbrev pub AnAddedTelegramIsReadBack : Type 0
AnAddedTelegramIsReadBack = ReadsBackWhatIsAdded adds reads_back

-- "an add goes to the first free slot .." wherever there is such a slot
abbrev pub TakesTheFreeSlot : (List ℕ → List ℕ → Outcome Place × List ℕ) → Type 0
TakesTheFreeSlot add =
    (region telegram : List ℕ) (place : Place) → reads_well telegram ≡ true → is_whole region ≡ true → FirstFreeBehindTheLastUsed region place
    → (add region telegram).0 ≡ done place

abbrev pub AnAddTakesTheFreeSlot : Type 0
AnAddTakesTheFreeSlot = TakesTheFreeSlot adds

-- "and verify, which names the first bad block", or says that all are good
abbrev pub NamesTheFirstBad : (List ℕ → Verified) → Type 0
NamesTheFirstBad verify =
    (region : List ℕ) → is_whole region ≡ true
    → ((number : ℕ) → FirstBad region number → verify region ≡ Bad 20 number)
    × (((number : ℕ) → number < blocks_in region → is_good (block_at number region) ≡ true) → verify region ≡ AllGood)

abbrev pub TheFirstBadBlockIsNamed : Type 0
TheFirstBadBlockIsNamed = NamesTheFirstBad verifies

-- "19 region not whole blocks", "20 block bad": the number of what is wrong with a region, whichever block is bad
abbrev pub DamageHasItsNumber : Type 0
DamageHasItsNumber = (number (refusal_of NotWholeBlocks) ≡ 19) × ((block : ℕ) → number (refusal_of (BadBlock block)) ≡ 20)

abbrev pub TheLogIsAsAskedFor : Type 0
TheLogIsAsAskedFor =
    -- "keep accepted telegrams in blocks of 512 bytes": a good block is, byte for byte, the one that its telegrams make, so that "a
    -- block that verifies but breaks another of these rules is bad too"
    AGoodBlockIsMadeByItsTelegrams
    × AGoodBlockHas512Bytes
    -- "unused ones all zero": a zeroed block is one with none
    × AZeroedBlockIsGoodAndEmpty
    -- "the sum of each of the first 510 bytes times its place counted from 1": the program adds it up in 32 bits
    -- and reduces it once
    × TheSumNeedsNoMoreThan32Bits
    × OneReductionAtTheEndIsEnough
    -- "we want add, read back of a telegram's bytes by block and slot (both from 0)"
    × WhatIsAddedIsReadBack
    × TheNumber0TellsATelegram
    × WhatWasReadBackStillIs
    × GoodBlocksStayGood
    × NoOtherByteChanges
    -- "and verify, which names the first bad block, over a lent region of whole blocks"
    × VerifyNamesTheFirstBadBlock
    × DamageHasItsNumber
    -- "an add goes to the first free slot of a good block behind the last slot used in any good block"
    × AnAddGoesBehindTheLastUsed
    × ThatPlaceIsTaken
    -- "15 slots", "always the first ones"
    × AddsFillZeroedBlocksInOrder
    -- "any single changed byte in a block must be noticed"
    × AnyChangedByteIsNoticed
    -- "a bad block must not spoil the reading of the others"
    × ABlockSpoilsNoOther
    -- "19 region not whole blocks", "21 no such free slot for an add (a region of no blocks included)"
    × NoSuchPlaceIsRefused
    × NoBlocksAreGoodAndFull
    -- "a refused add leaves the region as it stood"
    × ARefusedAddLeavesTheRegion
