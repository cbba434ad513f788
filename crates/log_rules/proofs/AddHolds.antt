-- What the document says of an add holds: what was added is read back, and no more changes than it has to. Assumes nothing.
use mathlib.Core.Path.{◌≡◌, refl, ap, sym, ◌∙◌}
use mathlib.Core.Bool.{true, false}
use mathlib.Core.List.{List}
use mathlib.Core.Logic.{⊎_elim}
use Prim.Native.Nat.{ℕ, ◌+◌, ◌*◌, ◌%◌, ◌<◌}
use native.Mathlib.Omega.{arith}
use lib.Dec.{eqb}
use lib.ListN.{length, get_or}
use Rattle.refusals.specs.Refusals.{Outcome, done, refused}
use Rattle.log_rules.specs.declared.Place.{Place}
use Rattle.log_rules.specs.Block.{slots, slot_size, block_size}
use Rattle.log_rules.specs.Good.{count_in, reads_well, is_good}
use Rattle.log_rules.specs.Region.{is_whole, block_at, with_block}
use Rattle.log_rules.specs.Add.{place_for, entered, add_of}
use Rattle.log_rules.specs.ReadBack.{telegram_at, read_back_of}
use Rattle.log_rules.specs.OfTheLog.{FirstFreeBehindTheLastUsed, WhatIsAddedIsReadBack, WhatWasReadBackStillIs}
use Rattle.log_rules.specs.OfTheLog.{GoodBlocksStayGood, OutsideTheSlot, NoOtherByteChanges}
use Rattle.log_rules.specs.OfTheLog.{ARefusedAddLeavesTheRegion, ABlockSpoilsNoOther}
use Rattle.log_rules.proofs.EitherLaws.{clash, eq_or_ne, Beside, in_or_beside, beside}
use Rattle.log_rules.proofs.RegionLaws.{block_byte, with_length, with_there, with_byte, with_other}
use Rattle.log_rules.proofs.ReadBackLaws.{read_same, from_block}
use Rattle.log_rules.proofs.EnterLaws.{entered_length, entered_good, entered_read, entered_keeps, entered_byte}
use Rattle.log_rules.proofs.PlaceLaws.{placed_whole}
use Rattle.log_rules.proofs.PlaceHolds.{an_add_goes_behind_the_last_used}
use Rattle.log_rules.proofs.AddLaws.{add_is, given_place}

-- An add that is done.
module _ (region telegram : List ℕ) (place : Place) where
  -- its block before it and behind it, and the region behind it
  abbrev was : List ℕ
  was = block_at place.block region

  abbrev is : List ℕ
  is = entered was telegram

  abbrev left : List ℕ
  left = (add_of region telegram).1

  module _ (added : place_for region telegram ≡ done place) where
    reads : reads_well telegram ≡ true
    reads = (given_place region telegram place added).0

    whole : is_whole region ≡ true
    whole = placed_whole region place (given_place region telegram place added).1

    found : FirstFreeBehindTheLastUsed region place
    found = an_add_goes_behind_the_last_used region place (given_place region telegram place added).1

    free : count_in was < slots
    free = omega (arith, found.next, found.free)

    size : length is ≡ block_size
    size = entered_length was telegram found.good free reads

    -- one block changes
    left_is : left ≡ with_block place.block is region
    left_is = ap (λ both. both.1) (add_is region telegram added)

    left_length : length left ≡ length region
    left_length = ap length left_is ∙ with_length place.block is region found.there size

    left_there : block_at place.block left ≡ is
    left_there = ap (block_at place.block) left_is ∙ with_there place.block is region found.there size

    left_other : (other : ℕ) → (other ≡ place.block → ⊥) → block_at other left ≡ block_at other region
    left_other other apart =
        ap (block_at other) left_is ∙ with_other place.block is region found.there size other apart

    -- what is read back: the telegram, and what was read back before, from this block or from another
    read_left : (slot : ℕ) → read_back_of left place.block slot ≡ telegram_at slot is
    read_left slot =
        let still : is_whole left ≡ true = ap (λ n. eqb (n % block_size) 0) left_length ∙ whole in
        from_block left place.block slot still (omega (arith, left_length, found.there)) ∙ ap (telegram_at slot) left_there

    read_at_place : read_back_of left place.block place.slot ≡ done telegram
    read_at_place =
        read_left place.slot
        ∙ ap (λ slot. telegram_at slot is) found.next
        ∙ entered_read was telegram found.good free reads

    read_here : (bytes : List ℕ) (slot : ℕ) → read_back_of region place.block slot ≡ done bytes
        → read_back_of left place.block slot ≡ done bytes
    read_here bytes slot e =
        read_left slot
        ∙ entered_keeps was telegram found.good free reads slot bytes
        (sym (from_block region place.block slot whole found.there) ∙ e)

    read_on : (bytes : List ℕ) (block slot : ℕ) → read_back_of region block slot ≡ done bytes
        → read_back_of left block slot ≡ done bytes
    read_on bytes block slot e =
        ⊎_elim
        (λ here. rw here (read_here bytes slot (rw here at e)))
        (λ apart. read_same region left block slot left_length (left_other block apart) ∙ e)
        (eq_or_ne block place.block)

    -- the block that changes was good, and is
    stays_good : (number : ℕ) → is_good (block_at number region) ≡ true → is_good (block_at number left) ≡ true
    stays_good number good =
        ⊎_elim
        (λ here.
        ap (λ n. is_good (block_at n left)) here ∙ ap is_good left_there ∙ entered_good was telegram found.good free reads)
        (λ apart. ap is_good (left_other number apart) ∙ good)
        (eq_or_ne number place.block)

    stays_bad : (number : ℕ) → is_good (block_at number region) ≡ false → block_at number left ≡ block_at number region
    stays_bad number bad =
        left_other number (λ here. clash (ap (λ n. is_good (block_at n region)) here ∙ found.good) bad)

    -- a byte outside the slot, the count and the check: in this block, and in any
    byte_here : (k : ℕ) → k < block_size → OutsideTheSlot place (block_size * place.block + k)
        → get_or left (block_size * place.block + k) 0 ≡ get_or region (block_size * place.block + k) 0
    byte_here k less outside =
        sym (block_byte place.block left k less)
        ∙ ap (λ block. get_or block k 0) left_there
        ∙ entered_byte was telegram found.good free reads k
        (beside k (slot_size * count_in was) slot_size (λ j small e. outside.slot j small (omega (arith, found.next))))
        (omega (arith, outside.low, outside.high))
        (λ e. outside.count (omega arith))
        ∙ block_byte place.block region k less

    byte_on : (at : ℕ) → OutsideTheSlot place at → get_or left at 0 ≡ get_or region at 0
    byte_on at outside = ⊎_elim inside beside_it (in_or_beside at (block_size * place.block) block_size)
      where
        inside : (k : ℕ) × (k < block_size) × (at ≡ block_size * place.block + k) → get_or left at 0 ≡ get_or region at 0
        inside (k, less, e) = rw e (byte_here k less (rw e at outside))

        beside_it : Beside at (block_size * place.block) block_size → get_or left at 0 ≡ get_or region at 0
        beside_it apart =
            ap (λ bytes. get_or bytes at 0) left_is ∙ with_byte place.block is region found.there size at apart

pub what_is_added_is_read_back : WhatIsAddedIsReadBack
what_is_added_is_read_back = read_at_place

pub no_other_byte_changes : NoOtherByteChanges
no_other_byte_changes region telegram place added = (left_length region telegram place added, byte_on region telegram place added)

pub a_refused_add_leaves_the_region : ARefusedAddLeavesTheRegion
a_refused_add_leaves_the_region region telegram number e = ap (λ both. both.1) (add_is region telegram e)

-- done or refused
pub what_was_read_back_still_is : WhatWasReadBackStillIs
what_was_read_back_still_is region telegram bytes block slot e = go (place_for region telegram) refl
  where
    go : (answer : Outcome Place) → place_for region telegram ≡ answer
        → read_back_of (add_of region telegram).1 block slot ≡ done bytes
    go (done place) f = read_on region telegram place f bytes block slot e
    go (refused number) f = ap (λ r. read_back_of r block slot) (a_refused_add_leaves_the_region region telegram number f) ∙ e

pub good_blocks_stay_good : GoodBlocksStayGood
good_blocks_stay_good region telegram number = go (place_for region telegram) refl
  where
    go : (answer : Outcome Place) → place_for region telegram ≡ answer
        → (is_good (block_at number region) ≡ true → is_good (block_at number (add_of region telegram).1) ≡ true)
        × (is_good (block_at number region) ≡ false → block_at number (add_of region telegram).1 ≡ block_at number region)
    go (done place) f = (stays_good region telegram place f number, stays_bad region telegram place f number)
    go (refused n) f =
        let same = ap (block_at number) (a_refused_add_leaves_the_region region telegram n f) in
        (λ good. ap is_good same ∙ good, λ bad. same)

pub a_block_spoils_no_other : ABlockSpoilsNoOther
a_block_spoils_no_other region bytes number block slot there size apart =
    read_same region (with_block number bytes region) block slot
    (with_length number bytes region there size)
    (with_other number bytes region there size block apart)
