-- `delivery_log::read_back::locate` meets its contract.
use mathlib.Core.Path.{◌≡◌, refl, ap, sym, ◌∙◌}
use mathlib.Core.Bool.{Bool, true}
use mathlib.Core.List.{List}
use Prim.Native.Nat.{ℕ, ◌+◌, ◌-◌, ◌*◌, ◌%◌, ◌<◌}
use native.Mathlib.Omega.{arith}
use lib.ListN.{length, take, drop}
use borrow.Author.Tests.{eq-eqb, ne_eqb}
use Rattle.log_rules.specs.Block.{block_size}
use Rattle.log_rules.specs.Good.{is_good}
use Rattle.log_rules.specs.Region.{block_at, blocks_in}
use Rattle.log_rules.proofs.RegionLaws.{block_part}
use Rattle.log_rules.proofs.ReadBackLaws.{GoodBlock, not_whole, no_such_block, bad_block, no_such_slot, is_slot, ends_inside, telegram_there}
use Rattle.delivery_log.proofs.read_back.locate.Goals as goal

-- what the code's test of a part of the region says of the block that it is
module _ (region : List ℕ) (block : ℕ) {answer : Bool}
    (tested : answer ≡ is_good (take (block_size * block + block_size - block_size * block) (drop (block_size * block) region))) where
  block_tested : is_good (block_at block region) ≡ answer
  block_tested = ap is_good (sym (block_part block region)) ∙ sym tested

  good_block : length region % block_size ≡ 0 → block < blocks_in region → answer ≡ true → GoodBlock region block
  good_block whole there good = record { whole = eq-eqb _ _ whole; there = there; good = block_tested ∙ good }

pub returns-then-length-ne0 : goal.returns-then-length-ne0
returns-then-length-ne0 c =
    let a = c.args in
    (sym (not_whole a.region.now a.block a.slot (ne_eqb _ _ c.if-length-ne0.true)), tt)

pub returns-then-block-length : goal.returns-then-block-length
returns-then-block-length c =
    let a = c.args in
    (sym (no_such_block a.region.now a.block a.slot (eq-eqb _ _ c.if-length-ne0.false) c.if-block-length.true), tt)

pub returns-then-not-is_good : goal.returns-then-not-is_good
returns-then-not-is_good c =
    let a = c.args in
    let bad = block_tested a.region.now a.block c.is_good.ensures ∙ c.if-not-is_good.true in
    (sym (bad_block a.region.now a.block a.slot (eq-eqb _ _ c.if-length-ne0.false) c.if-block-length.false bad), tt)

pub returns-then-slot-region : goal.returns-then-slot-region
returns-then-slot-region c =
    let a = c.args in
    let good = good_block a.region.now a.block c.is_good.ensures c.if-length-ne0.false c.if-block-length.false c.if-not-is_good.false in
    (sym (no_such_slot a.region.now a.block a.slot good (omega arith)), tt)

pub overflow_mul-at : goal.overflow_mul-at
overflow_mul-at c =
    let a = c.args in
    let good = good_block a.region.now a.block c.is_good.ensures c.if-length-ne0.false c.if-block-length.false c.if-not-is_good.false in
    omega (arith, is_slot a.region.now a.block a.slot good c.if-slot-region.false)

pub overflow_add-at : goal.overflow_add-at
overflow_add-at c =
    let a = c.args in
    let good = good_block a.region.now a.block c.is_good.ensures c.if-length-ne0.false c.if-block-length.false c.if-not-is_good.false in
    omega (arith, is_slot a.region.now a.block a.slot good c.if-slot-region.false)

pub overflow_add-result : goal.overflow_add-result
overflow_add-result c =
    let a = c.args in
    let good = good_block a.region.now a.block c.is_good.ensures c.if-length-ne0.false c.if-block-length.false c.if-not-is_good.false in
    omega (arith, is_slot a.region.now a.block a.slot good c.if-slot-region.false)

pub bounds-region-at : goal.bounds-region-at
bounds-region-at c =
    let a = c.args in
    let good = good_block a.region.now a.block c.is_good.ensures c.if-length-ne0.false c.if-block-length.false c.if-not-is_good.false in
    omega (arith, is_slot a.region.now a.block a.slot good c.if-slot-region.false)

pub returns : goal.returns
returns c =
    let a = c.args in
    let good = good_block a.region.now a.block c.is_good.ensures c.if-length-ne0.false c.if-block-length.false c.if-not-is_good.false in
    let some = c.if-slot-region.false in
    (sym (telegram_there a.region.now a.block a.slot good some), (refl, ends_inside a.region.now a.block a.slot good some))
