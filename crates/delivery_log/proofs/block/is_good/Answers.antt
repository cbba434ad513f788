-- `delivery_log::block::is_good` meets its contract.
use mathlib.Core.Path.{◌≡◌, sym, ◌∙◌}
use mathlib.Core.Bool.{true, ◌&&◌}
use mathlib.Core.List.{List}
use Prim.Native.Nat.{ℕ, ◌≤◌}
use lib.ListN.{length}
use Rattle.log_rules.specs.Block.{block_size, slots}
use Rattle.log_rules.specs.Good.{count_in, is_good}
use Rattle.log_rules.specs.Tests.{slots_fit, check_fits}
use Rattle.log_rules.proofs.TestLaws.{zeros_to_count, zeros_to_check, by_parts, bad_size, bad_count_law}
use Rattle.delivery_log.proofs.block.is_good.Goals as goal

-- what is left to test of a block of the right length and count, once its zeros are found
module _ (block : List ℕ) (long : length block ≡ block_size) (few : count_in block ≤ slots) (zeros : zeros_to_count block ≡ true) where
  to_check : is_good block ≡ (zeros_to_check block && (check_fits block && slots_fit (count_in block) block))
  to_check = by_parts block long few ∙ rw zeros

  behind_zeros : zeros_to_check block ≡ true → is_good block ≡ (check_fits block && slots_fit (count_in block) block)
  behind_zeros more = to_check ∙ rw more

pub returns-then-block-ne-BLOCK_SIZE : goal.returns-then-block-ne-BLOCK_SIZE
returns-then-block-ne-BLOCK_SIZE c = sym (bad_size c.args.block.now c.if-block-ne-BLOCK_SIZE.true)

pub returns-then-count-gt-SLOTS : goal.returns-then-count-gt-SLOTS
returns-then-count-gt-SLOTS c = sym (bad_count_law c.args.block.now c.if-count-gt-SLOTS.true)

pub returns-then-not-is_zero : goal.returns-then-not-is_zero
returns-then-not-is_zero c =
    let parted = by_parts c.args.block.now c.if-block-ne-BLOCK_SIZE.false c.if-count-gt-SLOTS.false in
    sym (parted ∙ rw (sym c.is_zero.ensures ∙ c.if-not-is_zero.true))

pub returns-then-not-is_zero-2 : goal.returns-then-not-is_zero-2
returns-then-not-is_zero-2 c =
    let zeros = sym c.is_zero.ensures ∙ c.if-not-is_zero.false in
    let left = to_check c.args.block.now c.if-block-ne-BLOCK_SIZE.false c.if-count-gt-SLOTS.false zeros in
    sym (left ∙ rw (sym c.is_zero-2.ensures ∙ c.if-not-is_zero-2.true))

pub returns-then-not-check_fits : goal.returns-then-not-check_fits
returns-then-not-check_fits c =
    let zeros = sym c.is_zero.ensures ∙ c.if-not-is_zero.false in
    let more = sym c.is_zero-2.ensures ∙ c.if-not-is_zero-2.false in
    let left = behind_zeros c.args.block.now c.if-block-ne-BLOCK_SIZE.false c.if-count-gt-SLOTS.false zeros more in
    sym (left ∙ rw (sym c.check_fits.ensures ∙ c.if-not-check_fits.true))

pub returns : goal.returns
returns c =
    let zeros = sym c.is_zero.ensures ∙ c.if-not-is_zero.false in
    let more = sym c.is_zero-2.ensures ∙ c.if-not-is_zero-2.false in
    let left = behind_zeros c.args.block.now c.if-block-ne-BLOCK_SIZE.false c.if-count-gt-SLOTS.false zeros more in
    let checked = sym c.check_fits.ensures ∙ c.if-not-check_fits.false in
    c.slots_fit.ensures ∙ sym (left ∙ rw checked)
