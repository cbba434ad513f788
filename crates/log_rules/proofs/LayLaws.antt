-- A telegram laid into the slot that is lent, and the block come back with it. Assumes nothing.
use mathlib.Core.Path.{◌≡◌, ap, ap₂, ◌∙◌}
use mathlib.Core.Bool.{true}
use mathlib.Core.List.{List, ◌++◌}
use Prim.Native.Nat.{ℕ, ◌+◌, ◌*◌, ◌-◌, ◌<◌, min}
use native.Mathlib.Omega.{arith}
use lib.ListN.{length, take, drop, set}
use borrow.Rule.Slice.PartMut.{put_mid}
use Rattle.lent_buffer.proofs.TailLaws.{tail_lent, tail_back}
use Rattle.log_rules.specs.Block.{slots, slot_size, count_place, check_place, block_size, sealed}
use Rattle.log_rules.specs.Good.{count_in, reads_well, is_good}
use Rattle.log_rules.specs.Add.{entered}
use Rattle.log_rules.proofs.BlockLaws.{good_length}
use Rattle.log_rules.proofs.EnterLaws.{laid_into, laid, laid_length, laid_body}

-- The part behind the used slots is lent, and comes back with the telegram laid into it.
module _ (block telegram : List ℕ) (good : is_good block ≡ true) (free : count_in block < slots) (reads : reads_well telegram ≡ true)
    (slot : ℕ) (part : List ℕ) (at : slot ≡ count_in block)
    (lies : part ≡ laid_into telegram (take (length block - slot_size * slot) (drop (slot_size * slot) block))) where
  abbrev start : ℕ
  start = slot_size * slot

  abbrev back : List ℕ
  back = put_mid start (length block - start) block part

  come_back : back ≡ laid block telegram good free reads
  come_back =
      let there : start ≡ min start (length block) = omega (arith, at, free, good_length block good) in
      tail_back start block start part there
      ∙ ap (◌++◌ (take start block)) (lies ∙ ap (laid_into telegram) (tail_lent start block start there))
      ∙ ap (λ n. take (slot_size * n) block ++ laid_into telegram (drop (slot_size * n) block)) at

  pub back_length : length back ≡ block_size
  back_length = ap length come_back ∙ laid_length block telegram good free reads

  pub sealed_again : sealed (take check_place (set back count_place (slot + 1))) ≡ entered block telegram
  sealed_again =
      ap₂ (λ b n. sealed (take check_place (set b count_place (n + 1)))) come_back at
      ∙ ap sealed (laid_body block telegram good free reads)
