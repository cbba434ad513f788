-- Laws of a region and its blocks: the block of a number, one block after the other, and another block put in. Assumes nothing.
use mathlib.Core.Path.{◌≡◌, refl, ap, ap₂, sym, ◌∙◌}
use mathlib.Core.Bool.{true, false}
use mathlib.Core.List.{List, ◌∷◌, ◌++◌}
use mathlib.Core.Logic.{⊎_elim, inl, inr}
use Prim.Native.Nat.{ℕ, zero, suc, ◌+◌, ◌*◌, ◌-◌, ◌≤◌, ◌<◌}
use native.Mathlib.Omega.{arith}
use lib.ListN.{length, take, drop, get_or, length-append}
use lib.Seq.{take_at, drop_at}
use Rattle.refusals.specs.Refusals.{done, refused, unless}
use Rattle.log_rules.specs.Block.{block_size}
use Rattle.log_rules.specs.Region.{blocks_from, is_whole, whole_blocks, blocks_of, block_at, with_block, blocks_in}
use Rattle.log_rules.proofs.EitherLaws.{lt_or_le, Beside}
use Rattle.log_rules.proofs.PartLaws.{part_byte, part_lent, behind_first, put_length, put_there, put_part, put_byte}

-- so many blocks, and the block of a number
pub blocks_length : (n : ℕ) (region : List ℕ) → length (blocks_from n region) ≡ n
blocks_length zero region = refl
blocks_length (suc n) region = ap suc (blocks_length n (drop block_size region))

pub blocks_at : (n at : ℕ) (region otherwise : List ℕ) → at < n → get_or (blocks_from n region) at otherwise ≡ block_at at region
blocks_at zero at region otherwise h = absurd (omega arith)
blocks_at (suc n) zero region otherwise h = refl
blocks_at (suc n) (suc at) region otherwise h =
    blocks_at n at (drop block_size region) otherwise (omega arith) ∙ ap (take block_size) (behind_first block_size at region)

-- the first of its whole blocks, and those behind it
pub whole_next : (block rest : List ℕ) → length block ≡ block_size → whole_blocks (block ++ rest) ≡ block ∷ whole_blocks rest
whole_next block rest size =
    let one : blocks_in (block ++ rest) ≡ suc (blocks_in rest) = omega (arith, length-append block rest, size) in
    ap (λ n. blocks_from n (block ++ rest)) one
    ∙ ap₂ (λ first behind. first ∷ blocks_from (blocks_in rest) behind) (take_at block rest block_size size) (drop_at block rest block_size size)

-- the part of the region that a program takes for a block, from its first byte up to the next block's
pub block_part : (at : ℕ) (region : List ℕ)
    → take (block_size * at + block_size - block_size * at) (drop (block_size * at) region) ≡ block_at at region
block_part at region = part_lent block_size (block_size * at) region

-- a byte of a block, counted from the region's front
pub block_byte : (number : ℕ) (region : List ℕ) (at : ℕ) → at < block_size
    → get_or (block_at number region) at 0 ≡ get_or region (block_size * number + at) 0
block_byte number region at h = part_byte block_size (block_size * number) region at h

-- a whole region is its blocks
pub whole_blocks_law : (region : List ℕ) → is_whole region ≡ true → blocks_of region ≡ done (blocks_from (blocks_in region) region)
unfolding blocks_of unless
whole_blocks_law region whole = rw whole

pub broken_blocks : (region : List ℕ) → is_whole region ≡ false → blocks_of region ≡ refused 19
unfolding blocks_of unless
broken_blocks region broken = rw broken

-- A region with another block of a number.
module _ (number : ℕ) (bytes region : List ℕ) (there : number < blocks_in region) (size : length bytes ≡ block_size) where
  abbrev start : ℕ
  start = block_size * number

  ends : start + length bytes ≡ start + block_size
  ends = ap (◌+◌ start) size

  fits : start + block_size ≤ length region
  fits = omega arith

  pub with_length : length (with_block number bytes region) ≡ length region
  with_length = put_length start (start + block_size) bytes region ends fits

  pub with_there : block_at number (with_block number bytes region) ≡ bytes
  with_there =
      ap (λ n. take n (drop start (with_block number bytes region))) (sym size)
      ∙ put_there start (start + block_size) bytes region ends fits

  -- no other byte changes, and no other block
  pub with_byte : (at : ℕ) → Beside at start block_size → get_or (with_block number bytes region) at 0 ≡ get_or region at 0
  with_byte at apart = put_byte start (start + block_size) bytes region ends fits at apart

  pub with_other : (other : ℕ) → (other ≡ number → ⊥) → block_at other (with_block number bytes region) ≡ block_at other region
  with_other other apart =
      put_part start (start + block_size) bytes region ends fits block_size (block_size * other)
      (⊎_elim (λ less. inl (omega arith)) (λ more. inr (omega arith)) (lt_or_le other number))
