-- Laws of reading back: by the block that it is read from, and where the telegram of a slot stands. Assumes nothing.
use mathlib.Core.Path.{◌≡◌, refl, ap, ap₂, sym, ◌∙◌}
use mathlib.Core.Bool.{Bool, true, false, cond}
use mathlib.Core.List.{List, [], ◌∷◌, ◌++◌}
use Prim.Native.Nat.{ℕ, zero, suc, ◌+◌, ◌*◌, ◌-◌, ◌%◌, ◌/◌, ◌≤◌, ◌<◌}
use native.Mathlib.Nat.{add_assoc}
use native.Mathlib.Omega.{arith}
use lib.Dec.{eqb, ltb}
use lib.ListN.{length, take, drop, get_or, replicate, length-append, length-take}
use borrow.Author.Tests.{ltb-true, ltb-false, lt-ltb, le-ltb}
use Rattle.refusals.specs.Refusals.{Outcome, done, refused, unless}
use Rattle.log_rules.specs.Block.{slots, slot_size, count_place, block_size, filled, slot_of}
use Rattle.log_rules.specs.Good.{count_in, telegram_in, telegrams_of, is_good}
use Rattle.log_rules.specs.Region.{blocks_from, is_whole, block_at, blocks_in}
use Rattle.log_rules.specs.ReadBack.{numbered, telegram_at, read_back_of}
use Rattle.log_rules.proofs.PartLaws.{part_of_part, part_first}
use Rattle.log_rules.proofs.BlockLaws.{slot_at, count_telegrams, telegrams_at, kept_count, kept_short, block_shape}
use Rattle.log_rules.proofs.BlockLaws.{good_kept, good_made}
use Rattle.log_rules.proofs.RegionLaws.{blocks_length, blocks_at, block_byte, whole_blocks_law, broken_blocks}

-- the one of a number, if there are so many
numbered_at : {A : Type 0} (n : ℕ) (xs : List A) (otherwise : A) → n < length xs → numbered n xs ≡ done (get_or xs n otherwise)
numbered_at n [] otherwise h = absurd (omega arith)
numbered_at zero (x ∷ xs) otherwise h = refl
numbered_at (suc n) (x ∷ xs) otherwise h = numbered_at n xs otherwise (omega arith)

numbered_past : {A : Type 0} (n : ℕ) (xs : List A) → length xs ≤ n → numbered n xs ≡ refused 27
numbered_past n [] h = refl
numbered_past zero (x ∷ xs) h = absurd (omega arith)
numbered_past (suc n) (x ∷ xs) h = numbered_past n xs (omega arith)

-- the block of a number, if the region has so many
pub block_there : (n at : ℕ) (region : List ℕ) → at < n → numbered at (blocks_from n region) ≡ done (block_at at region)
block_there n at region h =
    numbered_at at (blocks_from n region) [] (omega (arith, blocks_length n region)) ∙ ap done (blocks_at n at region [] h)

pub block_missing : (n at : ℕ) (region : List ℕ) → n ≤ at → numbered at (blocks_from n region) ≡ refused 27
block_missing n at region h = numbered_past at (blocks_from n region) (omega (arith, blocks_length n region))

-- one more behind others: they keep their numbers, and its number is how many they are
pub numbered_kept : {A : Type 0} (n : ℕ) (xs more : List A) (x : A) → numbered n xs ≡ done x → numbered n (xs ++ more) ≡ done x
numbered_kept n [] more x e = let z : ◌≡◌ {A = ℕ} 0 1 = cc in absurd (omega arith)
numbered_kept zero (y ∷ xs) more x e = e
numbered_kept (suc n) (y ∷ xs) more x e = numbered_kept n xs more x e

pub numbered_last : {A : Type 0} (xs : List A) (x : A) → numbered (length xs) (xs ++ x ∷ []) ≡ done x
numbered_last [] x = refl
numbered_last (y ∷ xs) x = numbered_last xs x

-- the telegram in a slot of a good block
pub good_slot : (block : List ℕ) (slot : ℕ) → is_good block ≡ true → telegram_at slot block ≡ numbered slot (telegrams_of block)
unfolding unless
good_slot block slot good = rw good

-- what is read back, by the region's length and the bytes of the block
abbrev read_in : ℕ → List ℕ → ℕ → ℕ → Outcome (List ℕ)
read_in size bytes block slot =
    cond (eqb (size % block_size) 0) (cond (ltb block (size / block_size)) (telegram_at slot bytes) (refused 27)) (refused 19)

read_back_in : (region : List ℕ) (block slot : ℕ)
    → read_back_of region block slot ≡ read_in (length region) (block_at block region) block slot
unfolding read_back_of
read_back_in region block slot = go (is_whole region) refl (ltb block (blocks_in region)) refl
  where
    go : (whole : Bool) → is_whole region ≡ whole → (there : Bool) → ltb block (blocks_in region) ≡ there
        → read_back_of region block slot ≡ read_in (length region) (block_at block region) block slot
    go true e true f = rw (whole_blocks_law region e, block_there (blocks_in region) block region (ltb-true block (blocks_in region) f), e, f)
    go true e false f = rw (whole_blocks_law region e, block_missing (blocks_in region) block region (ltb-false block (blocks_in region) f), e, f)
    go false e there f = rw (broken_blocks region e, e)

-- regions of one length with the same block there read back the same from it
pub read_same : (region other : List ℕ) (block slot : ℕ)
    → length other ≡ length region
    → block_at block other ≡ block_at block region
    → read_back_of other block slot ≡ read_back_of region block slot
read_same region other block slot size there =
    read_back_in other block slot
    ∙ ap₂ (λ n bytes. read_in n bytes block slot) size there
    ∙ sym (read_back_in region block slot)

-- A used slot of a good block.
module _ (block : List ℕ) (slot : ℕ) (good : is_good block ≡ true) (used : slot < count_in block) where
  slot_below : slot < slots
  slot_below = omega (arith, used, count_telegrams block, kept_count (telegrams_of block) (good_kept block good))

  byte_below : get_or block (slot_size * slot) 0 < slot_size
  unfolding slot_of filled
  byte_below =
      let telegrams = telegrams_of block in
      let telegram = get_or telegrams slot [] in
      let kept = good_kept block good in
      let in_slot = take slot_size (drop (slot_size * slot) block) in
      let made : in_slot ≡ slot_of telegram =
      ap (λ bytes. take slot_size (drop (slot_size * slot) bytes)) (good_made block good ∙ block_shape telegrams kept)
      ∙ slot_at telegrams _ slot (kept_short telegrams kept) (omega (arith, used, count_telegrams block)) in
      let first = sym (part_first slot_size (slot_size * slot) block (omega arith)) ∙ ap (λ bytes. get_or bytes 0 0) made in
      omega (
        arith,
        first,
        ap length made,
        length-take slot_size (drop (slot_size * slot) block),
        length-append (length telegram ∷ telegram) (replicate (slot_size - suc (length telegram)) 0),
      )

-- a good block of a whole region
pub record GoodBlock (region : List ℕ) (block : ℕ) : Type 0 where
  pub whole : is_whole region ≡ true
  pub there : block < blocks_in region
  pub good : is_good (block_at block region) ≡ true

-- Each way in which reading back ends, by the tests that the code makes.
module _ (region : List ℕ) (block slot : ℕ) where
  pub not_whole : is_whole region ≡ false → read_back_of region block slot ≡ refused 19
  not_whole broken = read_back_in region block slot ∙ rw broken

  pub no_such_block : is_whole region ≡ true → blocks_in region ≤ block → read_back_of region block slot ≡ refused 27
  no_such_block whole past = read_back_in region block slot ∙ rw (whole, le-ltb block (blocks_in region) past)

  pub from_block : is_whole region ≡ true → block < blocks_in region
      → read_back_of region block slot ≡ telegram_at slot (block_at block region)
  from_block whole there = read_back_in region block slot ∙ rw (whole, lt-ltb block (blocks_in region) there)

  pub bad_block : is_whole region ≡ true → block < blocks_in region → is_good (block_at block region) ≡ false
      → read_back_of region block slot ≡ refused 20
  unfolding unless
  bad_block whole there bad = from_block whole there ∙ rw bad

  module _ (in_good : GoodBlock region block) where
    abbrev bytes : List ℕ
    bytes = block_at block region

    from_slots : read_back_of region block slot ≡ numbered slot (telegrams_of bytes)
    from_slots = from_block in_good.whole in_good.there ∙ good_slot bytes slot in_good.good

    so_many : length (telegrams_of bytes) ≡ get_or region (block_size * block + count_place) 0
    so_many = count_telegrams bytes ∙ block_byte block region count_place (omega arith)

    pub no_such_slot : get_or region (block_size * block + count_place) 0 ≤ slot → read_back_of region block slot ≡ refused 27
    no_such_slot past = from_slots ∙ numbered_past slot (telegrams_of bytes) (omega (arith, so_many))

    -- a used slot: its length byte, and its telegram behind that
    module _ (some : slot < get_or region (block_size * block + count_place) 0) where
      abbrev at : ℕ
      at = block_size * block + slot_size * slot

      abbrev size : ℕ
      size = get_or region at 0

      used : slot < count_in bytes
      used = omega (arith, so_many, count_telegrams bytes, some)

      pub is_slot : slot < slots
      is_slot = slot_below bytes slot in_good.good used

      first : get_or bytes (slot_size * slot) 0 ≡ size
      first = block_byte block region (slot_size * slot) (omega (arith, is_slot))

      short : size < slot_size
      short = omega (arith, first, byte_below bytes slot in_good.good used)

      pub ends_inside : at + 1 + size ≤ length region
      ends_inside = omega (arith, short, is_slot, in_good.there)

      telegram_is : telegram_in (take slot_size (drop (slot_size * slot) bytes)) ≡ take size (drop (at + 1) region)
      unfolding telegram_in
      telegram_is =
          let in_slot = take slot_size (drop (slot_size * slot) bytes) in
          ap (λ n. take n (drop 1 in_slot)) (part_first slot_size (slot_size * slot) bytes (omega arith) ∙ first)
          ∙ part_of_part size 1 slot_size (slot_size * slot) bytes (omega (arith, short))
          ∙ part_of_part size (slot_size * slot + 1) block_size (block_size * block) region (omega (arith, short, is_slot))
          ∙ ap (λ k. take size (drop k region)) (sym (add_assoc (block_size * block) (slot_size * slot) 1))

      pub telegram_there : read_back_of region block slot ≡ done (take size (drop (at + 1) region))
      telegram_there =
          from_slots
          ∙ numbered_at slot (telegrams_of bytes) [] (omega (arith, so_many))
          ∙ ap done (telegrams_at bytes slot used ∙ telegram_is)
