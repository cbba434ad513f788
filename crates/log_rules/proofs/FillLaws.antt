-- Laws of adds into zeroed blocks: a region that holds a list of telegrams in order, 15 a block, and one more. Assumes nothing.
use mathlib.Core.Path.{◌≡◌, refl, ap, ap₂, sym, ◌∙◌}
use mathlib.Core.Bool.{Bool, true, false}
use mathlib.Core.List.{List, [], ◌∷◌, ◌++◌, append_assoc}
use mathlib.Core.Logic.{⊎_elim}
use Prim.Native.Nat.{ℕ, zero, suc, ◌+◌, ◌*◌, ◌%◌, ◌/◌, ◌≤◌, ◌<◌}
use native.Mathlib.Nat.{zero-add}
use native.Mathlib.Omega.{arith}
use lib.ListN.{length, take, drop, replicate, length-append, length-take, length-drop}
use lib.ListN.{replicate-append-replicate, drop_of_length-le}
use lib.Seq.{take_all, take_at, drop_at, take-append-le, drop-append-le, take-append-add, drop-append-add, length-take-le}
use borrow.Author.Tests.{lt-ltb, le-ltb, eq-eqb}
use Rattle.refusals.specs.Refusals.{done, refused}
use Rattle.log_rules.specs.declared.Place.{Place}
use Rattle.log_rules.specs.Block.{slots, block_size, block_of}
use Rattle.log_rules.specs.Good.{count_in, telegrams_of, reads_well, all_read_well, is_kept, is_good}
use Rattle.log_rules.specs.Region.{blocks_from, block_at, with_block}
use Rattle.log_rules.specs.Add.{place_at, some_used, free_behind_used, place_in, place_for, entered, add_of}
use Rattle.log_rules.proofs.EitherLaws.{lt_or_le}
use Rattle.log_rules.proofs.PlaceLaws.{none_used, place_whole}
use Rattle.log_rules.proofs.BlockLaws.{all_take, all_drop, kept_by, none_kept, zeroed_made}
use Rattle.log_rules.proofs.BlockLaws.{made_length, made_count, made_telegrams, made_good}
use Rattle.log_rules.proofs.AddLaws.{add_is, reads_place}

-- so many blocks that hold the telegrams in order, as many as they have slots for
pub packed : ℕ → List (List ℕ) → List ℕ
packed zero telegrams = []
packed (suc blocks) telegrams = block_of (take slots telegrams) ++ packed blocks (drop slots telegrams)

abbrev packed_blocks : ℕ → List (List ℕ) → List (List ℕ)
packed_blocks zero telegrams = []
packed_blocks (suc blocks) telegrams = block_of (take slots telegrams) ∷ packed_blocks blocks (drop slots telegrams)

-- the first telegrams make a block
first_kept : (telegrams : List (List ℕ)) → all_read_well telegrams ≡ true → is_kept (take slots telegrams) ≡ true
first_kept telegrams all =
    kept_by (take slots telegrams) (omega (arith, length-take slots telegrams)) (all_take slots telegrams all)

first_length : (telegrams : List (List ℕ)) → all_read_well telegrams ≡ true → length (block_of (take slots telegrams)) ≡ block_size
first_length telegrams all = made_length (take slots telegrams) (first_kept telegrams all)

-- a region of zeros holds none
pub zeroed_packed : (blocks : ℕ) → replicate (block_size * blocks) 0 ≡ packed blocks []
unfolding packed
zeroed_packed zero = refl
zeroed_packed (suc blocks) =
    let more : block_size * suc blocks ≡ block_size + block_size * blocks = omega arith in
    ap (λ n. replicate {A = ℕ} n 0) more
    ∙ sym (replicate-append-replicate block_size (block_size * blocks) 0)
    ∙ ap₂ ◌++◌ zeroed_made (zeroed_packed blocks)

-- so many blocks there are
packed_length : (blocks : ℕ) (telegrams : List (List ℕ)) → all_read_well telegrams ≡ true
    → length (packed blocks telegrams) ≡ block_size * blocks
unfolding packed
packed_length zero telegrams all = refl
packed_length (suc blocks) telegrams all =
    omega (
      arith,
      length-append (block_of (take slots telegrams)) (packed blocks (drop slots telegrams)),
      first_length telegrams all,
      packed_length blocks (drop slots telegrams) (all_drop slots telegrams all),
    )

packed_from : (blocks : ℕ) (telegrams : List (List ℕ)) → all_read_well telegrams ≡ true
    → blocks_from blocks (packed blocks telegrams) ≡ packed_blocks blocks telegrams
unfolding packed
packed_from zero telegrams all = refl
packed_from (suc blocks) telegrams all =
    let first = block_of (take slots telegrams) in
    let rest = packed blocks (drop slots telegrams) in
    ap₂ ◌∷◌
    (take_at first rest block_size (first_length telegrams all))
    (ap (blocks_from blocks) (drop_at first rest block_size (first_length telegrams all))
    ∙ packed_from blocks (drop slots telegrams) (all_drop slots telegrams all))

-- the place in it is the one that its blocks give
packed_place : (blocks : ℕ) (telegrams : List (List ℕ)) → all_read_well telegrams ≡ true
    → place_in (packed blocks telegrams) ≡ free_behind_used 0 (packed_blocks blocks telegrams)
packed_place blocks telegrams all =
    let region = packed blocks telegrams in
    let size = packed_length blocks telegrams all in
    let none_left : length region % block_size ≡ 0 = omega arith in
    let so_many : length region / block_size ≡ blocks = omega arith in
    place_whole region (eq-eqb (length region % block_size) 0 none_left)
    ∙ ap (λ n. free_behind_used 0 (blocks_from n region)) so_many
    ∙ ap (free_behind_used 0) (packed_from blocks telegrams all)

-- the search for a place passes a full block
skip_full : (number : ℕ) (block : List ℕ) (blocks : List (List ℕ)) → slots ≤ count_in block → is_good block ≡ true
    → free_behind_used number (block ∷ blocks) ≡ free_behind_used (suc number) blocks
skip_full number block blocks full good = go (some_used blocks) refl
  where
    go : (used : Bool) → some_used blocks ≡ used → free_behind_used number (block ∷ blocks) ≡ free_behind_used (suc number) blocks
    go true e = rw e
    go false e = rw (e, good, le-ltb (count_in block) slots full) (sym (none_used (suc number) blocks e))

unused : (blocks : ℕ) → some_used (packed_blocks blocks []) ≡ false
unused zero = refl
unused (suc blocks) = rw (made_good [] none_kept, made_count [] none_kept) (unused blocks)

-- A first block that is full, and the telegrams behind it.
module _ (telegrams : List (List ℕ)) (all : all_read_well telegrams ≡ true) (full : slots ≤ length telegrams) where
  first_full : (number : ℕ) (blocks : List (List ℕ))
      → free_behind_used number (block_of (take slots telegrams) ∷ blocks) ≡ free_behind_used (suc number) blocks
  first_full number blocks =
      let kept = first_kept telegrams all in
      skip_full number (block_of (take slots telegrams)) blocks
      (omega (arith, made_count (take slots telegrams) kept, length-take-le slots telegrams full))
      (made_good (take slots telegrams) kept)

  others : slots + length (drop slots telegrams) ≡ length telegrams
  others = omega (arith, length-drop slots telegrams)

-- A first block with a free slot is the last used one.
module _ (telegrams : List (List ℕ)) (all : all_read_well telegrams ≡ true) (few : length telegrams < slots) where
  only : take slots telegrams ≡ telegrams
  only = take_all slots telegrams (omega arith)

  no_others : drop slots telegrams ≡ []
  no_others = drop_of_length-le telegrams {i = slots} (omega arith)

  -- and it has room for one more
  module _ (telegram : List ℕ) where
    fits : length (telegrams ++ telegram ∷ []) ≤ slots
    fits = omega (arith, length-append telegrams (telegram ∷ []))

    only_more : telegrams_of (block_of (take slots telegrams)) ++ telegram ∷ [] ≡ take slots (telegrams ++ telegram ∷ [])
    only_more =
        ap (λ held. held ++ telegram ∷ []) (made_telegrams (take slots telegrams) (first_kept telegrams all) ∙ only)
        ∙ sym (take_all slots (telegrams ++ telegram ∷ []) fits)

    no_others_more : drop slots telegrams ≡ drop slots (telegrams ++ telegram ∷ [])
    no_others_more = no_others ∙ sym (drop_of_length-le (telegrams ++ telegram ∷ []) {i = slots} fits)

  first_free_law : (number blocks : ℕ)
      → free_behind_used number (packed_blocks (suc blocks) telegrams) ≡ done (place_at number (length telegrams))
  first_free_law number blocks =
      let kept : is_kept telegrams ≡ true = rw only at (first_kept telegrams all) in
      let room = lt-ltb (length telegrams) slots few in
      rw (only, no_others, unused blocks, made_good telegrams kept, made_count telegrams kept, room)

-- the place behind so many, in blocks that are numbered from a number on
abbrev place_behind : ℕ → ℕ → Place
place_behind number count = place_at (number + count / slots) (count % slots)

free_packed : (blocks number : ℕ) (telegrams : List (List ℕ)) → all_read_well telegrams ≡ true → length telegrams < slots * blocks
    → free_behind_used number (packed_blocks blocks telegrams) ≡ done (place_behind number (length telegrams))
free_packed zero number telegrams all room = absurd (omega arith)
free_packed (suc blocks) number telegrams all room =
    ⊎_elim
    (λ few.
    let here : number ≡ number + length telegrams / slots = omega arith in
    let slot : length telegrams ≡ length telegrams % slots = omega arith in
    first_free_law telegrams all few number blocks ∙ ap₂ (λ b k. done (place_at b k)) here slot)
    (λ full.
    let behind = drop slots telegrams in
    let size = others telegrams all full in
    let there : suc number + length behind / slots ≡ number + length telegrams / slots = omega arith in
    let slot : length behind % slots ≡ length telegrams % slots = omega arith in
    first_full telegrams all full number (packed_blocks blocks behind)
    ∙ free_packed blocks (suc number) behind (all_drop slots telegrams all) (omega arith)
    ∙ ap₂ (λ b k. done (place_at b k)) there slot)
    (lt_or_le (length telegrams) slots)

full_packed : (blocks number : ℕ) (telegrams : List (List ℕ)) → all_read_well telegrams ≡ true → length telegrams ≡ slots * blocks
    → free_behind_used number (packed_blocks blocks telegrams) ≡ refused 21
full_packed zero number telegrams all none = refl
full_packed (suc blocks) number telegrams all size =
    let full : slots ≤ length telegrams = omega arith in
    let behind = drop slots telegrams in
    first_full telegrams all full number (packed_blocks blocks behind)
    ∙ full_packed blocks (suc number) behind (all_drop slots telegrams all) (omega (arith, others telegrams all full))

-- a region with one telegram more in the block of a number
abbrev enters : ℕ → List ℕ → List ℕ → List ℕ
enters number region telegram = with_block number (entered (block_at number region) telegram) region

-- the first block, or one behind it
module _ (first rest telegram : List ℕ) (size : length first ≡ block_size) where
  enters_first : enters 0 (first ++ rest) telegram ≡ entered first telegram ++ rest
  enters_first =
      ap₂ (λ block on. entered block telegram ++ on) (take_at first rest block_size size) (drop_at first rest block_size size)

  enters_next : (number : ℕ) → enters (suc number) (first ++ rest) telegram ≡ first ++ enters number rest telegram
  enters_next number =
      let start : block_size * suc number ≡ length first + block_size * number = omega arith in
      let end : block_size * suc number + block_size ≡ length first + (block_size * number + block_size) = omega arith in
      let before = ap (λ n. take n (first ++ rest)) start ∙ take-append-add first rest (block_size * number) in
      let there = ap (λ n. drop n (first ++ rest)) start ∙ drop-append-add first rest (block_size * number) in
      let behind = ap (λ n. drop n (first ++ rest)) end ∙ drop-append-add first rest (block_size * number + block_size) in
      (λ i. before i ++ (entered (take block_size (there i)) telegram ++ behind i))
      ∙ append_assoc first (take (block_size * number) rest)
      (entered (block_at number rest) telegram ++ drop (block_size * number + block_size) rest)

-- one telegram more in the block that has the next slot
packed_more : (blocks : ℕ) (telegrams : List (List ℕ)) (telegram : List ℕ) → all_read_well telegrams ≡ true
    → length telegrams < slots * blocks
    → enters (length telegrams / slots) (packed blocks telegrams) telegram ≡ packed blocks (telegrams ++ telegram ∷ [])
unfolding packed
packed_more zero telegrams telegram all room = absurd (omega arith)
packed_more (suc blocks) telegrams telegram all room =
    let first = block_of (take slots telegrams) in
    let behind = drop slots telegrams in
    let rest = packed blocks behind in
    let size = first_length telegrams all in
    ⊎_elim
    (λ few.
    let number : length telegrams / slots ≡ 0 = omega arith in
    let here = only_more telegrams all few telegram in
    let on = no_others_more telegrams all few telegram in
    ap (λ n. enters n (first ++ rest) telegram) number
    ∙ enters_first first rest telegram size
    ∙ (λ i. block_of (here i) ++ packed blocks (on i)))
    (λ full.
    let left = others telegrams all full in
    let number : length telegrams / slots ≡ suc (length behind / slots) = omega arith in
    let here = take-append-le slots telegrams (telegram ∷ []) full in
    let on = drop-append-le slots telegrams (telegram ∷ []) full in
    ap (λ n. enters n (first ++ rest) telegram) number
    ∙ enters_next first rest telegram size (length behind / slots)
    ∙ ap (◌++◌ first) (packed_more blocks behind telegram (all_drop slots telegrams all) (omega arith))
    ∙ sym (λ i. block_of (here i) ++ packed blocks (on i)))
    (lt_or_le (length telegrams) slots)

-- An add into such a region.
module _ (blocks : ℕ) (telegrams : List (List ℕ)) (telegram : List ℕ) (all : all_read_well telegrams ≡ true)
    (reads : reads_well telegram ≡ true) where
  its_place : place_for (packed blocks telegrams) telegram ≡ free_behind_used 0 (packed_blocks blocks telegrams)
  its_place = reads_place (packed blocks telegrams) telegram reads ∙ packed_place blocks telegrams all

  pub no_place : length telegrams ≡ slots * blocks → place_for (packed blocks telegrams) telegram ≡ refused 21
  no_place full = its_place ∙ full_packed blocks 0 telegrams all full

  next_place : length telegrams < slots * blocks
      → place_for (packed blocks telegrams) telegram ≡ done (place_at (length telegrams / slots) (length telegrams % slots))
  next_place room =
      its_place
      ∙ free_packed blocks 0 telegrams all room
      ∙ ap (λ b. done (place_at b (length telegrams % slots))) (zero-add (length telegrams / slots))

  pub add_packed : length telegrams < slots * blocks
      → add_of (packed blocks telegrams) telegram
      ≡ (done (place_at (length telegrams / slots) (length telegrams % slots)), packed blocks (telegrams ++ telegram ∷ []))
  add_packed room =
      add_is (packed blocks telegrams) telegram (next_place room)
      ∙ ap (λ left. (done (place_at (length telegrams / slots) (length telegrams % slots)), left))
      (packed_more blocks telegrams telegram all room)
