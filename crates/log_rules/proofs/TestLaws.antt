-- The tests of a block, part by part, are the definition of a good one. Assumes nothing.
use mathlib.Core.Path.{◌≡◌, refl, ap, ap₂, sym, ◌∙◌}
use mathlib.Core.Bool.{Bool, true, false, ◌&&◌, not-eq-not, and-false}
use mathlib.Core.List.{List, [], ◌∷◌, ◌++◌}
use Prim.Native.Nat.{ℕ, suc, ◌*◌, ◌-◌, ◌≤◌, ◌<◌}
use native.Mathlib.Omega.{arith}
use lib.ListN.{length, take, drop}
use lib.Seq.{length-take-le, drop-cons, take-take}
use borrow.Author.Tests.{le-leb, lt-leb, eq-eqb}
use Rattle.log_rules.specs.Check.{check_of, low_first}
use Rattle.log_rules.specs.Block.{slots, slot_size, count_place, check_place, block_size, filled, slots_of, body_of, sealed}
use Rattle.log_rules.specs.Good.{count_in, telegrams_from, telegrams_of, all_read_well, same, is_kept, is_good}
use Rattle.log_rules.specs.Tests.{all_zero, slots_fit, check_fits}
use Rattle.log_rules.proofs.PartLaws.{drop_take}
use Rattle.log_rules.proofs.SameLaws.{same_true, same_append, same_filled}
use Rattle.log_rules.proofs.BlockLaws.{AllShort, length_slots, count_telegrams, length_slot_part, length_counted}
use Rattle.log_rules.proofs.BlockLaws.{length_body_of, good_length}
use Rattle.log_rules.proofs.SlotLaws.{and_where, short_from, slots_fit_law}

-- zeros behind the used slots, and behind the count
abbrev pub zeros_to_count : List ℕ → Bool
zeros_to_count block = all_zero (take (count_place - slot_size * count_in block) (drop (slot_size * count_in block) block))

abbrev pub zeros_to_check : List ℕ → Bool
zeros_to_check block = all_zero (take 29 (drop (suc count_place) block))

-- the order of the tests
reordered : (read slots gap behind check : Bool)
    → (read && ((((slots && gap) && true) && behind) && check)) ≡ (gap && (behind && (check && (read && slots))))
reordered true true true true true = refl
reordered true true true true false = refl
reordered true true true false check = refl
reordered true true false behind check = refl
reordered true false gap behind check = rw (and-false check, and-false behind, and-false gap)
reordered false slots gap behind check = rw (and-false check, and-false behind, and-false gap)

-- A block of 512 bytes that says it uses at most 15 slots.
module _ (block : List ℕ) (size : length block ≡ block_size) (few : count_in block ≤ slots) where
  abbrev telegrams : List (List ℕ)
  telegrams = telegrams_from (count_in block) block

  abbrev end : ℕ
  end = slot_size * count_in block

  abbrev slot_part : List ℕ
  slot_part = filled count_place (slots_of telegrams)

  abbrev counted : List ℕ
  counted = slot_part ++ length telegrams ∷ []

  abbrev used : Bool
  used = same (take end block) (slots_of telegrams)

  how_many : length telegrams ≡ count_in block
  unfolding telegrams_of
  how_many = count_telegrams block

  short : AllShort telegrams
  short = short_from (count_in block) block (omega (arith, few, size))

  at_most : length telegrams ≤ slots
  at_most = omega (arith, how_many, few)

  -- its parts: the slots, the count, zeros
  slots_same : same (take count_place block) slot_part ≡ (used && zeros_to_count block)
  slots_same =
      let bytes = slots_of telegrams in
      let long : length bytes ≡ end = omega (arith, length_slots telegrams short, how_many) in
      same_filled count_place (take count_place block) bytes (length-take-le count_place block (omega (arith, size)))
      ∙ ap (λ n. same (take n (take count_place block)) bytes && all_zero (drop n (take count_place block))) long
      ∙ ap₂ (λ f b. same f bytes && all_zero b)
      (take-take end count_place block (omega (arith, few)))
      (drop_take end count_place block)

  count_same : same (take 1 (drop count_place block)) (length telegrams ∷ []) ≡ true
  count_same =
      ap (λ bytes. same (take 1 bytes) (length telegrams ∷ [])) (drop-cons block count_place 0 (omega (arith, size)))
      ∙ ap (λ t. t && true) (eq-eqb (count_in block) (length telegrams) (sym how_many))

  counted_same : same (take (suc count_place) block) counted ≡ ((used && zeros_to_count block) && true)
  counted_same =
      let part = take (suc count_place) block in
      same_append part slot_part (length telegrams ∷ [])
      ∙ ap (λ n. same (take n part) slot_part && same (drop n part) (length telegrams ∷ []))
      (length_slot_part telegrams at_most short)
      ∙ ap₂ ◌&&◌
      (ap (λ f. same f slot_part) (take-take count_place (suc count_place) block (omega arith)) ∙ slots_same)
      (ap (λ b. same b (length telegrams ∷ [])) (drop_take count_place (suc count_place) block) ∙ count_same)

  body_same : same (take check_place block) (body_of telegrams) ≡ (((used && zeros_to_count block) && true) && zeros_to_check block)
  unfolding body_of
  body_same =
      let part = take check_place block in
      same_filled check_place part counted (length-take-le check_place block (omega (arith, size)))
      ∙ ap (λ n. same (take n part) counted && all_zero (drop n part)) (length_counted telegrams at_most short)
      ∙ ap₂ (λ f b. same f counted && all_zero b)
      (take-take (suc count_place) check_place block (omega arith))
      (drop_take (suc count_place) check_place block)
      ∙ ap (λ s. s && zeros_to_check block) counted_same

  -- and the check: where what stands before it is the same, it is the check of that
  block_same : same block (sealed (body_of telegrams)) ≡ (same (take check_place block) (body_of telegrams) && check_fits block)
  unfolding sealed check_fits
  block_same =
      let body = body_of telegrams in
      same_append block body (low_first (check_of body))
      ∙ ap (λ n. same (take n block) body && same (drop n block) (low_first (check_of body)))
      (length_body_of telegrams at_most short)
      ∙ and_where (same (take check_place block) body) (same (drop check_place block) (low_first (check_of body))) (check_fits block)
      (λ e. ap (λ b. same (drop check_place block) (low_first (check_of b))) (sym (same_true (take check_place block) body e)))

  pub by_parts : is_good block
      ≡ (zeros_to_count block && (zeros_to_check block && (check_fits block && slots_fit (count_in block) block)))
  unfolding is_good is_kept telegrams_of
  by_parts =
      rw (le-leb (length telegrams) slots at_most)
      (ap (λ s. all_read_well telegrams && s) (block_same ∙ ap (λ s. s && check_fits block) body_same)
      ∙ reordered (all_read_well telegrams) used (zeros_to_count block) (zeros_to_check block) (check_fits block)
      ∙ ap (λ s. zeros_to_count block && (zeros_to_check block && (check_fits block && s)))
      (slots_fit_law (count_in block) block (omega (arith, few, size))))

-- a block of another size is bad, and so is one that says it uses more than 15 slots
pub bad_size : (block : List ℕ) → (length block ≡ block_size → ⊥) → is_good block ≡ false
bad_size block apart = (not-eq-not {a = is_good block} {b = false}).0 (λ good. apart (good_length block good))

pub bad_count_law : (block : List ℕ) → slots < count_in block → is_good block ≡ false
unfolding is_good is_kept
bad_count_law block many = rw (lt-leb (length (telegrams_of block)) slots (omega (arith, count_telegrams block, many)))
