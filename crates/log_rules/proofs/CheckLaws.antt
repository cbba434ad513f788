-- Laws of a block's check: its sum needs no more than 32 bits, and any changed byte is noticed. Assumes nothing.
use mathlib.Core.Path.{◌≡◌, refl, ap, ap₂, sym, ◌∙◌}
use mathlib.Core.Bool.{true, false, not-eq-not}
use mathlib.Core.List.{List, [], ◌∷◌, ◌++◌}
use mathlib.Core.Logic.{⊎_elim}
use Prim.Native.Nat.{ℕ, zero, suc, ◌+◌, ◌*◌, ◌-◌, ◌%◌, ◌≤◌, ◌<◌}
use native.Mathlib.Omega.{arith}
use native.Mathlib.Nat.{zero-add, add-zero, mul-le-mul, mul-le-mul_right, mul-pos, mul-mod_right}
use native.Mathlib.Numerals.{add-one}
use lib.Dec.{ltb}
use lib.ListN.{length, take, drop, get_or, set, take-append-drop}
use lib.Seq.{length-take-le, take-suc, take_at, drop_at, take-set-le, take-set-lt, drop-set-lt, get_or-take, get_or-set_same}
use borrow.Author.Tests.{ltb-true}
use Rattle.refusals.proofs.Tables.{below}
use Rattle.log_rules.specs.Check.{weighed, modulus, check_of, low_first}
use Rattle.log_rules.specs.Block.{check_place, block_size, body_of, sealed}
use Rattle.log_rules.specs.Good.{telegrams_of, is_good}
use Rattle.log_rules.specs.OfABlock.{AnyChangedByteIsNoticed, AllBytes, TheSumNeedsNoMoreThan32Bits, reduced_each, OneReductionAtTheEndIsEnough}
use Rattle.log_rules.proofs.EitherLaws.{lt_or_le}
use Rattle.log_rules.proofs.BlockLaws.{body_length, good_kept, good_made, good_length}

-- ---- the sum

weighed_append : (place : ℕ) (xs ys : List ℕ) → weighed place (xs ++ ys) ≡ weighed place xs + weighed (place + length xs) ys
weighed_append place [] ys = ap (λ p. weighed p ys) (sym (add-zero place)) ∙ sym (zero-add _)
weighed_append place (x ∷ xs) ys =
    let next : suc place + length xs ≡ place + suc (length xs) = omega arith in
    omega (arith, weighed_append (suc place) xs ys, ap (λ p. weighed p ys) next)

-- one byte more
pub weighed_next : (bytes : List ℕ) (at : ℕ) → at < length bytes
    → weighed 1 (take (at + 1) bytes) ≡ weighed 1 (take at bytes) + get_or bytes at 0 * (at + 1)
weighed_next bytes at h =
    let place : 1 + length (take at bytes) ≡ at + 1 = omega (arith, length-take-le at bytes (omega arith)) in
    ap (weighed 1) (ap (λ n. take n bytes) (add-one at) ∙ take-suc bytes at 0 h)
    ∙ weighed_append 1 (take at bytes) (get_or bytes at 0 ∷ [])
    ∙ ap (λ p. weighed 1 (take at bytes) + (get_or bytes at 0 * p + 0)) place
    ∙ omega arith

-- another byte at a place: the sum changes by the difference times the place
weighed_set : (place : ℕ) (bytes : List ℕ) (at byte : ℕ) → at < length bytes
    → weighed place (set bytes at byte) + get_or bytes at 0 * (place + at) ≡ weighed place bytes + byte * (place + at)
weighed_set place [] at byte h = absurd (omega arith)
weighed_set place (x ∷ xs) zero byte h = omega arith
weighed_set place (x ∷ xs) (suc at) byte h = omega (arith, weighed_set (suc place) xs at byte (omega arith))

-- a byte times its place
pub weight_small : (byte place : ℕ) → byte < 256 → place ≤ check_place → byte * place ≤ 255 * check_place
weight_small byte place b p = mul-le-mul {n₁ = byte} {m₁ = place} {n₂ = 255} {m₂ = check_place} (omega arith) p

-- twice the sum is at most 255 times n · (n + 2 · place - 1), for n bytes
sum_small : (place : ℕ) (bytes : List ℕ) → AllBytes bytes
    → 2 * weighed place bytes + 255 * length bytes ≤ 255 * (length bytes * (length bytes + 2 * place))
sum_small place [] all = omega arith
sum_small place (byte ∷ bytes) all =
    omega (arith, sum_small (suc place) bytes all.1, mul-le-mul_right {m = byte} {n = 255} place (omega (arith, all.0)))

pub the_sum_fits : TheSumNeedsNoMoreThan32Bits
the_sum_fits body all short =
    let bound : weighed 1 body ≤ 33227775 = omega (arith, sum_small 1 body all, mul-le-mul_right (length body) short) in
    (omega (arith, bound), omega (arith, bound))

reduced : (place : ℕ) (body : List ℕ) → weighed place body % modulus ≡ reduced_each place body
reduced place [] = refl
reduced place (byte ∷ bytes) =
    let here = byte * place in
    let rest = weighed (suc place) bytes in
    let once : (here + rest) % modulus ≡ (here + rest % modulus) % modulus = omega arith in
    once ∙ ap (λ n. (here + n) % modulus) (reduced (suc place) bytes)

pub one_reduction_is_enough : OneReductionAtTheEndIsEnough
unfolding check_of
one_reduction_is_enough body = reduced 1 body

-- ---- the check

-- its two bytes tell it
low_first_tells : (m n : ℕ) → low_first m ≡ low_first n → m ≡ n
low_first_tells m n e = omega (arith, ap (λ l. get_or l 0 0) e, ap (λ l. get_or l 1 0) e)

-- no number from 2 to 255 divides 65,521
undivided : (n : ℕ) → n < 254 → 0 < modulus % suc (suc n)
undivided n h = ltb-true _ _ (below 254 (λ k. ltb 0 (modulus % suc (suc k))) refl n h)

-- so a byte's difference times its place is never 65,521
not_the_modulus : (difference place : ℕ) → difference < 256 → place ≤ check_place → difference * place ≡ modulus → ⊥
not_the_modulus zero place d p e = omega arith
not_the_modulus (suc zero) place d p e = omega arith
not_the_modulus (suc (suc n)) place d p e =
    omega (arith, undivided n (omega arith), ap (λ m. m % suc (suc n)) (sym e) ∙ mul-mod_right (suc (suc n)) place)

-- nor twice that or more: sums that differ by it have other checks
apart : (more less byte difference place : ℕ) → 0 < difference → byte + difference < 256 → 0 < place → place ≤ check_place
    → more + byte * place ≡ less + (byte + difference) * place → more % modulus ≡ less % modulus → ⊥
apart more less byte difference place some small first p e same =
    let positive : 0 < difference * place = mul-pos some first in
    let small_weight = weight_small difference place (omega arith) p in
    not_the_modulus difference place (omega arith) p (omega arith)

-- the same for two bytes
checks_differ : (more less lower higher place : ℕ) → lower < higher → higher < 256 → 0 < place → place ≤ check_place
    → more + lower * place ≡ less + higher * place → more % modulus ≡ less % modulus → ⊥
checks_differ more less lower higher place l h first p e same =
    let sum : higher ≡ lower + (higher - lower) = omega arith in
    apart more less lower (higher - lower) place (omega arith) (omega arith) first p (e ∙ ap (λ n. less + n * place) sum) same

-- the body with another byte has another check
other_check : (body : List ℕ) (place byte : ℕ)
    → place < length body → place < check_place → get_or body place 0 < 256 → byte < 256 → (byte ≡ get_or body place 0 → ⊥)
    → check_of (set body place byte) ≡ check_of body → ⊥
unfolding check_of
other_check body place byte inside p old new other same =
    let moved = weighed_set 1 body place byte inside in
    ⊎_elim
    (λ less.
    checks_differ _ _ byte (get_or body place 0) (1 + place) less old (omega arith) (omega arith) (sym moved) (sym same))
    (λ least.
    checks_differ _ _ (get_or body place 0) byte (1 + place) (omega arith) new (omega arith) (omega arith) moved same)
    (lt_or_le byte (get_or body place 0))

-- ---- the stored check

-- the last two bytes are the check of those before them
abbrev Stored : List ℕ → Type 0
Stored block = drop check_place block ≡ low_first (check_of (take check_place block))

good_stored : (block : List ℕ) → is_good block ≡ true → Stored block
unfolding sealed
good_stored block good =
    let body = body_of (telegrams_of block) in
    let made : block ≡ body ++ low_first (check_of body) = good_made block good in
    let size = body_length (telegrams_of block) (good_kept block good) in
    let front : take check_place block ≡ body = ap (take check_place) made ∙ take_at body _ check_place size in
    ap (drop check_place) made ∙ drop_at body _ check_place size ∙ ap (λ b. low_first (check_of b)) (sym front)

-- with one byte changed it is not stored any more
module _ (block : List ℕ) (place byte : ℕ) (size : length block ≡ block_size) (there : place < block_size)
    (old : get_or block place 0 < 256) (new : byte < 256) (other : byte ≡ get_or block place 0 → ⊥)
    (was : Stored block) (is : Stored (set block place byte)) where
  -- a byte before the check: what is stored stays, and the check does not
  before_it : place < check_place → ⊥
  before_it p =
      let body = take check_place block in
      let here : get_or body place 0 ≡ get_or block place 0 = get_or-take check_place block place 0 p in
      let inside : place < length body = omega (arith, length-take-le check_place block (omega arith)) in
      let front : take check_place (set block place byte) ≡ set body place byte = take-set-lt check_place block place byte p in
      let stays : low_first (check_of (set body place byte)) ≡ low_first (check_of body) =
      ap (λ b. low_first (check_of b)) (sym front) ∙ sym is ∙ drop-set-lt check_place block place byte p ∙ was in
      other_check body place byte inside p (omega arith) new (λ e. other (e ∙ here)) (low_first_tells _ _ stays)

  -- a byte of the check: what stands before it stays, and so does what is to be stored
  in_it : check_place ≤ place → ⊥
  in_it p =
      let front : take check_place (set block place byte) ≡ take check_place block = take-set-le check_place block place byte p in
      let same : set block place byte ≡ block =
      sym (take-append-drop check_place (set block place byte))
      ∙ ap₂ (λ a b. a ++ b) front (is ∙ ap (λ b. low_first (check_of b)) front ∙ sym was)
      ∙ take-append-drop check_place block in
      other (sym (get_or-set_same block place byte 0 (omega arith)) ∙ ap (λ b. get_or b place 0) same)

  not_stored : ⊥
  not_stored = ⊎_elim before_it in_it (lt_or_le place check_place)

pub noticed : AnyChangedByteIsNoticed
noticed block place byte good there old new other =
    (not-eq-not {a = is_good (set block place byte)} {b = false}).0
    (λ still.
    not_stored block place byte (good_length block good) there old new other (good_stored block good) (good_stored _ still))
