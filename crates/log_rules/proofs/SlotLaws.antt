-- The tests of a used slot, part by part, and of so many of them are the definition of those that fit. Assumes nothing.
use mathlib.Core.Path.{◌≡◌, refl, ap, ap₂, sym, ◌∙◌}
use mathlib.Core.Bool.{Bool, true, false, ◌&&◌, not-eq-not, and-false}
use mathlib.Core.List.{List, [], ◌∷◌}
use Prim.Native.Nat.{ℕ, zero, suc, ◌+◌, ◌*◌, ◌-◌, ◌≤◌, ◌<◌}
use native.Mathlib.Numerals.{add-one}
use native.Mathlib.Omega.{arith}
use lib.ListN.{length, take, drop, get_or, length-take, length-drop}
use lib.Seq.{length-take-le, take_all, take-take}
use Rattle.log_rules.specs.Block.{slot_size, filled, slot_of, slots_of}
use Rattle.log_rules.specs.Good.{telegram_in, telegrams_from, reads_well, all_read_well, same}
use Rattle.log_rules.specs.Tests.{all_zero, slot_fits, slots_fit}
use Rattle.log_rules.proofs.PartLaws.{drop_take}
use Rattle.log_rules.proofs.SameLaws.{same_true, same_length, same_refl, same_append, same_filled}
use Rattle.log_rules.proofs.BlockLaws.{AllShort, reads_short, length_slot}

-- a test that counts only where another passes
pub and_where : (a b c : Bool) → (a ≡ true → b ≡ c) → (a && b) ≡ (a && c)
and_where true b c e = e refl
and_where false b c e = refl

held : (slot : List ℕ) → length slot ≡ slot_size → length (telegram_in slot) < slot_size
unfolding telegram_in
held slot e = omega (arith, length-take (get_or slot 0 0) (drop 1 slot), length-drop 1 slot, e)

-- a slot of another size does not fit
pub other_size : (slot : List ℕ) → (length slot ≡ slot_size → ⊥) → slot_fits slot ≡ false
unfolding slot_fits
other_size slot apart =
    let telegram = telegram_in slot in
    and_where (reads_well telegram) (same slot (slot_of telegram)) false
    (λ reads. same_length slot (slot_of telegram) (λ e. apart (e ∙ length_slot telegram (reads_short telegram reads))))
    ∙ and-false (reads_well telegram)

-- nor does one whose length byte says more than there is room for
pub long_telegram : (slot : List ℕ) → length slot ≡ slot_size → slot_size ≤ get_or slot 0 0 → slot_fits slot ≡ false
unfolding slot_fits slot_of filled
long_telegram slot e long =
    let telegram = telegram_in slot in
    ap (λ t. reads_well telegram && t)
    ((not-eq-not {a = same slot (slot_of telegram)} {b = false}).0
    (λ fits. omega (arith, ap (λ s. get_or s 0 0) (same_true slot (slot_of telegram) fits), held slot e, long)))
    ∙ and-false (reads_well telegram)

-- any other fits where its telegram reads well and zeros stand behind it, by the parts that the code takes
pub by_size : (slot : List ℕ) → length slot ≡ slot_size → get_or slot 0 0 < slot_size
    → slot_fits slot
    ≡ (reads_well (take (get_or slot 0 0 + 1 - 1) (drop 1 slot))
    && all_zero (take (slot_size - (get_or slot 0 0 + 1)) (drop (get_or slot 0 0 + 1) slot)))
unfolding slot_fits telegram_in slot_of
by_size [] e short = absurd (omega (arith, e))
by_size (first ∷ rest) e short =
    let slot = first ∷ rest in
    let telegram = take first rest in
    let long : length telegram ≡ first = length-take-le first rest (omega (arith, e, short)) in
    let read : first ≡ first + 1 - 1 = omega arith in
    let behind : drop (suc first) slot ≡ take (slot_size - (first + 1)) (drop (first + 1) slot) =
    ap (λ n. drop n slot) (sym (add-one first))
    ∙ sym (take_all (slot_size - (first + 1)) (drop (first + 1) slot) (omega (arith, length-drop (first + 1) slot, e))) in
    ap (λ s. reads_well telegram && s)
    (same_filled slot_size slot (length telegram ∷ telegram) e
    ∙ ap (λ n. same (take (suc n) slot) (n ∷ telegram) && all_zero (drop (suc n) slot)) long
    ∙ ap (λ s. s && all_zero (drop first rest)) (same_refl (first ∷ telegram)))
    ∙ ap₂ (λ n bytes. reads_well (take n rest) && all_zero bytes) read behind

-- so many slots of 32 bytes
pub short_from : (n : ℕ) (bytes : List ℕ) → slot_size * n ≤ length bytes → AllShort (telegrams_from n bytes)
short_from zero bytes fits = tt
short_from (suc n) bytes fits = (
  held (take slot_size bytes) (length-take-le slot_size bytes (omega arith)),
  short_from n (drop slot_size bytes) (omega (arith, length-drop slot_size bytes)),
)

across : (r s p q : Bool) → ((r && s) && (p && q)) ≡ ((r && p) && (s && q))
across true s true q = refl
across true s false q = and-false s
across false s p q = refl

pub slots_fit_law : (n : ℕ) (bytes : List ℕ) → slot_size * n ≤ length bytes
    → (all_read_well (telegrams_from n bytes) && same (take (slot_size * n) bytes) (slots_of (telegrams_from n bytes)))
    ≡ slots_fit n bytes
unfolding slot_fits
slots_fit_law zero bytes fits = refl
slots_fit_law (suc n) bytes fits =
    let first = take slot_size bytes in
    let rest = drop slot_size bytes in
    let telegram = telegram_in first in
    let telegrams = telegrams_from n rest in
    let part = take (slot_size * suc n) bytes in
    let left : slot_size * suc n - slot_size ≡ slot_size * n = omega arith in
    let size = length_slot telegram (held first (length-take-le slot_size bytes (omega arith))) in
    let front : take (length (slot_of telegram)) part ≡ first =
    ap (λ k. take k part) size ∙ take-take slot_size (slot_size * suc n) bytes (omega arith) in
    let back : drop (length (slot_of telegram)) part ≡ take (slot_size * n) rest =
    ap (λ k. drop k part) size ∙ drop_take slot_size (slot_size * suc n) bytes ∙ ap (λ k. take k rest) left in
    ap (λ s. (reads_well telegram && all_read_well telegrams) && s)
    (same_append part (slot_of telegram) (slots_of telegrams)
    ∙ ap₂ (λ f b. same f (slot_of telegram) && same b (slots_of telegrams)) front back)
    ∙ across (reads_well telegram) (all_read_well telegrams)
    (same first (slot_of telegram)) (same (take (slot_size * n) rest) (slots_of telegrams))
    ∙ ap (λ s. (reads_well telegram && same first (slot_of telegram)) && s)
    (slots_fit_law n rest (omega (arith, length-drop slot_size bytes)))
