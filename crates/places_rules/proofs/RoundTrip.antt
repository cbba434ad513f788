-- Over any row: what is rendered reads back, and what reads is what is rendered. Assumes nothing.
use mathlib.Core.Path.{◌≡◌, refl, ap, ap₂, sym, ◌∙◌}
use mathlib.Core.Bool.{Bool, true, false, cond, ◌||◌}
use mathlib.Core.List.{List, [], ◌∷◌}
use Prim.Native.Nat.{ℕ, zero, suc, ◌%◌, ◌≤◌, ◌<◌}
use native.Mathlib.Omega.{arith}
use lib.Dec.{eqb}
use lib.ListN.{length, get_or, set, replicate, length-set}
use lib.Seq.{get_or-set_same, get_or-set_other, ext_get_or}
use borrow.Author.Tests.{eq-eqb, eqb-true, eqb-false, ltb-true, not-true}
use Rattle.refusals.proofs.Laws.{both}
use Rattle.places_rules.specs.Places.{Place, fixed, decimal, code, slots, code_value, code_character, fixed_holds, decimal_holds, code_holds, every, store, gather, no_digits, byte_at, render}
use Rattle.places_rules.proofs.Characters.{character_fits, character_decimal, value_of_character, decimal_back, code_back, decimal_small, code_small}
use Rattle.places_rules.proofs.Rows.{uses, used_in, apart, distinct, sound_place, sound, slotted_place, slotted, plain_place, plain, shown, all_shown, most, Held}

-- what is rendered fits its row
all_hold : (holds : Place → ℕ → Bool) (digits : List ℕ) → ((p : Place) → holds p (byte_at digits p) ≡ true)
    → (row : List Place) → every holds row (render row digits) ≡ true
unfolding render
all_hold holds digits one [] = refl
all_hold holds digits one (p ∷ row) = rw (one p) (all_hold holds digits one row)

module _ (row : List Place) (digits : List ℕ) where
  pub fixed_rendered : every fixed_holds row (render row digits) ≡ true
  fixed_rendered = all_hold fixed_holds digits one row
    where
      one : (p : Place) → fixed_holds p (byte_at digits p) ≡ true
      one (fixed character) = eq-eqb character character refl
      one (decimal slot) = refl
      one (code slot) = refl

  pub codes_rendered : every code_holds row (render row digits) ≡ true
  codes_rendered = all_hold code_holds digits one row
    where
      one : (p : Place) → code_holds p (byte_at digits p) ≡ true
      one (fixed character) = refl
      one (decimal slot) = refl
      one (code slot) = character_fits (get_or digits slot 0 % 16) (omega arith)

-- a sound row is both: its slots are slots, and none of its fixed characters is STX or ETX
sound_slotted_place : (p : Place) → sound_place p ≡ true → slotted_place p ≡ true
sound_slotted_place (fixed character) e = refl
sound_slotted_place (decimal slot) e = e
sound_slotted_place (code slot) e = e

pub sound_slotted : (row : List Place) → sound row ≡ true → slotted row ≡ true
sound_slotted [] e = refl
sound_slotted (p ∷ row) e =
    let parts = both (sound_place p) (sound row) e in
    rw (sound_slotted_place p parts.0, sound_slotted row parts.1)

sound_plain_place : (p : Place) → sound_place p ≡ true → plain_place p ≡ true
sound_plain_place (fixed character) e = e
sound_plain_place (decimal slot) e = refl
sound_plain_place (code slot) e = refl

pub sound_plain : (row : List Place) → sound row ≡ true → plain row ≡ true
sound_plain [] e = refl
sound_plain (p ∷ row) e =
    let parts = both (sound_place p) (sound row) e in
    rw (sound_plain_place p parts.0, sound_plain row parts.1)

slotted_parts : (p : Place) (row : List Place) → slotted (p ∷ row) ≡ true → (slotted_place p ≡ true) × (slotted row ≡ true)
slotted_parts p row e = both (slotted_place p) (slotted row) e

pub decimals_rendered : (row : List Place) (digits : List ℕ) → all_shown digits row → every decimal_holds row (render row digits) ≡ true
unfolding render
decimals_rendered [] digits each = refl
decimals_rendered (fixed character ∷ row) digits each = decimals_rendered row digits each.1
decimals_rendered (decimal slot ∷ row) digits each =
    rw (character_decimal (get_or digits slot 0 % 16) (omega (arith, each.0))) (decimals_rendered row digits each.1)
decimals_rendered (code slot ∷ row) digits each = decimals_rendered row digits each.1

-- a slot after a store
stored : (base : List ℕ) (at value slot : ℕ) → at < length base
    → get_or (set base at value) slot 0 ≡ cond (eqb at slot) value (get_or base slot 0)
stored base at value slot fits = go (eqb at slot) refl
  where
    go : (t : Bool) → eqb at slot ≡ t → get_or (set base at value) slot 0 ≡ cond t value (get_or base slot 0)
    go true e = rw (← eqb-true at slot e) (get_or-set_same base at value 0 fits)
    go false e = get_or-set_other base at slot value 0 (λ same. eqb-false at slot e (sym same))

length_store : (p : Place) (byte : ℕ) (base : List ℕ) → length (store p byte base) ≡ length base
length_store (fixed character) byte base = refl
length_store (decimal slot) byte base = length-set base slot (code_value byte)
length_store (code slot) byte base = length-set base slot (code_value byte)

-- a slot that the row does not use stays as it was
outside_store : (p : Place) (byte slot : ℕ) (base : List ℕ) → uses slot p ≡ false → length base ≡ slots → slotted_place p ≡ true
    → get_or (store p byte base) slot 0 ≡ get_or base slot 0
outside_store (fixed character) byte slot base no_use size fits = refl
outside_store (decimal at) byte slot base no_use size fits =
    stored base at (code_value byte) slot (omega (arith, ltb-true at slots fits)) ∙ rw no_use
outside_store (code at) byte slot base no_use size fits =
    stored base at (code_value byte) slot (omega (arith, ltb-true at slots fits)) ∙ rw no_use

neither : (a b : Bool) → (a || b) ≡ false → (a ≡ false) × (b ≡ false)
neither true b e = let z : ◌≡◌ {A = ℕ} 0 1 = cc in absurd (omega arith)
neither false b e = (refl, e)

gather_outside : (row : List Place) (bytes base : List ℕ) (slot : ℕ) → used_in slot row ≡ false → slotted row ≡ true → length base ≡ slots
    → get_or (gather row bytes base) slot 0 ≡ get_or base slot 0
gather_outside [] bytes base slot no_use fits size = refl
gather_outside (p ∷ row) [] base slot no_use fits size = refl
gather_outside (p ∷ row) (byte ∷ bytes) base slot no_use fits size =
    let n = neither (uses slot p) (used_in slot row) no_use in
    let f = slotted_parts p row fits in
    gather_outside row bytes (store p byte base) slot n.1 f.1 (length_store p byte base ∙ size)
    ∙ outside_store p byte slot base n.0 size f.0

-- the digits of what was rendered: those of the row's slots, and the others as they were
merged : (at slot value : ℕ) (used : Bool) (digits base : List ℕ) → value ≡ get_or digits at 0
    → cond used (get_or digits slot 0) (cond (eqb at slot) value (get_or base slot 0))
    ≡ cond (eqb at slot || used) (get_or digits slot 0) (get_or base slot 0)
merged at slot value used digits base v = go (eqb at slot) refl used
  where
    go : (t : Bool) → eqb at slot ≡ t → (u : Bool)
        → cond u (get_or digits slot 0) (cond t value (get_or base slot 0)) ≡ cond (t || u) (get_or digits slot 0) (get_or base slot 0)
    go true e true = refl
    go true e false = v ∙ ap (λ s. get_or digits s 0) (eqb-true at slot e)
    go false e u = refl

module _ (digits : List ℕ) where
  digit_read : (slot : ℕ) → get_or digits slot 0 ≤ 15 → code_value (code_character (get_or digits slot 0 % 16)) ≡ get_or digits slot 0
  digit_read slot small = value_of_character (get_or digits slot 0 % 16) (omega arith) ∙ omega arith

  -- a slot's digit, stored and read again
  through : (row : List Place) (base bytes : List ℕ) (at value slot : ℕ) → at < length base → value ≡ get_or digits at 0
      → get_or (gather row bytes (set base at value)) slot 0 ≡ cond (used_in slot row) (get_or digits slot 0) (get_or (set base at value) slot 0)
      → get_or (gather row bytes (set base at value)) slot 0 ≡ cond (eqb at slot || used_in slot row) (get_or digits slot 0) (get_or base slot 0)
  through row base bytes at value slot fits v later =
      later
      ∙ ap (λ x. cond (used_in slot row) (get_or digits slot 0) x) (stored base at value slot fits)
      ∙ merged at slot value (used_in slot row) digits base v

  read_at : (row : List Place) (base : List ℕ) (slot : ℕ) → all_shown digits row → slotted row ≡ true → length base ≡ slots
      → get_or (gather row (render row digits) base) slot 0 ≡ cond (used_in slot row) (get_or digits slot 0) (get_or base slot 0)
  unfolding render
  read_at [] base slot each fits size = refl
  read_at (fixed character ∷ row) base slot each fits size =
      read_at row base slot each.1 (slotted_parts (fixed character) row fits).1 size
  read_at (decimal at ∷ row) base slot each fits size =
      let f = slotted_parts (decimal at) row fits in
      through row base _ at _ slot (omega (arith, ltb-true at slots f.0)) (digit_read at (omega (arith, each.0)))
      (read_at row (set base at (code_value (code_character (get_or digits at 0 % 16)))) slot each.1 f.1 (length-set base at _ ∙ size))
  read_at (code at ∷ row) base slot each fits size =
      let f = slotted_parts (code at) row fits in
      through row base _ at _ slot (omega (arith, ltb-true at slots f.0)) (digit_read at each.0)
      (read_at row (set base at (code_value (code_character (get_or digits at 0 % 16)))) slot each.1 f.1 (length-set base at _ ∙ size))

length_gather : (row : List Place) (bytes base : List ℕ) → length (gather row bytes base) ≡ length base
length_gather [] bytes base = refl
length_gather (p ∷ row) [] base = refl
length_gather (p ∷ row) (byte ∷ bytes) base = length_gather row bytes (store p byte base) ∙ length_store p byte base

no_digit : (n slot : ℕ) → ◌≡◌ {A = ℕ} (get_or (replicate n 0) slot 0) 0
no_digit zero slot = refl
no_digit (suc n) zero = refl
no_digit (suc n) (suc slot) = no_digit n slot

-- What is rendered reads back: the digits are the same.
pub reads_back_law : (row : List Place) (digits : List ℕ) → Held row digits → slotted row ≡ true → gather row (render row digits) no_digits ≡ digits
reads_back_law row digits held fits =
    ext_get_or 0 _ digits (length_gather row (render row digits) no_digits ∙ sym held.size)
    (λ slot below. read_at digits row no_digits slot held.each fits refl ∙ other (used_in slot row) slot refl)
  where
    other : (t : Bool) (slot : ℕ) → used_in slot row ≡ t → cond t (get_or digits slot 0) (get_or no_digits slot 0) ≡ get_or digits slot 0
    other true slot e = refl
    other false slot e = no_digit slots slot ∙ sym (held.idle slot e)

-- What reads is what is rendered: a row that uses no slot twice makes the bytes again from their digits.
byte_back : (p : Place) (byte : ℕ) (digits : List ℕ) → fixed_holds p byte ≡ true → decimal_holds p byte ≡ true → code_holds p byte ≡ true
    → ((slot : ℕ) → uses slot p ≡ true → get_or digits slot 0 ≡ code_value byte) → byte_at digits p ≡ byte
byte_back (fixed character) byte digits f d c at = sym (eqb-true byte character f)
byte_back (decimal slot) byte digits f d c at = rw (at slot (eq-eqb slot slot refl)) (decimal_back byte d)
byte_back (code slot) byte digits f d c at = rw (at slot (eq-eqb slot slot refl)) (code_back byte c)

slot_kept : (row : List Place) (byte : ℕ) (bytes base : List ℕ) (at slot : ℕ) → eqb at slot ≡ true → used_in at row ≡ false → slotted row ≡ true
    → length base ≡ slots → at < slots → get_or (gather row bytes (set base at (code_value byte))) slot 0 ≡ code_value byte
slot_kept row byte bytes base at slot same alone fits size below =
    rw (← eqb-true at slot same)
    (gather_outside row bytes (set base at (code_value byte)) at alone fits (length-set base at _ ∙ size)
    ∙ get_or-set_same base at (code_value byte) 0 (omega arith))

-- the slot of a place holds its byte's value in the end, where no later place uses that slot
kept : (p : Place) (row : List Place) (byte : ℕ) (bytes base : List ℕ) → apart p row ≡ true → slotted (p ∷ row) ≡ true → length base ≡ slots
    → (slot : ℕ) → uses slot p ≡ true → get_or (gather row bytes (store p byte base)) slot 0 ≡ code_value byte
kept (fixed character) row byte bytes base alone fits size slot same = let z : ◌≡◌ {A = ℕ} 0 1 = cc in absurd (omega arith)
kept (decimal at) row byte bytes base alone fits size slot same =
    let f = slotted_parts (decimal at) row fits in
    slot_kept row byte bytes base at slot same (not-true _ alone) f.1 size (ltb-true at slots f.0)
kept (code at) row byte bytes base alone fits size slot same =
    let f = slotted_parts (code at) row fits in
    slot_kept row byte bytes base at slot same (not-true _ alone) f.1 size (ltb-true at slots f.0)

-- the three tests of a row's bytes, taken apart
module _ (p : Place) (row : List Place) (byte : ℕ) (bytes : List ℕ) where
  every_parts : (holds : Place → ℕ → Bool) → every holds (p ∷ row) (byte ∷ bytes) ≡ true → (holds p byte ≡ true) × (every holds row bytes ≡ true)
  every_parts holds e = both (holds p byte) (every holds row bytes) e

pub makes_again : (row : List Place) (bytes base : List ℕ) → distinct row ≡ true → slotted row ≡ true → length bytes ≡ length row → length base ≡ slots
    → every fixed_holds row bytes ≡ true → every decimal_holds row bytes ≡ true → every code_holds row bytes ≡ true
    → render row (gather row bytes base) ≡ bytes
unfolding render
makes_again [] [] base alone fits same size f d c = refl
makes_again [] (byte ∷ bytes) base alone fits same size f d c = absurd (omega arith)
makes_again (p ∷ row) [] base alone fits same size f d c = absurd (omega arith)
makes_again (p ∷ row) (byte ∷ bytes) base alone fits same size f d c =
    let a = both (apart p row) (distinct row) alone in
    let fs = every_parts p row byte bytes fixed_holds f in
    let ds = every_parts p row byte bytes decimal_holds d in
    let cs = every_parts p row byte bytes code_holds c in
    let here = byte_back p byte _ fs.0 ds.0 cs.0 (kept p row byte bytes base a.0 fits size) in
    let later = makes_again row bytes (store p byte base) a.1 (slotted_parts p row fits).1 (omega arith) (length_store p byte base ∙ size) fs.1 ds.1 cs.1 in
    ap₂ ◌∷◌ here later

-- Digits that were read are digits that the row can carry.
shown_here : (p : Place) (byte : ℕ) (digits : List ℕ) → decimal_holds p byte ≡ true → code_holds p byte ≡ true
    → ((slot : ℕ) → uses slot p ≡ true → get_or digits slot 0 ≡ code_value byte) → shown digits p
shown_here (fixed character) byte digits d c at = tt
shown_here (decimal slot) byte digits d c at = omega (arith, at slot (eq-eqb slot slot refl), decimal_small byte d)
shown_here (code slot) byte digits d c at = omega (arith, at slot (eq-eqb slot slot refl), code_small byte c)

shown_gather : (row : List Place) (bytes base : List ℕ) → distinct row ≡ true → slotted row ≡ true → length bytes ≡ length row → length base ≡ slots
    → every decimal_holds row bytes ≡ true → every code_holds row bytes ≡ true → all_shown (gather row bytes base) row
shown_gather [] bytes base alone fits same size d c = tt
shown_gather (p ∷ row) [] base alone fits same size d c = absurd (omega arith)
shown_gather (p ∷ row) (byte ∷ bytes) base alone fits same size d c =
    let a = both (apart p row) (distinct row) alone in
    let ds = every_parts p row byte bytes decimal_holds d in
    let cs = every_parts p row byte bytes code_holds c in (
      shown_here p byte _ ds.0 cs.0 (kept p row byte bytes base a.0 fits size),
      shown_gather row bytes (store p byte base) a.1 (slotted_parts p row fits).1 (omega arith) (length_store p byte base ∙ size) ds.1 cs.1,
    )

pub held_gather : (row : List Place) (bytes : List ℕ) → distinct row ≡ true → slotted row ≡ true → length bytes ≡ length row
    → every decimal_holds row bytes ≡ true → every code_holds row bytes ≡ true → Held row (gather row bytes no_digits)
held_gather row bytes alone fits same d c =
    record {
      size = length_gather row bytes no_digits;
      each = shown_gather row bytes no_digits alone fits same refl d c;
      idle = λ slot e. gather_outside row bytes no_digits slot e fits refl ∙ no_digit slots slot;
    }

-- Digits that a row can carry are at most what it can show in their slots.
module _ (digits : List ℕ) (slot : ℕ) where
  at_most : (at top rest : ℕ) (used : Bool) → get_or digits at 0 ≤ top → ((used ≡ false → get_or digits slot 0 ≡ 0) → get_or digits slot 0 ≤ rest)
      → ((eqb at slot || used) ≡ false → get_or digits slot 0 ≡ 0) → get_or digits slot 0 ≤ cond (eqb at slot) top rest
  at_most at top rest used here later idle = go (eqb at slot) refl idle
    where
      go : (t : Bool) → eqb at slot ≡ t → ((t || used) ≡ false → get_or digits slot 0 ≡ 0) → get_or digits slot 0 ≤ cond t top rest
      go true e f = rw (← eqb-true at slot e) here
      go false e f = later f

  shown_most : (row : List Place) → all_shown digits row → (used_in slot row ≡ false → get_or digits slot 0 ≡ 0) → get_or digits slot 0 ≤ most row slot
  shown_most [] each idle = omega (arith, idle refl)
  shown_most (fixed character ∷ row) each idle = shown_most row each.1 idle
  shown_most (decimal at ∷ row) each idle = at_most at 9 _ (used_in slot row) each.0 (shown_most row each.1) idle
  shown_most (code at ∷ row) each idle = at_most at 15 _ (used_in slot row) each.0 (shown_most row each.1) idle

pub held_most : (row : List Place) (digits : List ℕ) → Held row digits → (slot : ℕ) → get_or digits slot 0 ≤ most row slot
held_most row digits held slot = shown_most digits slot row held.each (held.idle slot)

-- a test that holds at each place of a row holds at any one of them
pub every_at_law : (holds : Place → ℕ → Bool) (row : List Place) (bytes : List ℕ) (p : Place) → every holds row bytes ≡ true
    → (k : ℕ) → k < length row → k < length bytes → holds (get_or row k p) (get_or bytes k 0) ≡ true
every_at_law holds [] bytes p e k r b = absurd (omega arith)
every_at_law holds (q ∷ row) [] p e k r b = absurd (omega arith)
every_at_law holds (q ∷ row) (byte ∷ bytes) p e zero r b = (every_parts q row byte bytes holds e).0
every_at_law holds (q ∷ row) (byte ∷ bytes) p e (suc k) r b =
    every_at_law holds row bytes p (every_parts q row byte bytes holds e).1 k (omega arith) (omega arith)

-- Two lists of digits that agree in the slots of a row make the same bytes.
abbrev pub same_at : List ℕ → List ℕ → Place → Type 0
same_at a b (fixed character) = Unit {0}
same_at a b (decimal slot) = get_or a slot 0 ≡ get_or b slot 0
same_at a b (code slot) = get_or a slot 0 ≡ get_or b slot 0

abbrev pub AllSame : List ℕ → List ℕ → List Place → Type 0
AllSame a b [] = Unit {0}
AllSame a b (p ∷ row) = same_at a b p × AllSame a b row

same_byte : (a b : List ℕ) (p : Place) → same_at a b p → byte_at a p ≡ byte_at b p
same_byte a b (fixed character) e = refl
same_byte a b (decimal slot) e = ap (λ n. code_character (n % 16)) e
same_byte a b (code slot) e = ap (λ n. code_character (n % 16)) e

pub same_bytes : (row : List Place) (a b : List ℕ) → AllSame a b row → render row a ≡ render row b
unfolding render
same_bytes [] a b e = refl
same_bytes (p ∷ row) a b e = ap₂ ◌∷◌ (same_byte a b p e.0) (same_bytes row a b e.1)
