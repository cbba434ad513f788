-- Laws of a scan: what is left to see, added to what was seen, is the whole. Assumes nothing.
use mathlib.Core.Path.{◌≡◌, refl, ap, sym, ◌∙◌}
use mathlib.Core.Bool.{Bool, true, false, cond, ◌&&◌}
use mathlib.Core.List.{List, [], ◌∷◌, map}
use Prim.Native.Nat.{ℕ, suc, ◌+◌, ◌%◌, ◌≤◌, ◌<◌, min}
use lib.Dec.{leb, ltb}
use borrow.Author.Tests.{leb-true, leb-false}
use native.Mathlib.Omega.{arith}
use native.Mathlib.Numerals.{add-one}
use lib.ListN.{length, drop, get_or, set, drop_of_length-le}
use lib.Seq.{drop-cons, set-get_or}
use Rattle.refusals.specs.Refusals.{lower}
use Rattle.refusals.proofs.Laws.{lower_none, lower_assoc}
use Rattle.places_rules.specs.Places.{Place, fixed, decimal, code, place, fixed_holds, decimal_holds, code_holds, every, store, kept_at}
use Rattle.places_rules.specs.Places.{gather, fault_of, row_fault, place_fault, slots, first_decimal, first_code, no_digits, found_in}
use Rattle.places_rules.specs.Places.{Finding}

-- what is found in the end, from what was found so far
abbrev pub onward : List Place → List ℕ → Finding → Finding
onward row bytes so_far = record { digits = gather row bytes so_far.digits; fault = lower (row_fault row bytes) so_far.fault }

abbrev pub fresh : Finding
fresh = record { digits = no_digits; fault = 0 }

-- the fault of two parts is the lower of their faults
two_parts : (f d c f' d' c' : Bool) → fault_of (f && f') (d && d') (c && c') ≡ lower (fault_of f d c) (fault_of f' d' c')
two_parts true true true f' d' c' = refl
two_parts true true false true true true = refl
two_parts true true false true true false = refl
two_parts true true false true false c' = refl
two_parts true true false false d' c' = refl
two_parts true false c true true true = refl
two_parts true false c true true false = refl
two_parts true false c true false c' = refl
two_parts true false c false d' c' = refl
two_parts false d c true true true = refl
two_parts false d c true true false = refl
two_parts false d c true false c' = refl
two_parts false d c false d' c' = refl

pub onward_all : (row : List Place) (bytes : List ℕ) → onward row bytes fresh ≡ found_in row bytes
unfolding found_in
onward_all row bytes i = record { digits = gather row bytes no_digits; fault = lower_none (row_fault row bytes) i }

-- one place seen
abbrev taken : Finding → Place → ℕ → Finding
taken before p byte = record { digits = store p byte before.digits; fault = lower (place_fault p byte) before.fault }

onward_cons : (p : Place) (row : List Place) (byte : ℕ) (bytes : List ℕ) (so_far : Finding)
    → onward (p ∷ row) (byte ∷ bytes) so_far ≡ onward row bytes (taken so_far p byte)
onward_cons p row byte bytes so_far =
    let fault =
    ap (λ n. lower n so_far.fault)
    (two_parts (fixed_holds p byte) (decimal_holds p byte) (code_holds p byte) (every fixed_holds row bytes) (every decimal_holds row bytes) (every code_holds row bytes))
    ∙ lower_assoc (place_fault p byte) (row_fault row bytes) so_far.fault in
    λ i. record { digits = gather (p ∷ row) (byte ∷ bytes) so_far.digits; fault = fault i }

-- a store at the slot that a place's number names
store_at : (n byte : ℕ) (digits : List ℕ) → store (place n) byte digits ≡ set digits (n % slots) (kept_at (place n) byte (get_or digits (n % slots) 0))
unfolding place
store_at n byte digits = go (ltb n first_decimal) (ltb n first_code)
  where
    go : (a b : Bool)
        → store (cond a (fixed n) (cond b (decimal (n % slots)) (code (n % slots)))) byte digits
        ≡ set digits (n % slots) (kept_at (cond a (fixed n) (cond b (decimal (n % slots)) (code (n % slots)))) byte (get_or digits (n % slots) 0))
    go true b = sym (set-get_or digits (n % slots) 0)
    go false true = refl
    go false false = refl

-- one turn
pub onward_step : (row bytes : List ℕ) (at : ℕ) (so_far next : Finding) → at < length row → at < length bytes
    → next.digits ≡ set so_far.digits (get_or row at 0 % slots) (kept_at (place (get_or row at 0)) (get_or bytes at 0) (get_or so_far.digits (get_or row at 0 % slots) 0))
    → next.fault ≡ lower (place_fault (place (get_or row at 0)) (get_or bytes at 0)) so_far.fault
    → onward (map place (drop (at + 1) row)) (drop (at + 1) bytes) next
    ≡ onward (map place (drop at row)) (drop at bytes) so_far
onward_step row bytes at so_far next r b d f =
    let p = get_or row at 0 in
    let byte = get_or bytes at 0 in
    let same : next ≡ taken so_far (place p) byte =
    λ i. record { digits = (d ∙ sym (store_at p byte so_far.digits)) i; fault = f i } in
    rw (drop-cons row at 0 r, drop-cons bytes at 0 b, add-one, same)
    (sym (onward_cons (place p) (map place (drop (suc at) row)) byte (drop (suc at) bytes) so_far))

-- nothing left
no_bytes : (row : List Place) (so_far : Finding) → onward row [] so_far ≡ so_far
no_bytes [] so_far = refl
no_bytes (p ∷ row) so_far = refl

pub onward_ends : (row bytes : List ℕ) (at : ℕ) (so_far : Finding) → min (length row) (length bytes) ≤ at
    → onward (map place (drop at row)) (drop at bytes) so_far ≡ so_far
onward_ends row bytes at so_far h = go (leb (length row) at) refl
  where
    go : (t : Bool) → leb (length row) at ≡ t → onward (map place (drop at row)) (drop at bytes) so_far ≡ so_far
    go true e = let row_ends = leb-true _ _ e in rw (drop_of_length-le row row_ends)
    go false e =
        let left = leb-false _ _ e in
        let bytes_end : length bytes ≤ at = omega arith in
        rw (drop_of_length-le bytes bytes_end) (no_bytes (map place (drop at row)) so_far)
