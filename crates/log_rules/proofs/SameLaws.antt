-- Laws of bytes that are the same, part by part, and of zeros behind bytes. Assumes nothing.
use mathlib.Core.Path.{◌≡◌, refl, ap, ap₂, sym, ◌∙◌}
use mathlib.Core.Bool.{true, false, ◌&&◌, not-eq-not, and_assoc}
use mathlib.Core.List.{List, [], ◌∷◌, ◌++◌, append_assoc}
use Prim.Native.Nat.{ℕ, zero, suc, ◌+◌, ◌-◌, ◌≤◌}
use native.Mathlib.Omega.{arith}
use lib.Dec.{eqb}
use lib.ListN.{length, take, drop, replicate, length-append, length-replicate, length-drop}
use lib.ListN.{replicate-append-replicate}
use borrow.Author.Tests.{eqb-true, eq-eqb}
use Rattle.refusals.proofs.Laws.{both}
use Rattle.log_rules.specs.Block.{filled}
use Rattle.log_rules.specs.Good.{same}
use Rattle.log_rules.specs.Tests.{all_zero}

pub same_true : (a b : List ℕ) → same a b ≡ true → a ≡ b
same_true [] [] e = refl
same_true [] (y ∷ ys) e = let z : ◌≡◌ {A = ℕ} 0 1 = cc in absurd (omega arith)
same_true (x ∷ xs) [] e = let z : ◌≡◌ {A = ℕ} 0 1 = cc in absurd (omega arith)
same_true (x ∷ xs) (y ∷ ys) e =
    let parts = both (eqb x y) (same xs ys) e in
    ap₂ ◌∷◌ (eqb-true x y parts.0) (same_true xs ys parts.1)

-- bytes of another length are not the same
pub same_length : (a b : List ℕ) → (length a ≡ length b → ⊥) → same a b ≡ false
same_length a b apart = (not-eq-not {a = same a b} {b = false}).0 (λ e. apart (ap length (same_true a b e)))

pub same_refl : (a : List ℕ) → same a a ≡ true
same_refl [] = refl
same_refl (x ∷ xs) = rw (eq-eqb x x refl) (same_refl xs)

-- the same as two parts, one behind the other
pub same_append : (xs a b : List ℕ) → same xs (a ++ b) ≡ (same (take (length a) xs) a && same (drop (length a) xs) b)
same_append xs [] b = refl
same_append [] (y ∷ a) b = refl
same_append (x ∷ xs) (y ∷ a) b =
    ap (λ s. eqb x y && s) (same_append xs a b)
    ∙ sym (and_assoc (eqb x y) (same (take (length a) xs) a) (same (drop (length a) xs) b))

same_zeros : (n : ℕ) (xs : List ℕ) → length xs ≡ n → same xs (replicate n 0) ≡ all_zero xs
same_zeros zero [] e = refl
same_zeros zero (x ∷ xs) e = absurd (omega arith)
same_zeros (suc n) [] e = absurd (omega arith)
same_zeros (suc n) (x ∷ xs) e = ap (λ s. eqb x 0 && s) (same_zeros n xs (omega arith))

-- the same as bytes with zeros behind them
pub same_filled : (size : ℕ) (xs bytes : List ℕ) → length xs ≡ size
    → same xs (filled size bytes) ≡ (same (take (length bytes) xs) bytes && all_zero (drop (length bytes) xs))
unfolding filled
same_filled size xs bytes e =
    same_append xs bytes (replicate (size - length bytes) 0)
    ∙ ap (λ s. same (take (length bytes) xs) bytes && s)
    (same_zeros (size - length bytes) (drop (length bytes) xs) (length-drop (length bytes) xs ∙ ap (λ n. n - length bytes) e))

pub length_filled : (size : ℕ) (bytes : List ℕ) → length bytes ≤ size → length (filled size bytes) ≡ size
unfolding filled
length_filled size bytes fits =
    omega (arith, length-append bytes (replicate (size - length bytes) 0), length-replicate {A = ℕ} (size - length bytes) 0)

-- zeros behind the first of them
pub fewer : (n k : ℕ) (rest : List ℕ) → k ≤ n → drop k (replicate n 0 ++ rest) ≡ replicate (n - k) 0 ++ rest
fewer n zero rest less = let all : n ≡ n - zero = omega arith in ap (λ m. replicate m 0 ++ rest) all
fewer zero (suc k) rest less = absurd (omega arith)
fewer (suc n) (suc k) rest less =
    let same : n - k ≡ suc n - suc k = omega arith in
    fewer n k rest (omega arith) ∙ ap (λ m. replicate m 0 ++ rest) same

-- and zeros behind zeros
pub zeros_join : (bytes more : List ℕ) (n m : ℕ)
    → (bytes ++ (more ++ replicate n 0)) ++ replicate m 0 ≡ bytes ++ (more ++ replicate (n + m) 0)
zeros_join bytes more n m =
    append_assoc bytes (more ++ replicate n 0) (replicate m 0)
    ∙ ap (◌++◌ bytes) (append_assoc more (replicate n 0) (replicate m 0) ∙ ap (◌++◌ more) (replicate-append-replicate n m 0))
