-- Laws of parts of bytes: a part of a part, one part after the other, and bytes with another part put in. Assumes nothing.
use mathlib.Core.Path.{◌≡◌, ap, sym, ◌∙◌}
use mathlib.Core.List.{List, [], ◌∷◌, ◌++◌, append_assoc}
use mathlib.Core.Logic.{◌⊎◌, inl, inr, ⊎_elim}
use Prim.Native.Nat.{ℕ, zero, suc, ◌+◌, ◌*◌, ◌-◌, ◌≤◌, ◌<◌}
use native.Mathlib.Nat.{add_comm, add-zero, mul-suc, add-sub_cancel_left}
use native.Mathlib.Omega.{arith}
use lib.ListN.{length, take, drop, get_or, length-append, length-drop}
use lib.Seq.{length-take-le, take-nil, take-take, drop-drop, take-append_seam, take_at, drop_at, get_or-take, get_or-drop}

-- what is behind the first of the first bytes
pub drop_take : (n m : ℕ) (bytes : List ℕ) → drop n (take m bytes) ≡ take (m - n) (drop n bytes)
drop_take zero m bytes = let all : m ≡ m - 0 = omega arith in ap (λ k. take k bytes) all
drop_take (suc n) zero bytes = let none : 0 ≡ 0 - suc n = omega arith in ap (λ k. take k (drop (suc n) bytes)) none
drop_take (suc n) (suc m) [] = sym (take-nil (suc m - suc n))
drop_take (suc n) (suc m) (byte ∷ bytes) =
    let left : m - n ≡ suc m - suc n = omega arith in
    drop_take n m bytes ∙ ap (λ k. take k (drop n bytes)) left

-- a part of the first bytes is a part of them all, and a part of a part is a part of the whole
part_of_first : (k a m : ℕ) (bytes : List ℕ) → a + k ≤ m → take k (drop a (take m bytes)) ≡ take k (drop a bytes)
part_of_first k a m bytes fits = ap (take k) (drop_take a m bytes) ∙ take-take k (m - a) (drop a bytes) (omega arith)

pub part_of_part : (k a m b : ℕ) (bytes : List ℕ) → a + k ≤ m
    → take k (drop a (take m (drop b bytes))) ≡ take k (drop (b + a) bytes)
part_of_part k a m b bytes fits = part_of_first k a m (drop b bytes) fits ∙ ap (take k) (drop-drop a b bytes)

pub part_byte : (size start : ℕ) (bytes : List ℕ) (at : ℕ) → at < size
    → get_or (take size (drop start bytes)) at 0 ≡ get_or bytes (start + at) 0
part_byte size start bytes at h = get_or-take size (drop start bytes) at 0 h ∙ get_or-drop start bytes at 0

pub part_first : (size start : ℕ) (bytes : List ℕ) → 0 < size → get_or (take size (drop start bytes)) 0 0 ≡ get_or bytes start 0
part_first size start bytes some = part_byte size start bytes 0 some ∙ ap (λ n. get_or bytes n 0) (add-zero start)

-- the part that a program takes from a start up to an end
pub part_lent : (size start : ℕ) (bytes : List ℕ) → take (start + size - start) (drop start bytes) ≡ take size (drop start bytes)
part_lent size start bytes = ap (λ k. take k (drop start bytes)) (add-sub_cancel_left start size)

-- one part after the other: behind the first part each has a number one less
pub behind_first : (size at : ℕ) (bytes : List ℕ) → drop (size * at) (drop size bytes) ≡ drop (size * suc at) bytes
behind_first size at bytes =
    drop-drop (size * at) size bytes ∙ ap (λ n. drop n bytes) (add_comm size (size * at) ∙ sym (mul-suc size at))

-- Bytes with another piece from a start up to an end.
module _ (start end : ℕ) (piece bytes : List ℕ) (size : start + length piece ≡ end) (fits : end ≤ length bytes) where
  abbrev put : List ℕ
  put = take start bytes ++ (piece ++ drop end bytes)

  front : length (take start bytes) ≡ start
  front = length-take-le start bytes (omega arith)

  pub put_length : length put ≡ length bytes
  put_length =
      omega (
        arith,
        length-append (take start bytes) (piece ++ drop end bytes),
        length-append piece (drop end bytes),
        front,
        length-drop end bytes,
      )

  pub put_there : take (length piece) (drop start put) ≡ piece
  put_there =
      ap (take (length piece)) (drop_at (take start bytes) (piece ++ drop end bytes) start front)
      ∙ take-append_seam piece (drop end bytes)

  before : take start put ≡ take start bytes
  before = take_at (take start bytes) (piece ++ drop end bytes) start front

  behind : drop end put ≡ drop end bytes
  behind =
      ap (drop end) (sym (append_assoc (take start bytes) piece (drop end bytes)))
      ∙ drop_at (take start bytes ++ piece) (drop end bytes) end (omega (arith, length-append (take start bytes) piece, front))

  -- no other part changes, and no other byte
  pub put_part : (k at : ℕ) → (at + k ≤ start) ⊎ (end ≤ at) → take k (drop at put) ≡ take k (drop at bytes)
  put_part k at = ⊎_elim in_front at_back
    where
      in_front : at + k ≤ start → take k (drop at put) ≡ take k (drop at bytes)
      in_front h = sym (part_of_first k at start put h) ∙ ap (λ l. take k (drop at l)) before ∙ part_of_first k at start bytes h

      on : (l : List ℕ) → end ≤ at → drop (at - end) (drop end l) ≡ drop at l
      on l h = let there : end + (at - end) ≡ at = omega arith in drop-drop (at - end) end l ∙ ap (λ n. drop n l) there

      at_back : end ≤ at → take k (drop at put) ≡ take k (drop at bytes)
      at_back h = ap (take k) (sym (on put h) ∙ ap (drop (at - end)) behind ∙ on bytes h)

  pub put_byte : (at : ℕ) → (at < start) ⊎ (end ≤ at) → get_or put at 0 ≡ get_or bytes at 0
  put_byte at apart =
      let outside : (at + 1 ≤ start) ⊎ (end ≤ at) = ⊎_elim (λ less. inl (omega arith)) inr apart in
      sym (part_first 1 at put (omega arith))
      ∙ ap (λ l. get_or l 0 0) (put_part 1 at outside)
      ∙ part_first 1 at bytes (omega arith)
