-- The ways in which writing ends, over the definitions. Assumes nothing.
use mathlib.Core.Path.{◌≡◌, refl, ap, ap₂, sym, ◌∙◌}
use mathlib.Core.Bool.{Bool, true}
use mathlib.Core.List.{List, [], ◌∷◌, ◌++◌, map, append_assoc, append-nil}
use Prim.Native.Nat.{ℕ, suc, ◌+◌, ◌-◌, ◌≤◌}
use native.Mathlib.Numerals.{add-one, add-two}
use native.Mathlib.Omega.{arith}
use lib.ListN.{length, take, drop, set, length-append, length-drop, drop_of_length-le}
use lib.Seq.{take_all, drop-cons, set_at}
use borrow.Rule.Slice.PartMut.{put_mid}
use Rattle.refusals.specs.Refusals.{Outcome, done, refused, after}
use Rattle.places_rules.specs.Places.{place, render, over}
use Rattle.places_rules.proofs.Rendering.{length_render}
use Rattle.record_rules.specs.declared.Record.{Record}
use Rattle.layouts_rules.specs.Layouts.{places_of, row_numbers, own_layout}
use Rattle.layouts_rules.specs.Coding.{digits_out}
use Rattle.layouts_rules.proofs.RowLaws.{row_kept, row_size, row_length}
use Rattle.trailer_rules.specs.declared.Order.{Order}
use Rattle.telegram_rules.specs.Writing.{body_bytes, telegram_in, telegram_of, record_to_write, control_of, order_of, telegram_for}
use Rattle.telegram_rules.specs.declared.write.Choice.{Choice}

pub length_body : (rec : Record) → length (body_bytes rec) ≡ length (places_of (own_layout rec))
unfolding body_bytes
length_body rec = length_render (places_of (own_layout rec)) (digits_out rec)

pub length_framed : (rec : Record) → length (telegram_of true rec) ≡ length (body_bytes rec) + 2
length_framed rec = omega (arith, length-append (body_bytes rec) (3 ∷ []))

-- what the code's row and digits make of a buffer
module _ (rec : Record) (row : List ℕ) (kept : row ≡ row_numbers (own_layout rec)) where
  pub row_bytes : length row ≡ length (body_bytes rec)
  row_bytes = row_size (own_layout rec) row kept ∙ sym (length_body rec)

  pub row_small : length row ≤ 23
  row_small = omega (arith, row_size (own_layout rec) row kept, (row_length (own_layout rec)).1)

  pub body_laid : (digits last out : List ℕ) → digits ≡ digits_out rec → last ≡ over (render (map place row) digits) out
      → last ≡ over (body_bytes rec) out
  unfolding body_bytes
  body_laid digits last out d e = e ∙ ap₂ (λ r d. over (render r d) out) (row_kept (own_layout rec) row kept) d

pub over_room : (bytes out : List ℕ) → length bytes ≤ length out → over bytes out ≡ bytes ++ drop (length bytes) out
unfolding over
over_room bytes out h = ap (λ b. b ++ drop (length bytes) out) (take_all (length out) bytes h)

-- STX in front, the bytes behind it, ETX behind them
framing : (bytes : List ℕ) (x : ℕ) (out last : List ℕ) → length bytes + 1 ≤ length out → last ≡ over bytes out
    → set (2 ∷ last) (length bytes + 1) 3 ≡ (2 ∷ bytes ++ 3 ∷ []) ++ drop (length bytes + 2) (x ∷ out)
framing bytes x out last h e =
    let n = length bytes in
    let whole : last ≡ bytes ++ drop n out = e ∙ over_room bytes out (omega arith) in
    rw (whole, drop-cons out n 0 (omega arith), add-one, add-two)
    (ap (λ l. 2 ∷ l) (set_at bytes _ _ 3 n refl ∙ sym (append_assoc bytes (3 ∷ []) (drop (suc n) out))))

-- The part behind the first byte, lent and come back.
pub part_back : (out last : List ℕ) → 1 ≤ length out → put_mid 1 (length (set out 0 2) - 1) (set out 0 2) last ≡ 2 ∷ last
part_back [] last h = absurd (omega arith)
part_back (x ∷ out) last h =
    let none : drop (suc (length out) - 1) out ≡ [] = drop_of_length-le out {i = suc (length out) - 1} (omega arith) in
    rw none (ap (λ l. 2 ∷ l) (append-nil last))

pub part_lent : (out : List ℕ) → 1 ≤ length out → take (length (set out 0 2) - 1) (drop 1 (set out 0 2)) ≡ drop 1 out
part_lent [] h = absurd (omega arith)
part_lent (x ∷ out) h = take_all (suc (length out) - 1) out (omega arith)

pub length_over : (bytes out : List ℕ) → length bytes ≤ length out → length (over bytes out) ≡ length out
length_over bytes out h = rw (over_room bytes out h) (simp (length-append, length-drop) (omega arith))

module _ (bytes out last : List ℕ) (fits : length bytes + 2 ≤ length out)
    (e : last ≡ over bytes (take (length (set out 0 2) - 1) (drop 1 (set out 0 2)))) where
  pub behind_stx : last ≡ over bytes (drop 1 out)
  behind_stx = e ∙ ap (over bytes) (part_lent out (omega arith))

  pub length_behind : length last + 1 ≡ length out
  length_behind =
      let rest = length-drop 1 out in
      omega (arith, ap length behind_stx, length_over bytes (drop 1 out) (omega arith))

  pub framed_laid : set (put_mid 1 (length (set out 0 2) - 1) (set out 0 2) last) (length bytes + 1) 3
      ≡ (2 ∷ bytes ++ 3 ∷ []) ++ drop (length bytes + 2) out
  framed_laid = rw (part_back out last (omega arith)) (go out (omega arith) behind_stx)
    where
      go : (o : List ℕ) → length bytes + 2 ≤ length o → last ≡ over bytes (drop 1 o)
          → set (2 ∷ last) (length bytes + 1) 3 ≡ (2 ∷ bytes ++ 3 ∷ []) ++ drop (length bytes + 2) o
      go [] h b = absurd (omega arith)
      go (x ∷ o) h b = framing bytes x o last (omega arith) b

  pub length_framing : length (put_mid 1 (length (set out 0 2) - 1) (set out 0 2) last) ≡ length out
  length_framing = ap length (part_back out last (omega arith)) ∙ omega (arith, length_behind)

-- the record that a choice writes decides
module _ (choice : Choice) (rec : Record) where
  pub telegram_refused : (k : ℕ) → record_to_write choice rec ≡ refused k → telegram_for choice rec ≡ refused k
  unfolding telegram_for
  telegram_refused k e = rw e

  pub telegram_made : (order : Order) (control : Bool) (good : Record) → record_to_write choice rec ≡ done good → order_of choice ≡ order → control_of choice ≡ control
      → telegram_for choice rec ≡ done (telegram_in order control good)
  unfolding telegram_for
  telegram_made order control good e o f = rw (e, o, f)

  -- and is good, where there is a telegram
  pub was_made : (bytes : List ℕ) → telegram_for choice rec ≡ done bytes → (good : Record) × (record_to_write choice rec ≡ done good) × (telegram_in (order_of choice) (control_of choice) good ≡ bytes)
  unfolding telegram_for
  was_made bytes = go (record_to_write choice rec) refl
    where
      go : (o : Outcome Record) → record_to_write choice rec ≡ o → after o (λ r. done (telegram_in (order_of choice) (control_of choice) r)) ≡ done bytes
          → (good : Record) × (record_to_write choice rec ≡ done good) × (telegram_in (order_of choice) (control_of choice) good ≡ bytes)
      go (done good) is e = (good, is, cc)
      go (refused n) is e = let z : ◌≡◌ {A = ℕ} 0 1 = cc in absurd (omega arith)
