-- Reading and writing in either order are those as printed, seen through the exchange of the trailer: one proof for both orders.
-- Assumes nothing.
use mathlib.Core.Path.{◌≡◌, refl, ap, sym, ◌∙◌}
use mathlib.Core.Bool.{Bool, true, false, ◌&&◌}
use mathlib.Core.List.{List, [], ◌∷◌, ◌++◌}
use Prim.Native.Nat.{ℕ, suc, ◌+◌, ◌-◌, ◌≤◌}
use native.Mathlib.Omega.{arith}
use lib.Dec.{eqb}
use lib.ListN.{length, take, get_or, length-append}
use lib.Seq.{length-take-le}
use Rattle.refusals.specs.Refusals.{done}
use Rattle.trailer_rules.specs.declared.Order.{Order}
use Rattle.trailer_rules.specs.declared.Order.TheVariants.{AsPrinted, Exchanged}
use Rattle.trailer_rules.specs.Trailer.{trailer_at, exchange_at, in_order}
use Rattle.trailer_rules.proofs.TrailerLaws.{exchange_twice, length_exchange, exchange_before, exchange_take, exchange_behind, length_in_order}
use Rattle.record_rules.specs.declared.Record.{Record}
use Rattle.record_rules.specs.Rule.{refusal_of}
use Rattle.layouts_rules.specs.Layouts.{own_layout, layout_of}
use Rattle.layouts_rules.proofs.RowLaws.{row_length}
use Rattle.telegram_rules.specs.Reading.{body_of, body_in, framed, read_in, read_of}
use Rattle.telegram_rules.specs.Writing.{body_bytes, telegram_in, telegram_of}
use Rattle.telegram_rules.proofs.WriteLaws.{length_body}
use Rattle.telegram_rules.proofs.BackAndForth.{written_reads_back, accepted_is_written}

-- bytes of a line in an order, as printed; seen so twice, they are as they were
abbrev pub seen_in : Order → Bool → List ℕ → List ℕ
seen_in AsPrinted control bytes = bytes
seen_in Exchanged control bytes = exchange_at (trailer_at control (length bytes)) bytes

pub seen_twice : (order : Order) (control : Bool) (bytes : List ℕ) → seen_in order control (seen_in order control bytes) ≡ bytes
seen_twice AsPrinted control bytes = refl
seen_twice Exchanged control bytes =
    ap (λ n. exchange_at (trailer_at control n) (exchange_at (trailer_at control (length bytes)) bytes)) (length_exchange (trailer_at control (length bytes)) bytes)
    ∙ exchange_twice (trailer_at control (length bytes)) bytes

-- a telegram in an order is the printed one, seen so
body_long : (rec : Record) → 2 ≤ length (body_bytes rec)
body_long rec = omega (arith, length_body rec, (row_length (own_layout rec)).0)

frame_seen : (body : List ℕ) → 2 ≤ length body
    → exchange_at (trailer_at true (length (2 ∷ body ++ 3 ∷ []))) (2 ∷ body ++ 3 ∷ []) ≡ 2 ∷ exchange_at (length body - 2) body ++ 3 ∷ []
frame_seen body long =
    let at : trailer_at true (length (2 ∷ body ++ 3 ∷ [])) ≡ suc (length body - 2) = omega (arith, length-append body (3 ∷ [])) in
    ap (λ n. exchange_at n (2 ∷ body ++ 3 ∷ [])) at
    ∙ ap (◌∷◌ 2) (exchange_before (length body - 2) body (3 ∷ []) (omega arith))

pub telegram_seen : (order : Order) (control : Bool) (rec : Record) → seen_in order control (telegram_of control rec) ≡ telegram_in order control rec
telegram_seen AsPrinted control rec = refl
telegram_seen Exchanged true rec = frame_seen (body_bytes rec) (body_long rec)
telegram_seen Exchanged false rec = refl

pub length_telegram : (order : Order) (control : Bool) (rec : Record) → length (telegram_in order control rec) ≡ length (telegram_of control rec)
length_telegram order true rec =
    omega (arith, length-append (in_order order (body_bytes rec)) (3 ∷ []), length-append (body_bytes rec) (3 ∷ []), length_in_order order (body_bytes rec))
length_telegram order false rec = length_in_order order (body_bytes rec)

-- what is read in an order is what is read, as printed, of the bytes seen so
by_parts : (order : Order) (control : Bool) (bytes seen : List ℕ) → body_in order control bytes ≡ body_of control seen → framed bytes ≡ framed seen
    → read_in order control bytes ≡ read_of control seen
unfolding read_in
by_parts order control bytes seen body frame = rw (body, frame)

module _ (first : ℕ) (rest : List ℕ) (long : 3 ≤ length rest) where
  abbrev at : ℕ
  at = length rest - 3

  place : trailer_at true (length (first ∷ rest)) ≡ suc at
  place = omega arith

  abbrev seen : List ℕ
  seen = first ∷ exchange_at at rest

  long_body : body_in Exchanged true (first ∷ rest) ≡ body_of true seen
  long_body =
      let size : suc (length rest) - 2 ≡ at + 2 = omega arith in
      let same : suc (length (exchange_at at rest)) - 2 ≡ at + 2 = omega (arith, length_exchange at rest) in
      let body : length (take (at + 2) rest) - 2 ≡ at = omega (arith, length-take-le (at + 2) rest (omega arith)) in
      ap (λ n. exchange_at (length (take n rest) - 2) (take n rest)) size
      ∙ ap (λ n. exchange_at n (take (at + 2) rest)) body
      ∙ sym (exchange_take at (at + 2) rest (omega arith))
      ∙ ap (λ n. take n (exchange_at at rest)) (sym same)

  long_frame : framed (first ∷ rest) ≡ framed seen
  long_frame =
      let last : suc (length rest) - 1 ≡ suc (at + 2) = omega arith in
      let same : suc (length (exchange_at at rest)) - 1 ≡ suc (at + 2) = omega (arith, length_exchange at rest) in
      ap (λ n. eqb first 2 && eqb (get_or (first ∷ rest) n 0) 3) last
      ∙ ap (λ byte. eqb first 2 && eqb byte 3) (sym (exchange_behind at (at + 2) rest (omega arith)))
      ∙ ap (λ n. eqb first 2 && eqb (get_or seen n 0) 3) (sym same)

  long_seen : read_in Exchanged true (first ∷ rest) ≡ read_of true (exchange_at (trailer_at true (length (first ∷ rest))) (first ∷ rest))
  long_seen =
      by_parts Exchanged true (first ∷ rest) seen long_body long_frame ∙ ap (λ n. read_of true (exchange_at n (first ∷ rest))) (sym place)

pub read_seen : (order : Order) (control : Bool) (bytes : List ℕ) → read_in order control bytes ≡ read_of control (seen_in order control bytes)
unfolding read_in layout_of
read_seen AsPrinted control bytes = refl
read_seen Exchanged false bytes = refl
read_seen Exchanged true [] = refl
read_seen Exchanged true (a ∷ []) = refl
read_seen Exchanged true (a ∷ b ∷ []) = refl
read_seen Exchanged true (a ∷ b ∷ c ∷ []) = refl
read_seen Exchanged true (a ∷ b ∷ c ∷ d ∷ more) = long_seen a (b ∷ c ∷ d ∷ more) (omega arith)

-- (a) what the writer makes of a good record reads back as that record, in either order
pub reads_back_law : (order : Order) (control : Bool) (rec : Record) → refusal_of rec ≡ 0 → read_in order control (telegram_in order control rec) ≡ done rec
reads_back_law order control rec none =
    read_seen order control (telegram_in order control rec)
    ∙ ap (λ bytes. read_of control (seen_in order control bytes)) (sym (telegram_seen order control rec))
    ∙ ap (read_of control) (seen_twice order control (telegram_of control rec))
    ∙ written_reads_back rec none control

-- (b) what the reader accepts is what the writer makes of the record it gave, and that record is good
pub record Accepted (order : Order) (control : Bool) (bytes : List ℕ) (rec : Record) : Type 0 where
  pub is_good_law : refusal_of rec ≡ 0
  pub is_written : telegram_in order control rec ≡ bytes

pub accepted : (order : Order) (control : Bool) (bytes : List ℕ) (rec : Record) → read_in order control bytes ≡ done rec → Accepted order control bytes rec
accepted order control bytes rec e =
    let made = accepted_is_written control (seen_in order control bytes) rec (sym (read_seen order control bytes) ∙ e) in
    record {
      is_good_law = made.is_good_law;
      is_written = sym (telegram_seen order control rec) ∙ ap (seen_in order control) made.is_written ∙ seen_twice order control bytes;
    }
