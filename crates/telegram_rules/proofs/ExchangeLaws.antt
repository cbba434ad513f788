-- The ways in which reading and writing end where the trailer is exchanged, over the definitions. Assumes nothing.
use mathlib.Core.Path.{◌≡◌, refl, ap, ap₂, sym, ◌∙◌}
use mathlib.Core.Bool.{Bool, true, false}
use mathlib.Core.List.{List, ◌++◌}
use Prim.Native.Nat.{ℕ, ◌+◌, ◌-◌, ◌≤◌, ◌<◌}
use native.Mathlib.Omega.{arith}
use lib.Dec.{ltb}
use lib.ListN.{length, take, drop, length-take, length-drop}
use lib.Seq.{take_all}
use borrow.Author.Tests.{ne_eqb, ltb-true, ltb-false}
use Rattle.refusals.specs.Refusals.{done, refused}
use Rattle.lent_buffer.specs.Laying.{laid}
use Rattle.lent_buffer.proofs.LayingLaws.{laid_short, laid_fits, within_done, stands}
use Rattle.trailer_rules.specs.declared.Order.{Order}
use Rattle.trailer_rules.specs.declared.Order.TheVariants.{AsPrinted, Exchanged}
use Rattle.trailer_rules.specs.Trailer.{trailer_at, exchange_at}
use Rattle.trailer_rules.proofs.TrailerLaws.{exchange_before, exchange_take, length_in_order}
use Rattle.record_rules.specs.declared.Record.{Record}
use Rattle.layouts_rules.specs.Layouts.{own_layout, layout_of}
use Rattle.layouts_rules.proofs.RowLaws.{row_length}
use Rattle.telegram_rules.specs.Reading.{body_of, body_in, read_in, read_of}
use Rattle.telegram_rules.specs.Writing.{telegram_in, telegram_of}
use Rattle.telegram_rules.proofs.WriteLaws.{length_body, length_framed}
use Rattle.telegram_rules.proofs.InOrder.{telegram_seen, length_telegram, read_seen}

-- the trailer has two bytes
trailer_fits : (control : Bool) (size : ℕ) → 3 ≤ size → trailer_at control size + 2 ≤ size
trailer_fits true size long = omega arith
trailer_fits false size long = omega arith

-- no telegram is shorter than 8 bytes or longer than 25: 1
no_layout : (body : List ℕ) → ((n : ℕ) → 8 ≤ n → n ≤ 23 → length body ≡ n → ⊥) → layout_of body ≡ refused 1
unfolding layout_of
no_layout body other =
    rw (
      ne_eqb (length body) 16 (other 16 (omega arith) (omega arith)),
      ne_eqb (length body) 8 (other 8 (omega arith) (omega arith)),
      ne_eqb (length body) 18 (other 18 (omega arith) (omega arith)),
      ne_eqb (length body) 19 (other 19 (omega arith) (omega arith)),
      ne_eqb (length body) 23 (other 23 (omega arith) (omega arith)),
      ne_eqb (length body) 11 (other 11 (omega arith) (omega arith)),
    )

body_size : (control : Bool) (bytes : List ℕ) → (length (body_of control bytes) ≤ length bytes) × (length bytes ≤ length (body_of control bytes) + 2)
body_size true bytes =
    let rest = length-drop 1 bytes in
    let body = length-take (length bytes - 2) (drop 1 bytes) in (omega arith, omega arith)
body_size false bytes = (omega arith, omega arith)

module _ (order : Order) (control : Bool) (bytes : List ℕ) where
  unread : layout_of (body_in order control bytes) ≡ refused 1 → refused 1 ≡ read_in order control bytes
  unfolding read_in
  unread none = rw none

  same_size : length (body_in order control bytes) ≡ length (body_of control bytes)
  same_size = length_in_order order (body_of control bytes)

  pub too_short : length bytes < 8 → refused 1 ≡ read_in order control bytes
  too_short short = unread (no_layout _ (λ n least most is. omega (arith, is, same_size, (body_size control bytes).0)))

  pub too_long : 25 < length bytes → refused 1 ≡ read_in order control bytes
  too_long long = unread (no_layout _ (λ n least most is. omega (arith, is, same_size, (body_size control bytes).1)))

-- a copy whose trailer was exchanged is read as printed; what is too short for a trailer is too short for a telegram
pub copy_read : (control : Bool) (bytes copy : List ℕ) → take (length bytes) copy ≡ take (length bytes) bytes
    → read_of control (take (length bytes) (exchange_at (trailer_at control (length bytes)) copy)) ≡ read_in Exchanged control bytes
copy_read control bytes copy same = go (ltb (length bytes) 3) refl
  where
    at : ℕ
    at = trailer_at control (length bytes)

    go : (short : Bool) → ltb (length bytes) 3 ≡ short → read_of control (take (length bytes) (exchange_at at copy)) ≡ read_in Exchanged control bytes
    go true is =
        let short = ltb-true (length bytes) 3 is in
        let few = length-take (length bytes) (exchange_at at copy) in
        sym (too_short AsPrinted control (take (length bytes) (exchange_at at copy)) (omega arith)) ∙ too_short Exchanged control bytes (omega arith)
    go false is =
        ap (read_of control)
        (exchange_take at (length bytes) copy (trailer_fits control (length bytes) (ltb-false (length bytes) 3 is))
        ∙ ap (exchange_at at) (same ∙ take_all (length bytes) bytes (omega arith)))
        ∙ sym (read_seen Exchanged control bytes)

-- a telegram that was laid, and whose trailer was exchanged, is the one in exchanged order
module _ (control : Bool) (rec : Record) (buffer : List ℕ) where
  abbrev printed : List ℕ
  printed = telegram_of control rec

  abbrev exchanged : List ℕ
  exchanged = telegram_in Exchanged control rec

  same : length exchanged ≡ length printed
  same = length_telegram Exchanged control rec

  long : (control : Bool) → 8 ≤ length (telegram_of control rec)
  long true = omega (arith, length_framed rec, length_body rec, (row_length (own_layout rec)).0)
  long false = omega (arith, length_body rec, (row_length (own_layout rec)).0)

  pub laid_then : (n : ℕ) (last : List ℕ) → laid (done printed) buffer ≡ (done n, last)
      → laid (done exchanged) buffer ≡ (done n, exchange_at (trailer_at control n) last)
  laid_then n last e =
      let s = stands (done printed) buffer n last e in
      let fits = within_done (length buffer) (done printed) s.bytes s.is_laid in
      let whole : printed ≡ s.bytes = cc in
      let size : length printed ≡ n = ap length whole ∙ s.size in
      let at = trailer_at control (length printed) in
      laid_fits exchanged buffer (omega (arith, same, fits.1, s.size, size))
      ∙ ap (λ k. (done k, exchanged ++ drop k buffer)) (same ∙ size)
      ∙ ap (λ bytes. (done n, bytes))
      (ap (λ bytes. bytes ++ drop n buffer) (sym (telegram_seen Exchanged control rec))
      ∙ sym (exchange_before at printed (drop n buffer) (trailer_fits control (length printed) (omega (arith, long control))))
      ∙ ap₂ (λ k bytes. exchange_at (trailer_at control k) bytes) size (ap (λ bytes. bytes ++ drop n buffer) whole ∙ sym s.last_is))

  pub laid_not : (n : ℕ) (last : List ℕ) → laid (done printed) buffer ≡ (refused n, last) → laid (done exchanged) buffer ≡ (refused n, last)
  laid_not n last e = go (ltb (length buffer) (length printed)) refl
    where
      go : (short : Bool) → ltb (length buffer) (length printed) ≡ short → laid (done exchanged) buffer ≡ (refused n, last)
      go true is =
          let short = ltb-true (length buffer) (length printed) is in
          laid_short exchanged buffer (omega (arith, same)) ∙ sym (laid_short printed buffer short) ∙ e
      go false is =
          let fits = ltb-false (length buffer) (length printed) is in
          let told : done (length printed) ≡ refused n = ap (λ p. p.0) (sym (laid_fits printed buffer (omega arith)) ∙ e) in
          let z : ◌≡◌ {A = ℕ} 0 1 = cc in
          absurd (omega arith)
