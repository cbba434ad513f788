-- No telegram of the seven layouts is taken for a command: each has a digit in fifth place. Assumes nothing.
use mathlib.Core.Path.{◌≡◌, refl, ap, sym, ◌∙◌}
use mathlib.Core.Bool.{Bool, true, false, cond}
use mathlib.Core.List.{List, [], ◌∷◌}
use Prim.Native.Nat.{ℕ, ◌+◌, ◌-◌, ◌%◌}
use native.Mathlib.Omega.{arith}
use lib.Dec.{ltb}
use lib.ListN.{length, get_or, get_or-append}
use borrow.Author.Tests.{ne_eqb, ltb-true, ltb-false}
use Rattle.refusals.specs.Refusals.{done}
use Rattle.ascii.specs.Control.{etx}
use Rattle.places_rules.specs.Places.{fixed, is_decimal, decimal_holds, every, code_character, render}
use Rattle.places_rules.proofs.RoundTrip.{decimals_rendered, every_at_law}
use Rattle.record_rules.specs.declared.DatedLayout.TheVariants.{L6021, L2000, L5500, L5050}
use Rattle.record_rules.specs.declared.TimeLayout.TheVariants.{T6021, T5500, T5050}
use Rattle.record_rules.specs.declared.Record.{Record}
use Rattle.record_rules.specs.Rule.{refusal_of}
use Rattle.layouts_rules.specs.declared.Layout.{Layout}
use Rattle.layouts_rules.specs.declared.Layout.TheVariants.{Dated, TimeOnly}
use Rattle.layouts_rules.specs.Layouts.{places_of, own_layout}
use Rattle.layouts_rules.specs.Coding.{digits_out}
use Rattle.layouts_rules.proofs.RowLaws.{row_length}
use Rattle.layouts_rules.proofs.Carried.{digits_held}
use Rattle.trailer_rules.specs.declared.Order.{Order}
use Rattle.trailer_rules.specs.declared.Order.TheVariants.{AsPrinted, Exchanged}
use Rattle.trailer_rules.specs.Trailer.{in_order}
use Rattle.trailer_rules.proofs.TrailerLaws.{exchange_ahead, length_in_order}
use Rattle.telegram_rules.specs.Reading.{read_in}
use Rattle.telegram_rules.specs.Writing.{body_bytes, telegram_in}
use Rattle.telegram_rules.proofs.WriteLaws.{length_body}
use Rattle.telegram_rules.proofs.InOrder.{accepted}
use Rattle.remote_rules.specs.Rows.{colon, is_command}

-- the fourth place of each layout's row is one of a decimal digit
fourth_place : (layout : Layout) (byte : ℕ) → decimal_holds (get_or (places_of layout) 3 (fixed 0)) byte ≡ is_decimal byte
unfolding places_of
fourth_place (Dated L6021) byte = refl
fourth_place (Dated L2000) byte = refl
fourth_place (Dated L5500) byte = refl
fourth_place (Dated L5050) byte = refl
fourth_place (TimeOnly T6021) byte = refl
fourth_place (TimeOnly T5500) byte = refl
fourth_place (TimeOnly T5050) byte = refl

-- so that a digit or a capital A to F is shown there, and no colon
fourth_shown : (layout : Layout) (digits : List ℕ) → (value : ℕ) × (get_or (render (places_of layout) digits) 3 0 ≡ code_character value)
unfolding places_of render
fourth_shown (Dated L6021) digits = (get_or digits 3 0 % 16, refl)
fourth_shown (Dated L2000) digits = (get_or digits 3 0 % 16, refl)
fourth_shown (Dated L5500) digits = (get_or digits 3 0 % 16, refl)
fourth_shown (Dated L5050) digits = (get_or digits 4 0 % 16, refl)
fourth_shown (TimeOnly T6021) digits = (get_or digits 5 0 % 16, refl)
fourth_shown (TimeOnly T5500) digits = (get_or digits 5 0 % 16, refl)
fourth_shown (TimeOnly T5050) digits = (get_or digits 4 0 % 16, refl)

not_colon : (value : ℕ) → code_character value ≡ colon → ⊥
unfolding code_character
not_colon value = go (ltb value 10) refl
  where
    go : (t : Bool) → ltb value 10 ≡ t → cond t (value + 48) (value + 55) ≡ colon → ⊥
    go true small e = absurd (omega (arith, ltb-true value 10 small))
    go false large e = absurd (omega (arith, ltb-false value 10 large))

-- STX is the first character, so that the fourth behind it is the fifth, in either order
module _ (order : Order) (rec : Record) where
  fourth_kept : (order : Order) → get_or (in_order order (body_bytes rec)) 3 0 ≡ get_or (body_bytes rec) 3 0
  fourth_kept AsPrinted = refl
  fourth_kept Exchanged =
      exchange_ahead (length (body_bytes rec) - 2) 3 (body_bytes rec) (omega (arith, length_body rec, (row_length (own_layout rec)).0))

  fifth_is_fourth : get_or (telegram_in order true rec) 4 0 ≡ get_or (body_bytes rec) 3 0
  fifth_is_fourth =
      get_or-append (in_order order (body_bytes rec)) (etx ∷ []) 0 3
      (omega (arith, length_in_order order (body_bytes rec), length_body rec, (row_length (own_layout rec)).0))
      ∙ fourth_kept order

  -- no record's telegram is a command, good or not
  pub no_command : is_command (telegram_in order true rec) ≡ false
  unfolding body_bytes
  no_command =
      let shown = fourth_shown (own_layout rec) (digits_out rec) in
      ne_eqb (get_or (telegram_in order true rec) 4 0) colon (λ same. not_colon shown.0 (sym shown.1 ∙ sym fifth_is_fourth ∙ same))

  -- and a good one's has a digit there
  module _ (none : refusal_of rec ≡ 0) where
    all_decimal : every decimal_holds (places_of (own_layout rec)) (body_bytes rec) ≡ true
    unfolding body_bytes
    all_decimal = decimals_rendered (places_of (own_layout rec)) (digits_out rec) (digits_held rec none).each

    pub digit_in_fifth_place : is_decimal (get_or (telegram_in order true rec) 4 0) ≡ true
    digit_in_fifth_place =
        let long = (row_length (own_layout rec)).0 in
        ap is_decimal fifth_is_fourth
        ∙ sym (fourth_place (own_layout rec) (get_or (body_bytes rec) 3 0))
        ∙ every_at_law decimal_holds (places_of (own_layout rec)) (body_bytes rec) (fixed 0) all_decimal 3 (omega arith) (omega (arith, length_body rec))

-- what is accepted as a stamp is no command
module _ (order : Order) (bytes : List ℕ) (rec : Record) (e : read_in order true bytes ≡ done rec) where
  pub accepted_digit : is_decimal (get_or bytes 4 0) ≡ true
  accepted_digit =
      let a = accepted order true bytes rec e in
      ap (λ b. is_decimal (get_or b 4 0)) (sym a.is_written) ∙ digit_in_fifth_place order rec a.is_good_law

  pub accepted_no_command : is_command bytes ≡ false
  accepted_no_command = ap is_command (sym (accepted order true bytes rec e).is_written) ∙ no_command order rec
