-- What stands between STX and ETX of a message holds neither, and is short. Assumes nothing.
use mathlib.Core.Path.{◌≡◌, refl, ap, ◌∙◌}
use mathlib.Core.Bool.{Bool, true, false, cond, ◌&&◌}
use mathlib.Core.List.{List, [], ◌∷◌}
use Prim.Native.Nat.{ℕ, zero, suc, ◌+◌, ◌-◌, ◌%◌, ◌≤◌}
use native.Mathlib.Omega.{arith}
use lib.Dec.{ltb}
use lib.ListN.{length, get_or}
use borrow.Author.Tests.{ne_eqb}
use Rattle.refusals.proofs.Laws.{both}
use Rattle.ascii.specs.Control.{stx, etx, is_plain, all_plain}
use Rattle.places_rules.specs.Places.{Place, fixed, decimal, code, code_character, byte_at, render}
use Rattle.places_rules.proofs.Rows.{plain_place, plain}
use Rattle.places_rules.proofs.Rendering.{length_render}
use Rattle.record_rules.specs.declared.Record.{Record}
use Rattle.layouts_rules.specs.Layouts.{places_of, own_layout}
use Rattle.layouts_rules.specs.Coding.{digits_out}
use Rattle.layouts_rules.proofs.RowLaws.{row_plain, row_length}
use Rattle.trailer_rules.specs.declared.Order.{Order}
use Rattle.trailer_rules.specs.declared.Order.TheVariants.{AsPrinted, Exchanged}
use Rattle.trailer_rules.specs.Trailer.{exchange_at}
use Rattle.trailer_rules.proofs.TrailerLaws.{length_in_order}
use Rattle.telegram_rules.specs.Writing.{body_bytes}
use Rattle.remote_rules.specs.Writing.{inner_bytes}
use Rattle.remote_rules.specs.Rows.{inner_row}
use Rattle.remote_rules.specs.Coding as remote
use Rattle.remote_rules.proofs.RowLaws.{inner_plain, inner_length}
use Rattle.message_rules.specs.declared.Message.{Message}
use Rattle.message_rules.specs.declared.Message.TheVariants.{Stamp, Remote}
use Rattle.message_rules.specs.Messages.{inner_of}

-- characters are plain
plain_above : (byte : ℕ) → 4 ≤ byte → is_plain byte ≡ true
plain_above byte above = simp (ne_eqb byte stx (λ e. absurd (omega arith)), ne_eqb byte etx (λ e. absurd (omega arith)))

character_above : (t : Bool) (value : ℕ) → 4 ≤ cond t (value + 48) (value + 55)
character_above true value = omega arith
character_above false value = omega arith

plain_character : (value : ℕ) → is_plain (code_character value) ≡ true
unfolding code_character
plain_character value = plain_above (cond (ltb value 10) (value + 48) (value + 55)) (character_above (ltb value 10) value)

plain_at : (digits : List ℕ) (p : Place) → plain_place p ≡ true → is_plain (byte_at digits p) ≡ true
plain_at digits (fixed character) s = s
plain_at digits (decimal slot) s = plain_character (get_or digits slot 0 % 16)
plain_at digits (code slot) s = plain_character (get_or digits slot 0 % 16)

plain_rendered : (row : List Place) (digits : List ℕ) → plain row ≡ true → all_plain (render row digits) ≡ true
unfolding render
plain_rendered [] digits s = refl
plain_rendered (p ∷ row) digits s =
    let parts = both (plain_place p) (plain row) s in
    rw (plain_at digits p parts.0) (plain_rendered row digits parts.1)

plain_printed : (rec : Record) → all_plain (body_bytes rec) ≡ true
unfolding body_bytes
plain_printed rec = plain_rendered (places_of (own_layout rec)) (digits_out rec) (row_plain (own_layout rec))

-- in either order
swapped : (a b c : Bool) → (a && (b && c)) ≡ (b && (a && c))
swapped true b c = refl
swapped false true c = refl
swapped false false c = refl

plain_exchanged : (at : ℕ) (bytes : List ℕ) → all_plain (exchange_at at bytes) ≡ all_plain bytes
plain_exchanged zero [] = refl
plain_exchanged zero (first ∷ []) = refl
plain_exchanged zero (first ∷ second ∷ more) = swapped (is_plain second) (is_plain first) (all_plain more)
plain_exchanged (suc at) [] = refl
plain_exchanged (suc at) (first ∷ more) = ap (◌&&◌ (is_plain first)) (plain_exchanged at more)

pub plain_inner : (order : Order) (message : Message) → all_plain (inner_of order message) ≡ true
unfolding inner_bytes
plain_inner AsPrinted (Stamp rec) = plain_printed rec
plain_inner Exchanged (Stamp rec) = plain_exchanged (length (body_bytes rec) - 2) (body_bytes rec) ∙ plain_printed rec
plain_inner order (Remote command) = plain_rendered (inner_row (remote.own_form command)) (remote.digits_out command) (inner_plain (remote.own_form command))

-- "none that will be accepted is longer than 30"
pub inner_short : (order : Order) (message : Message) → length (inner_of order message) ≤ 28
unfolding body_bytes inner_bytes
inner_short order (Stamp rec) =
    omega (
      arith,
      length_in_order order (body_bytes rec),
      length_render (places_of (own_layout rec)) (digits_out rec),
      (row_length (own_layout rec)).1,
    )
inner_short order (Remote command) =
    omega (arith, length_render (inner_row (remote.own_form command)) (remote.digits_out command), inner_length (remote.own_form command))
