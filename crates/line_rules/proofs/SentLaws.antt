-- Laws of what is sent: the body of a telegram is plain, and a telegram on the line is one event. Assumes nothing.
use mathlib.Core.Path.{◌≡◌, refl, ap, sym, ◌∙◌}
use mathlib.Core.Bool.{Bool, true, false, cond, not, ◌&&◌}
use mathlib.Core.List.{List, [], ◌∷◌, ◌++◌, map, append-nil, append_assoc}
use Prim.Native.Nat.{ℕ, zero, suc, ◌+◌, ◌-◌, ◌%◌, ◌≤◌, ◌<◌}
use native.Mathlib.Nat.{add-zero}
use native.Mathlib.Omega.{arith}
use lib.Dec.{eqb, ltb}
use lib.ListN.{length, get_or, length-append}
use borrow.Author.Tests.{ne_eqb, lt-leb, not-true}
use Rattle.refusals.proofs.Laws.{both}
use Rattle.places_rules.specs.Places.{Place, fixed, decimal, code, code_character, byte_at, render}
use Rattle.places_rules.proofs.Rows.{sound_place, sound}
use Rattle.places_rules.proofs.Rendering.{length_render}
use Rattle.record_rules.specs.declared.Record.{Record}
use Rattle.layouts_rules.specs.Layouts.{places_of, own_layout}
use Rattle.layouts_rules.specs.Coding.{digits_out}
use Rattle.layouts_rules.proofs.RowLaws.{row_sound, row_length}
use Rattle.trailer_rules.specs.declared.Order.{Order}
use Rattle.trailer_rules.specs.declared.Order.TheVariants.{AsPrinted, Exchanged}
use Rattle.trailer_rules.specs.Trailer.{exchange_at, in_order}
use Rattle.trailer_rules.proofs.TrailerLaws.{length_in_order}
use Rattle.telegram_rules.specs.Writing.{body_bytes}
use Rattle.ascii.specs.Control.{stx, etx}
use Rattle.line_rules.specs.Hearing.{Heard}
use Rattle.line_rules.specs.Line.{places, line_with, Line, is_plain, all_plain}
use Rattle.line_rules.specs.Events.{events_of, line_after}
use Rattle.line_rules.specs.SentLine.{no_stx}
use Rattle.line_rules.proofs.FeedLaws.{outside}

-- characters are plain
plain_above : (byte : ℕ) → 4 ≤ byte → is_plain byte ≡ true
plain_above byte above = simp (ne_eqb byte stx (λ e. absurd (omega arith)), ne_eqb byte etx (λ e. absurd (omega arith)))

character_above : (t : Bool) (value : ℕ) → 4 ≤ cond t (value + 48) (value + 55)
character_above true value = omega arith
character_above false value = omega arith

plain_character : (value : ℕ) → is_plain (code_character value) ≡ true
unfolding code_character
plain_character value = plain_above (cond (ltb value 10) (value + 48) (value + 55)) (character_above (ltb value 10) value)

plain_at : (digits : List ℕ) (p : Place) → sound_place p ≡ true → is_plain (byte_at digits p) ≡ true
plain_at digits (fixed character) s = s
plain_at digits (decimal slot) s = plain_character (get_or digits slot 0 % 16)
plain_at digits (code slot) s = plain_character (get_or digits slot 0 % 16)

plain_row : (row : List Place) (digits : List ℕ) → sound row ≡ true → all_plain (map (byte_at digits) row) ≡ true
plain_row [] digits s = refl
plain_row (p ∷ row) digits s =
    let parts = both (sound_place p) (sound row) s in
    rw (plain_at digits p parts.0, plain_row row digits parts.1)

plain_printed : (rec : Record) → all_plain (body_bytes rec) ≡ true
unfolding body_bytes render
plain_printed rec = plain_row (places_of (own_layout rec)) (digits_out rec) (row_sound (own_layout rec))

-- in either order
swapped : (a b c : Bool) → (a && (b && c)) ≡ (b && (a && c))
swapped true b c = refl
swapped false true c = refl
swapped false false c = refl

plain_exchanged : (at : ℕ) (bytes : List ℕ) → all_plain (exchange_at at bytes) ≡ all_plain bytes
plain_exchanged zero [] = refl
plain_exchanged zero (first ∷ []) = refl
plain_exchanged zero (first ∷ second ∷ more) = swapped (is_plain second) (is_plain first) (all_plain more)
plain_exchanged (suc at) [] = refl
plain_exchanged (suc at) (first ∷ more) = ap (◌&&◌ (is_plain first)) (plain_exchanged at more)

pub plain_body : (order : Order) (rec : Record) → all_plain (in_order order (body_bytes rec)) ≡ true
plain_body AsPrinted rec = plain_printed rec
plain_body Exchanged rec = plain_exchanged (length (body_bytes rec) - 2) (body_bytes rec) ∙ plain_printed rec

pub body_fits : (order : Order) (rec : Record) → length (in_order order (body_bytes rec)) < places
unfolding body_bytes
body_fits order rec =
    omega (
      arith,
      length_in_order order (body_bytes rec),
      length_render (places_of (own_layout rec)) (digits_out rec),
      (row_length (own_layout rec)).1,
    )

-- strays
abbrev pub Gives : Line → List ℕ → List Heard → Line → Type 0
Gives line bytes events after = (events_of line bytes ≡ events) × (line_after line bytes ≡ after)

pub strays_give : (order : Order) (fed stray : ℕ) (bytes : List ℕ) → no_stx bytes ≡ true → Gives (outside order fed stray) bytes [] (outside order (fed + length bytes) (stray + length bytes))
strays_give order fed stray [] none = (refl, λ i. outside order (sym (add-zero fed) i) (sym (add-zero stray) i))
strays_give order fed stray (byte ∷ bytes) none =
    let parts = both (not (eqb byte stx)) (no_stx bytes) none in
    let on = strays_give order (fed + 1) (stray + 1) bytes parts.1 in
    let f : fed + 1 + length bytes ≡ fed + suc (length bytes) = omega arith in
    let s : stray + 1 + length bytes ≡ stray + suc (length bytes) = omega arith in
    rw (not-true (eqb byte stx) parts.0) (on.0, on.1 ∙ (λ i. outside order (f i) (s i)))

-- plain bytes inside
pub plain_gives : (order : Order) (first : ℕ) (held : List ℕ) (fed stray : ℕ) (bytes : List ℕ) → all_plain bytes ≡ true → length (first ∷ held) + length bytes ≤ places
    → Gives (line_with (first ∷ held) fed stray order) bytes [] (line_with ((first ∷ held) ++ bytes) (fed + length bytes) stray order)
plain_gives order first held fed stray [] plain room = (refl, λ i. line_with (sym (append-nil (first ∷ held)) i) (sym (add-zero fed) i) stray order)
plain_gives order first held fed stray (byte ∷ bytes) plain room =
    let parts = both (is_plain byte) (all_plain bytes) plain in
    let apart = both (not (eqb byte stx)) (not (eqb byte etx)) parts.0 in
    let on = plain_gives order first (held ++ byte ∷ []) (fed + 1) stray bytes parts.1 (omega (arith, length-append held (byte ∷ []))) in
    let f : fed + 1 + length bytes ≡ fed + suc (length bytes) = omega arith in
    rw (not-true (eqb byte stx) apart.0, not-true (eqb byte etx) apart.1, lt-leb places (length (first ∷ held)) (omega arith), add-zero stray)
    (on.0, on.1 ∙ (λ i. line_with (first ∷ append_assoc held (byte ∷ []) bytes i) (f i) stray order))
