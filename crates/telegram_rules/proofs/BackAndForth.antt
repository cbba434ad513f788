-- Demand 2, over the definitions: what is written reads back, and what reads is what is written. Assumes nothing.
use mathlib.Core.Path.{◌≡◌, refl, ap, ap₂, sym, ◌∙◌}
use mathlib.Core.Bool.{Bool, true, false, not, ◌&&◌}
use mathlib.Core.List.{List, [], ◌∷◌, ◌++◌}
use Prim.Native.Nat.{ℕ, ◌≤◌}
use native.Mathlib.Omega.{arith}
use lib.ListN.{length}
use borrow.Author.Tests.{not-false}
use Rattle.refusals.specs.Refusals.{◌when◌, ◌else◌, Outcome, done, refused, unless, after}
use Rattle.refusals.proofs.Laws.{was_done, does, when_none, else_none}
use Rattle.places_rules.specs.Places.{fixed_holds, decimal_holds, code_holds, every, gather, row_fault, no_digits, render}
use Rattle.places_rules.proofs.RoundTrip.{fixed_rendered, decimals_rendered, codes_rendered, reads_back_law, makes_again, held_gather}
use Rattle.record_rules.specs.declared.Record.{Record}
use Rattle.record_rules.specs.Rule.{refusal_of}
use Rattle.layouts_rules.specs.declared.Layout.{Layout}
use Rattle.layouts_rules.specs.Layouts.{places_of, own_layout, layout_of}
use Rattle.layouts_rules.specs.Coding.{record_in, digits_out}
use Rattle.layouts_rules.proofs.RowLaws.{row_distinct, row_slotted, row_length, row_fits, found_again}
use Rattle.layouts_rules.proofs.Carried.{own_layout_law, record_back, digits_held, digits_back}
use Rattle.telegram_rules.specs.Reading.{body_of, framed, carried, body_refusal, read_in, read_of}
use Rattle.telegram_rules.specs.Writing.{body_bytes, telegram_of}
use Rattle.telegram_rules.proofs.WriteLaws.{length_body}
use Rattle.telegram_rules.proofs.Frames.{body_of_frame, frame_is_framed, frame_of_body}

-- A good record's body reads as that record.
module _ (rec : Record) (none : refusal_of rec ≡ 0) where
  body_layout : layout_of (body_bytes rec) ≡ done (own_layout rec)
  unfolding body_bytes
  body_layout =
      found_again (own_layout rec) (body_bytes rec) (length_body rec) (fixed_rendered (places_of (own_layout rec)) (digits_out rec))

  body_carries : carried (own_layout rec) (body_bytes rec) ≡ rec
  unfolding carried body_bytes
  body_carries =
      ap (record_in (own_layout rec)) (reads_back_law (places_of (own_layout rec)) (digits_out rec) (digits_held rec none) (row_slotted (own_layout rec)))
      ∙ record_back rec none

  body_fits : (every fixed_holds (places_of (own_layout rec)) (body_bytes rec) ≡ true)
      × (every decimal_holds (places_of (own_layout rec)) (body_bytes rec) ≡ true)
      × (every code_holds (places_of (own_layout rec)) (body_bytes rec) ≡ true)
  unfolding body_bytes
  body_fits = (
    fixed_rendered (places_of (own_layout rec)) (digits_out rec),
    decimals_rendered (places_of (own_layout rec)) (digits_out rec) (digits_held rec none).each,
    codes_rendered (places_of (own_layout rec)) (digits_out rec),
  )

  body_good : body_refusal (own_layout rec) (body_bytes rec) ≡ 0
  unfolding body_refusal
  body_good = rw (body_fits.0, body_fits.1, body_fits.2) (ap refusal_of body_carries ∙ none)

  telegram_body : (control : Bool) → body_of control (telegram_of control rec) ≡ body_bytes rec
  telegram_body true = body_of_frame (body_bytes rec)
  telegram_body false = refl

  telegram_framed : (control : Bool) → (control && not (framed (telegram_of control rec))) ≡ false
  telegram_framed true = rw (frame_is_framed (body_bytes rec))
  telegram_framed false = refl

  -- (a) what the writer makes of a good record reads back as that record
  pub written_reads_back : (control : Bool) → read_of control (telegram_of control rec) ≡ done rec
  unfolding read_in
  written_reads_back control =
      rw (telegram_body control, body_layout, telegram_framed control) (does _ body_good ∙ ap done body_carries)

-- A body that reads as a good record is what that record's body is.
module _ (layout : Layout) (body : List ℕ) (same : length body ≡ length (places_of layout)) (good : body_refusal layout body ≡ 0) where
  tests : (every fixed_holds (places_of layout) body ≡ true) × (every decimal_holds (places_of layout) body ≡ true)
      × (every code_holds (places_of layout) body ≡ true) × (refusal_of (carried layout body) ≡ 0)
  unfolding body_refusal
  tests =
      let row = else_none (row_fault (places_of layout) body) _ good in
      let three = else_none (3 when not (every fixed_holds (places_of layout) body)) _ row.0 in
      let four = else_none (4 when not (every decimal_holds (places_of layout) body)) _ three.1 in
      (not-false _ (when_none 2 _ three.0), not-false _ (when_none 3 _ four.0), not-false _ (when_none 4 _ four.1), row.1)

  digits_again : digits_out (carried layout body) ≡ gather (places_of layout) body no_digits
  unfolding carried
  digits_again =
      digits_back layout (gather (places_of layout) body no_digits)
      (held_gather (places_of layout) body (row_distinct layout) (row_slotted layout) same tests.1 tests.2)

  layout_again : own_layout (carried layout body) ≡ layout
  unfolding carried
  layout_again = own_layout_law layout (gather (places_of layout) body no_digits)

  body_again : body_bytes (carried layout body) ≡ body
  unfolding body_bytes
  body_again =
      ap₂ (λ l d. render (places_of l) d) layout_again digits_again
      ∙ makes_again (places_of layout) body no_digits (row_distinct layout) (row_slotted layout) same refl tests.0 tests.1 tests.2

-- (b) what the reader accepts is what the writer makes of the record it gave, and that record is good
pub record Accepted (control : Bool) (bytes : List ℕ) (rec : Record) : Type 0 where
  pub is_good_law : refusal_of rec ≡ 0
  pub is_written : telegram_of control rec ≡ bytes

telegram_again : (control : Bool) (bytes : List ℕ) (rec : Record) → body_bytes rec ≡ body_of control bytes → 1 ≤ length (body_of control bytes)
    → (control && not (framed bytes)) ≡ false → telegram_of control rec ≡ bytes
telegram_again true bytes rec e some f =
    ap (λ body. 2 ∷ body ++ 3 ∷ []) e ∙ frame_of_body bytes some (not-false _ f)
telegram_again false bytes rec e some f = e

pub accepted_is_written : (control : Bool) (bytes : List ℕ) (rec : Record) → read_of control bytes ≡ done rec → Accepted control bytes rec
unfolding read_in
accepted_is_written control bytes rec = go (layout_of (body_of control bytes)) refl
  where
    body : List ℕ
    body = body_of control bytes

    go : (o : Outcome Layout) → layout_of body ≡ o
        → after o (λ layout. unless (2 when (control && not (framed bytes)) else body_refusal layout body) (carried layout body)) ≡ done rec
        → Accepted control bytes rec
    go (done layout) found e =
        let read = was_done _ (carried layout body) rec e in
        let parts = else_none (2 when (control && not (framed bytes))) _ read.0 in
        let fits = row_fits body layout found in
        let again = ap body_bytes (sym read.1) ∙ body_again layout body fits parts.1 in
        record {
          is_good_law = ap refusal_of (sym read.1) ∙ (tests layout body fits parts.1).3;
          is_written = telegram_again control bytes rec again (omega (arith, fits, (row_length layout).0)) (when_none 1 _ parts.0);
        }
    go (refused n) found e = let z : ◌≡◌ {A = ℕ} 0 1 = cc in absurd (omega arith)
