-- The ways in which writing a command ends, over the definitions. Assumes nothing.
use mathlib.Core.Path.{◌≡◌, ap, ap₂, sym, ◌∙◌}
use mathlib.Core.List.{List, map}
use Prim.Native.Nat.{ℕ, ◌≤◌, ◌<◌}
use native.Mathlib.Omega.{arith}
use lib.ListN.{length}
use Rattle.refusals.specs.Refusals.{done, refused}
use Rattle.refusals.proofs.Laws.{refuses, does}
use Rattle.lent_buffer.specs.Laying.{laid}
use Rattle.lent_buffer.proofs.LayingLaws.{laid_short, laid_fits, laid_refused}
use Rattle.places_rules.specs.Places.{place, render, over}
use Rattle.places_rules.proofs.Rendering.{length_render}
use Rattle.telegram_rules.proofs.WriteLaws.{over_room}
use Rattle.remote_rules.specs.declared.Command.{Command}
use Rattle.remote_rules.specs.Rows.{row_of, row_numbers}
use Rattle.remote_rules.specs.Coding.{own_form, digits_out}
use Rattle.remote_rules.specs.Rule.{refusal_of}
use Rattle.remote_rules.specs.Writing.{command_bytes, telegram_for}
use Rattle.remote_rules.proofs.RowLaws.{row_kept, row_size}

module _ (command : Command) (out : List ℕ) where
  pub ends_refused : (n : ℕ) → n ≡ refusal_of command → (n ≡ 0 → ⊥) → laid (telegram_for command) out ≡ (refused n, out)
  unfolding telegram_for
  ends_refused n e some = ap (λ o. laid o out) (sym (refuses (command_bytes command) e some)) ∙ laid_refused n out

  module _ (good : refusal_of command ≡ 0) (row : List ℕ) (kept : row ≡ row_numbers (own_form command)) where
    made : telegram_for command ≡ done (command_bytes command)
    unfolding telegram_for
    made = does (command_bytes command) good

    size : length (command_bytes command) ≡ length row
    unfolding command_bytes
    size = length_render (row_of (own_form command)) (digits_out command) ∙ sym (row_size (own_form command) row kept)

    pub ends_short : length out < length row → laid (telegram_for command) out ≡ (refused 13, out)
    ends_short short = ap (λ o. laid o out) made ∙ laid_short (command_bytes command) out (omega (arith, size))

    -- what the code's row and digits make of the buffer
    pub ends_written : length row ≤ length out → (digits last : List ℕ) → digits ≡ digits_out command
        → last ≡ over (render (map place row) digits) out → laid (telegram_for command) out ≡ (done (length row), last)
    unfolding command_bytes
    ends_written room digits last carry e =
        let fits : length (command_bytes command) ≤ length out = omega (arith, size) in
        let bytes = e ∙ ap₂ (λ r d. over (render r d) out) (row_kept (own_form command) row kept) carry ∙ over_room (command_bytes command) out fits in
        ap (λ o. laid o out) made ∙ laid_fits (command_bytes command) out fits ∙ ap₂ (λ n l. (done n, l)) size (sym bytes)
