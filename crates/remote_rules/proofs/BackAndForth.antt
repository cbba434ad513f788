-- What is written reads back, and what is read is what is written. Assumes nothing.
use mathlib.Core.Path.{◌≡◌, refl, ap, sym, ◌∙◌}
use mathlib.Core.Bool.{true, not}
use mathlib.Core.List.{List, [], ◌∷◌, ◌++◌}
use Prim.Native.Nat.{ℕ}
use native.Mathlib.Omega.{arith}
use lib.ListN.{length}
use borrow.Author.Tests.{not-false}
use Rattle.refusals.specs.Refusals.{◌when◌, ◌else◌, Outcome, done, refused, unless, after}
use Rattle.refusals.proofs.Laws.{was_done, does, when_none, else_none}
use Rattle.ascii.specs.Control.{stx, etx}
use Rattle.places_rules.specs.Places.{Place, fixed, fixed_holds, decimal_holds, code_holds, every, row_fault, no_digits, byte_at, render}
use Rattle.places_rules.proofs.Rendering.{length_render}
use Rattle.places_rules.proofs.RoundTrip.{fixed_rendered, decimals_rendered, codes_rendered, reads_back_law, makes_again, held_gather}
use Rattle.lent_buffer.specs.Laying.{within}
use Rattle.lent_buffer.proofs.LayingLaws.{within_done, within_fits}
use Rattle.telegram_rules.specs.Reading.{framed}
use Rattle.telegram_rules.proofs.Frames.{frame_is_framed}
use Rattle.remote_rules.specs.declared.Command.{Command}
use Rattle.remote_rules.specs.declared.rows.Form.{Form}
use Rattle.remote_rules.specs.Rows.{inner_row, row_of, form_of}
use Rattle.remote_rules.specs.Coding.{command_in, own_form, digits_out}
use Rattle.remote_rules.specs.Rule.{refusal_of, spelled_well}
use Rattle.remote_rules.specs.Reading.{digits_in, carried, bytes_refusal, command_of}
use Rattle.remote_rules.specs.Writing.{command_bytes, inner_bytes, telegram_for}
use Rattle.remote_rules.specs.RoundTrip.{WhatIsWrittenReadsBack, WhatIsReadIsWritten}
use Rattle.remote_rules.proofs.RowLaws.{row_distinct, row_slotted}
use Rattle.remote_rules.proofs.FormLaws.{row_fits, found_again}
use Rattle.remote_rules.proofs.Carried.{command_back, digits_held, spelled_well_law, own_form_law, bytes_back}

-- a row's bytes, one part behind another
pub render_join : (row more : List Place) (digits : List ℕ) → render (row ++ more) digits ≡ render row digits ++ render more digits
unfolding render
render_join [] more digits = refl
render_join (p ∷ row) more digits = ap (◌∷◌ (byte_at digits p)) (render_join row more digits)

-- STX first and ETX last
pub bytes_framed : (told : Command) → command_bytes told ≡ stx ∷ inner_bytes told ++ etx ∷ []
unfolding command_bytes inner_bytes row_of render
bytes_framed told = ap (◌∷◌ stx) (render_join (inner_row (own_form told)) (fixed etx ∷ []) (digits_out told))

pub length_bytes : (told : Command) → length (command_bytes told) ≡ length (row_of (own_form told))
unfolding command_bytes
length_bytes told = length_render (row_of (own_form told)) (digits_out told)

-- A good command's characters read as that command.
module _ (told : Command) (none : refusal_of told ≡ 0) where
  form_again : form_of (command_bytes told) ≡ done (own_form told)
  unfolding command_bytes
  form_again = found_again (own_form told) (command_bytes told) (length_bytes told) (fixed_rendered (row_of (own_form told)) (digits_out told))

  digits_again : digits_in (own_form told) (command_bytes told) ≡ digits_out told
  unfolding digits_in command_bytes
  digits_again = reads_back_law (row_of (own_form told)) (digits_out told) (digits_held told none) (row_slotted (own_form told))

  command_carried : carried (own_form told) (command_bytes told) ≡ told
  unfolding carried
  command_carried = ap (command_in (own_form told)) digits_again ∙ command_back told none

  bytes_fit : row_fault (row_of (own_form told)) (command_bytes told) ≡ 0
  unfolding command_bytes
  bytes_fit =
      rw (
        fixed_rendered (row_of (own_form told)) (digits_out told),
        decimals_rendered (row_of (own_form told)) (digits_out told) (digits_held told none).each,
        codes_rendered (row_of (own_form told)) (digits_out told),
      )

  is_framed : framed (command_bytes told) ≡ true
  is_framed = ap framed (bytes_framed told) ∙ frame_is_framed (inner_bytes told)

  not_refused : bytes_refusal (own_form told) (command_bytes told) ≡ 0
  unfolding bytes_refusal
  not_refused = rw (bytes_fit, digits_again, spelled_well_law told none, command_carried) none

  pub reads_as_itself : command_of (command_bytes told) ≡ done told
  unfolding command_of
  reads_as_itself = rw (form_again, is_framed) (does _ not_refused ∙ ap done command_carried)

pub written_reads_back : WhatIsWrittenReadsBack
unfolding telegram_for
written_reads_back told room bytes e =
    let made = was_done _ (command_bytes told) bytes (within_done room (telegram_for told) bytes e).0 in
    rw (← made.1) (reads_as_itself told made.0)

-- Characters that are read as a command are that command's.
module _ (form : Form) (bytes : List ℕ) (same : length bytes ≡ length (row_of form)) (good : bytes_refusal form bytes ≡ 0) where
  pub record Tests : Type 0 where
    pub fixed_hold : every fixed_holds (row_of form) bytes ≡ true
    pub decimals_hold : every decimal_holds (row_of form) bytes ≡ true
    pub codes_hold : every code_holds (row_of form) bytes ≡ true
    pub spelled : spelled_well form (digits_in form bytes) ≡ true
    pub rule : refusal_of (carried form bytes) ≡ 0

  tests : Tests
  unfolding bytes_refusal
  tests =
      let row = else_none (row_fault (row_of form) bytes) _ good in
      let three = else_none (3 when not (every fixed_holds (row_of form) bytes)) _ row.0 in
      let four = else_none (4 when not (every decimal_holds (row_of form) bytes)) _ three.1 in
      let six = else_none (6 when not (spelled_well form (digits_in form bytes))) _ row.1 in
      record {
        fixed_hold = not-false _ (when_none 2 _ three.0);
        decimals_hold = not-false _ (when_none 3 _ four.0);
        codes_hold = not-false _ (when_none 4 _ four.1);
        spelled = not-false _ (when_none 5 _ six.0);
        rule = six.1;
      }

  bytes_again : command_bytes (carried form bytes) ≡ bytes
  unfolding carried command_bytes digits_in
  bytes_again =
      ap (λ f. render (row_of f) (digits_out (command_in form (digits_in form bytes)))) (own_form_law form (digits_in form bytes) tests.spelled)
      ∙ bytes_back form (digits_in form bytes)
      (held_gather (row_of form) bytes (row_distinct form) (row_slotted form) same tests.decimals_hold tests.codes_hold) tests.spelled
      ∙ makes_again (row_of form) bytes no_digits (row_distinct form) (row_slotted form) same refl tests.fixed_hold tests.decimals_hold tests.codes_hold

-- what is read: a command that no rule refuses, and its characters
pub record Accepted (bytes : List ℕ) (told : Command) : Type 0 where
  pub is_good_law : refusal_of told ≡ 0
  pub is_written : command_bytes told ≡ bytes

pub accepted : (bytes : List ℕ) (told : Command) → command_of bytes ≡ done told → Accepted bytes told
unfolding command_of
accepted bytes told = go (form_of bytes) refl
  where
    go : (o : Outcome Form) → form_of bytes ≡ o
        → after o (λ form. unless (2 when not (framed bytes) else bytes_refusal form bytes) (carried form bytes)) ≡ done told → Accepted bytes told
    go (done form) found e =
        let read = was_done _ (carried form bytes) told e in
        let parts = else_none (2 when not (framed bytes)) _ read.0 in
        let fits = row_fits bytes form found in
        record {
          is_good_law = ap refusal_of (sym read.1) ∙ (tests form bytes fits parts.1).rule;
          is_written = ap command_bytes (sym read.1) ∙ bytes_again form bytes fits parts.1;
        }
    go (refused n) found e = let z : ◌≡◌ {A = ℕ} 0 1 = cc in absurd (omega arith)

pub read_is_written : WhatIsReadIsWritten
unfolding telegram_for
read_is_written bytes told room e enough =
    let a = accepted bytes told e in
    ap (within room) (does (command_bytes told) a.is_good_law ∙ ap done a.is_written) ∙ within_fits room bytes enough
