-- The ways in which reading a command ends, over the definitions. Assumes nothing.
use mathlib.Core.Path.{◌≡◌, ap, sym, ◌∙◌}
use mathlib.Core.Bool.{true, false}
use mathlib.Core.List.{List, map}
use Prim.Native.Nat.{ℕ}
use Rattle.refusals.specs.Refusals.{Outcome, done, refused, unless}
use Rattle.refusals.proofs.Laws.{refuses, refuses_first, does}
use Rattle.places_rules.specs.Places.{place, row_fault, found_in}
use Rattle.places_rules.specs.Places.{Finding}
use Rattle.telegram_rules.specs.Reading.{framed}
use Rattle.remote_rules.specs.declared.Command.{Command}
use Rattle.remote_rules.specs.declared.rows.Form.{Form}
use Rattle.remote_rules.specs.Rows.{row_of, row_numbers, form_of}
use Rattle.remote_rules.specs.Coding.{command_in}
use Rattle.remote_rules.specs.Rule.{refusal_of, spelled_well}
use Rattle.remote_rules.specs.Reading.{digits_in, carried, bytes_refusal, command_of}
use Rattle.remote_rules.proofs.RowLaws.{row_kept}

-- what a scan by the kept row finds is what the form's row says
pub seen : (found : Finding) (form : Form) (row bytes : List ℕ) → row ≡ row_numbers form → found ≡ found_in (map place row) bytes
    → found ≡ found_in (row_of form) bytes
seen found form row bytes kept e = e ∙ ap (λ r. found_in r bytes) (row_kept form row kept)

-- bytes of a known form
abbrev pub read_as : Form → List ℕ → Outcome Command
read_as form bytes = unless (bytes_refusal form bytes) (carried form bytes)

module _ (found : Finding) (form : Form) (bytes : List ℕ) (e : found ≡ found_in (row_of form) bytes) where
  fault_is : found.fault ≡ row_fault (row_of form) bytes
  unfolding found_in
  fault_is = ap (λ f. f.fault) e

  digits_are : digits_in form bytes ≡ found.digits
  unfolding found_in digits_in
  digits_are = sym (ap (λ f. f.digits) e)

  pub ends_in_row : (found.fault ≡ 0 → ⊥) → refused found.fault ≡ read_as form bytes
  unfolding bytes_refusal
  ends_in_row some = refuses_first _ _ fault_is some

  module _ (fits : found.fault ≡ 0) where
    none : row_fault (row_of form) bytes ≡ 0
    none = sym fault_is ∙ fits

    pub ends_misspelled : spelled_well form found.digits ≡ false → refused 6 ≡ read_as form bytes
    unfolding bytes_refusal unless
    ends_misspelled badly = rw (none, digits_are, badly)

    module _ (well : spelled_well form found.digits ≡ true) (command : Command) (is : command ≡ command_in form found.digits) where
      told : carried form bytes ≡ command
      unfolding carried
      told = ap (command_in form) digits_are ∙ sym is

      pub ends_refused : (n : ℕ) → n ≡ refusal_of command → (n ≡ 0 → ⊥) → refused n ≡ read_as form bytes
      unfolding bytes_refusal
      ends_refused n same some = rw (none, digits_are, well, told) (refuses command same some)

      pub ends_good : refusal_of command ≡ 0 → done command ≡ read_as form bytes
      unfolding bytes_refusal
      ends_good good = sym (rw (none, digits_are, well, told) (does command good))

-- from the form to the whole
module _ (bytes : List ℕ) where
  pub no_form : (n : ℕ) → form_of bytes ≡ refused n → refused n ≡ command_of bytes
  unfolding command_of
  no_form n e = rw e

  module _ (form : Form) (e : form_of bytes ≡ done form) where
    pub not_framed : framed bytes ≡ false → refused 2 ≡ command_of bytes
    unfolding command_of unless
    not_framed f = rw (e, f)

    pub by_form : framed bytes ≡ true → read_as form bytes ≡ command_of bytes
    unfolding command_of
    by_form f = rw (e, f)
