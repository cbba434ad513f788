-- Document 02, h: reading one remote command, always with control characters.
use Rattle.std.specs.Prelude.{not, List, ℕ}
use Rattle.refusals.specs.Refusals.{◌when◌, ◌else◌, Outcome, unless, after}
use Rattle.places_rules.specs.Places.{gather, row_fault, no_digits}
use Rattle.telegram_rules.specs.Reading.{framed}
use Rattle.remote_rules.specs.declared.Command.{Command}
use Rattle.remote_rules.specs.declared.rows.Form.{Form}
use Rattle.remote_rules.specs.Rows.{row_of, form_of}
use Rattle.remote_rules.specs.Coding.{command_in}
use Rattle.remote_rules.specs.Rule.{refusal_of, spelled_well}

-- the digits that bytes have in a form's places, and the command that they carry, right or wrong
unfoldable pub digits_in : Form → List ℕ → List ℕ
digits_in form bytes = gather (row_of form) bytes no_digits

unfoldable pub carried : Form → List ℕ → Command
carried form bytes = command_in form (digits_in form bytes)

-- "3 a sign, comma, colon or letter out of place", 4 and 5 over all places of the row; 6 of the spelling; 5 to 8 of what is carried
unfoldable pub bytes_refusal : Form → List ℕ → ℕ
bytes_refusal form bytes =
    row_fault (row_of form) bytes else 6 when not (spelled_well form (digits_in form bytes)) else refusal_of (carried form bytes)

-- 22, then 1, from the form; 2 "first isn't STX or last isn't ETX"; then the others, of which the first that holds is given
unfoldable pub command_of : List ℕ → Outcome Command
command_of bytes = after (form_of bytes) (λ form. unless (2 when not (framed bytes) else bytes_refusal form bytes) (carried form bytes))
