-- Document 02, a: reading the answer to a Leitch generator.
use Rattle.std.specs.Prelude.{not, List, ℕ, eqb, length}
use Rattle.refusals.specs.Refusals.{◌when◌, ◌else◌, Outcome, unless}
use Rattle.places_rules.specs.Places.{gather, row_fault, no_digits}
use Rattle.leitch_rules.specs.declared.Reply.{Reply}
use Rattle.leitch_rules.specs.Row.{reply_row}
use Rattle.leitch_rules.specs.Coding.{reply_in}
use Rattle.leitch_rules.specs.Rule.{fields_refusal, day_refusal}

-- the reply that bytes carry, right or wrong
unfoldable pub carried : List ℕ → Reply
carried bytes = reply_in (gather reply_row bytes no_digits)

-- 1 not 31 characters; 3 "colon, point and slash" too, 4 and 5 over all places of the row; 5 to 8 of the fields; "17 .. after 8"
unfoldable pub reply_refusal : List ℕ → ℕ
reply_refusal bytes =
    1 when not (eqb (length bytes) 31) else row_fault reply_row bytes else fields_refusal (carried bytes) else day_refusal (carried bytes)

unfoldable pub reply_of : List ℕ → Outcome Reply
reply_of bytes = unless (reply_refusal bytes) (carried bytes)
