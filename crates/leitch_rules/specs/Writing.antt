-- Document 02, a: writing the answer to a Leitch generator.
use Rattle.std.specs.Prelude.{List, ℕ, ltb}
use Rattle.refusals.specs.Refusals.{◌when◌, ◌else◌, Outcome, unless}
use Rattle.places_rules.specs.Places.{render}
use Rattle.leitch_rules.specs.declared.Reply.{Reply}
use Rattle.leitch_rules.specs.Row.{reply_row}
use Rattle.leitch_rules.specs.Coding.{digits_out}
use Rattle.leitch_rules.specs.Rule.{fields_refusal, day_refusal}

-- the 31 characters of a reply
unfoldable pub reply_bytes : Reply → List ℕ
reply_bytes reply = render reply_row (digits_out reply)

-- what is written into a buffer of so many bytes: 5 to 8 of the fields, 13 "the lent buffer is shorter", 17, "the lowest is given". So 13 is
-- told here, in front of 17, and where the characters are laid there is room for them
unfoldable pub written : Reply → ℕ → Outcome (List ℕ)
written reply room = unless (fields_refusal reply else 13 when ltb room 31 else day_refusal reply) (reply_bytes reply)
