-- Document 02, h: what a framed telegram is, a stamp of document 01 or a remote command, and what it is refused for.
use Rattle.std.specs.Prelude.{true, cond, List, [], ◌∷◌, ◌++◌, ℕ}
use Rattle.refusals.specs.Refusals.{Outcome, done, after}
use Rattle.ascii.specs.Control.{stx, etx}
use Rattle.trailer_rules.specs.declared.Order.{Order}
use Rattle.trailer_rules.specs.Trailer.{in_order}
use Rattle.record_rules.specs.Rule as stamps
use Rattle.telegram_rules.specs.Reading.{read_in}
use Rattle.telegram_rules.specs.Writing.{body_bytes}
use Rattle.remote_rules.specs.Rows.{is_command}
use Rattle.remote_rules.specs.Rule as commands
use Rattle.remote_rules.specs.Reading.{command_of}
use Rattle.remote_rules.specs.Writing.{inner_bytes}
use Rattle.message_rules.specs.declared.Message.{Message}
use Rattle.message_rules.specs.declared.Message.TheVariants.{Stamp, Remote}

-- "a framed telegram whose fifth character, STX included, is a colon is a remote command and is judged by these rules only"; every other by
-- document 01, in the order of its line. The fifth character is looked at before any exchange of the trailer
unfoldable pub message_of : Order → List ℕ → Outcome Message
message_of order bytes =
    cond (is_command bytes)
    (after (command_of bytes) (λ command. done (Remote command)))
    (after (read_in order true bytes) (λ rec. done (Stamp rec)))

-- the rule that refuses a message: its record's, or its command's
abbrev pub refusal_of : Message → ℕ
refusal_of (Stamp rec) = stamps.refusal_of rec
refusal_of (Remote command) = commands.refusal_of command

-- what stands between STX and ETX: a record's trailer is in the line's order; a command's "is CR LF on lines of either order"
abbrev pub inner_of : Order → Message → List ℕ
inner_of order (Stamp rec) = in_order order (body_bytes rec)
inner_of order (Remote command) = inner_bytes command

-- the bytes of a message, "always STX to .. ETX"
abbrev pub message_bytes : Order → Message → List ℕ
message_bytes order message = stx ∷ inner_of order message ++ etx ∷ []
