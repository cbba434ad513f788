-- Document 02, h: writing one remote command, always with control characters; "no remote command is advanced".
use Rattle.std.specs.Prelude.{List, ℕ}
use Rattle.refusals.specs.Refusals.{Outcome, unless}
use Rattle.lent_buffer.specs.Laying.{within}
use Rattle.places_rules.specs.Places.{render}
use Rattle.remote_rules.specs.declared.Command.{Command}
use Rattle.remote_rules.specs.Rows.{inner_row, row_of}
use Rattle.remote_rules.specs.Coding.{own_form, digits_out}
use Rattle.remote_rules.specs.Rule.{refusal_of}

-- the characters of a command, "always STX to CR LF ETX"
unfoldable pub command_bytes : Command → List ℕ
command_bytes command = render (row_of (own_form command)) (digits_out command)

-- and those between STX and ETX
unfoldable pub inner_bytes : Command → List ℕ
inner_bytes command = render (inner_row (own_form command)) (digits_out command)

-- the telegram of a command, or why there is none: 5 to 8
unfoldable pub telegram_for : Command → Outcome (List ℕ)
telegram_for command = unless (refusal_of command) (command_bytes command)

-- what is written into a buffer of so many bytes: 13 last
abbrev pub written : Command → ℕ → Outcome (List ℕ)
written command room = within room (telegram_for command)
