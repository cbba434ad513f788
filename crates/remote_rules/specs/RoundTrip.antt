-- Commands, there and back: a command is accepted exactly when it is what the writer makes.
use Rattle.std.specs.Prelude.{List, ◌≡◌, ℕ, ◌≤◌, length}
use Rattle.refusals.specs.Refusals.{done}
use Rattle.remote_rules.specs.declared.Command.{Command}
use Rattle.remote_rules.specs.Reading.{command_of}
use Rattle.remote_rules.specs.Writing.{written}

-- what is written reads back equal
abbrev pub WhatIsWrittenReadsBack : Type 0
WhatIsWrittenReadsBack = (command : Command) (room : ℕ) (bytes : List ℕ) → written command room ≡ done bytes → command_of bytes ≡ done command

-- what is read is what the writer makes of it, in any buffer that has the room
abbrev pub WhatIsReadIsWritten : Type 0
WhatIsReadIsWritten =
    (bytes : List ℕ) (command : Command) (room : ℕ) → command_of bytes ≡ done command → length bytes ≤ room → written command room ≡ done bytes
