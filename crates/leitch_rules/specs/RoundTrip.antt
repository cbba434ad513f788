-- Replies, there and back: a reply is accepted exactly when it is what the writer makes.
use Rattle.std.specs.Prelude.{List, ◌≡◌, ℕ, ◌≤◌}
use Rattle.refusals.specs.Refusals.{done}
use Rattle.leitch_rules.specs.declared.Reply.{Reply}
use Rattle.leitch_rules.specs.Reading.{reply_of}
use Rattle.leitch_rules.specs.Writing.{written}

-- what is written reads back equal
abbrev pub WhatIsWrittenReadsBack : Type 0
WhatIsWrittenReadsBack = (reply : Reply) (room : ℕ) (bytes : List ℕ) → written reply room ≡ done bytes → reply_of bytes ≡ done reply

-- what is read is what the writer makes of it, in any buffer that has the room
abbrev pub WhatIsReadIsWritten : Type 0
WhatIsReadIsWritten = (bytes : List ℕ) (reply : Reply) (room : ℕ) → reply_of bytes ≡ done reply → 31 ≤ room → written reply room ≡ done bytes
