-- The programs that demand 2 is about where it speaks of replies, each by the definition that its promise gives (docs/PROMISES.md). A
-- wrong program put in here is refused by the theorem that shuts it out.
use Rattle.std.specs.Prelude.{List, ℕ}
use Rattle.refusals.specs.Refusals.{Outcome}
use Rattle.leitch_rules.specs.declared.Reply.{Reply}
use Rattle.leitch_rules.specs.Reading.{reply_of}
use Rattle.leitch_rules.specs.Writing.{written}

-- a reply read
abbrev pub reads_reply : List ℕ → Outcome Reply
reads_reply = reply_of

-- a reply written, into a buffer of so many bytes
abbrev pub writes_reply : Reply → ℕ → Outcome (List ℕ)
writes_reply = written
