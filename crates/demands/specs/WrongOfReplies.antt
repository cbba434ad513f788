-- The wrong programs of document 01's last section, as a reader and a writer of replies would have them.
use Rattle.std.specs.Prelude.{List, [], ℕ}
use Rattle.refusals.specs.Refusals.{Outcome, done, refused}
use Rattle.calendar_rules.specs.Literals.{date, time}
use Rattle.leitch_rules.specs.declared.Reply.{Reply}
use Rattle.leitch_rules.specs.AsPrinted.{reply}

-- "a reader that refuses everything"
abbrev pub refusing_reply_reader : List ℕ → Outcome Reply
refusing_reply_reader bytes = refused 1

-- "one that returns one fixed record"
abbrev pub fixed_reply : Reply
fixed_reply = reply (time 0 0 0) 0 (date 1980 1 1) 1 2 "0"

abbrev pub fixed_reply_reader : List ℕ → Outcome Reply
fixed_reply_reader bytes = done fixed_reply

-- "a writer .. that does nothing"
abbrev pub idle_reply_writer : Reply → ℕ → Outcome (List ℕ)
idle_reply_writer reply room = done []
