-- Demand 2 of document 02, a: "Give us writer and reader" of replies, and "also read the request letters". "They never travel on a
-- framed line, so demand 3 stands": its statements do not name them.
use Rattle.std.specs.Prelude.{List, ◌++◌, ◌↔◌, ◌≡◌, ℕ, ◌≤◌, length, drop}
use Rattle.refusals.specs.Refusals.{Outcome, done}
use Rattle.lent_buffer.specs.Laying.{laid_in}
use Rattle.leitch_rules.specs.declared.Reply.{Reply}
use Rattle.leitch_rules.specs.Rule.{fields_refusal, day_refusal}
use Rattle.leitch_rules.specs.AsPrinted.{as_printed}
use Rattle.requests.specs.Exactly.{ACapitalLetterAsksAtOnce, ASmallLetterAsksAfterItsCount, NothingElseIsARequest, NoDelayIsLonger}
use Rattle.demands.specs.ProgramsOfReplies.{reads_reply, writes_reply}

-- a reply that no rule refuses; "the day of year must agree with the date"
abbrev pub GoodReply : Reply → Type 0
GoodReply reply = (fields_refusal reply ≡ 0) × (day_refusal reply ≡ 0)

-- "the 31 characters of source document 000, section 6.5": `as_printed` has the manual's line for each of them.
-- Where there is room, a good reply is written so: its characters, and behind them the buffer as it was.
abbrev pub WritesReplies : (Reply → ℕ → Outcome (List ℕ)) → Type 0
WritesReplies write =
    (reply : Reply) (buffer : List ℕ) → GoodReply reply → 31 ≤ length buffer
    → (write reply (length buffer) ≡ done (as_printed reply)) × (laid_in (write reply (length buffer)) buffer ≡ as_printed reply ++ drop 31 buffer)

abbrev pub RepliesAreWrittenAsPrinted : Type 0
RepliesAreWrittenAsPrinted = WritesReplies writes_reply

-- Bytes are read as a reply exactly where that reply is good and its characters are those bytes.
abbrev pub ReadsReplies : (List ℕ → Outcome Reply) → Type 0
ReadsReplies read = (bytes : List ℕ) (reply : Reply) → (read bytes ≡ done reply) ↔ (GoodReply reply × (as_printed reply ≡ bytes))

abbrev pub RepliesAreReadAsPrinted : Type 0
RepliesAreReadAsPrinted = ReadsReplies reads_reply

-- "The reader accepts exactly the telegrams the writer can make.": of some reply, in some room
abbrev pub TheReaderOfRepliesAcceptsExactlyWhatTheWriterCanMake : Type 0
TheReaderOfRepliesAcceptsExactlyWhatTheWriterCanMake =
    (bytes : List ℕ) → ((reply : Reply) × (reads_reply bytes ≡ done reply)) ↔ ((reply : Reply) × (room : ℕ) × (writes_reply reply room ≡ done bytes))

-- "What is written reads back equal on each field";
abbrev pub AWrittenReplyReadsBack : Type 0
AWrittenReplyReadsBack =
    (reply : Reply) (room : ℕ) (bytes : List ℕ) → writes_reply reply room ≡ done bytes → reads_reply bytes ≡ done reply

-- and what is read is what the writer makes of it, in any buffer that has the room.
abbrev pub AReadReplyIsWritten : Type 0
AReadReplyIsWritten =
    (bytes : List ℕ) (reply : Reply) (room : ℕ) → reads_reply bytes ≡ done reply → 31 ≤ room → writes_reply reply room ≡ done bytes

-- "Also read the request letters U, D, G, and u, d, g with two hex digits (capitals), which mean a delay of ten milliseconds a count",
-- and nothing else; "gFF is 2,550 ms", and no delay is longer.
abbrev pub RequestsAreReadExactly : Type 0
RequestsAreReadExactly = ACapitalLetterAsksAtOnce × ASmallLetterAsksAfterItsCount × NothingElseIsARequest × NoDelayIsLonger
