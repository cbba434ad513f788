-- Demand 2 holds of replies and of requests. Assumes nothing.
use mathlib.Core.Path.{◌≡◌, ap, sym, ◌∙◌}
use Prim.Native.Nat.{ℕ, ◌≤◌}
use native.Mathlib.Omega.{arith}
use lib.ListN.{length}
use borrow.Author.Tests.{le-ltb}
use Rattle.refusals.specs.Refusals.{done}
use Rattle.refusals.proofs.Laws.{does}
use Rattle.lent_buffer.specs.Laying.{laid_in}
use Rattle.leitch_rules.specs.declared.Reply.{Reply}
use Rattle.leitch_rules.specs.Reading.{reply_of}
use Rattle.leitch_rules.specs.Writing.{reply_bytes, written}
use Rattle.leitch_rules.specs.AsPrinted.{as_printed}
use Rattle.leitch_rules.proofs.BackAndForth.{written_reads_back, accepted, read_is_written}
use Rattle.leitch_rules.proofs.Spelled.{every_as_printed}
use Rattle.requests.proofs.ExactlyHolds.{capital_asks, small_asks, nothing_else, no_delay_is_longer}
use Rattle.demands.specs.Demand2OfReplies.{GoodReply, RepliesAreWrittenAsPrinted, RepliesAreReadAsPrinted, TheReaderOfRepliesAcceptsExactlyWhatTheWriterCanMake}
use Rattle.demands.specs.Demand2OfReplies.{AWrittenReplyReadsBack, AReadReplyIsWritten, RequestsAreReadExactly}

-- a good reply is written, and its characters are the manual's
module _ (reply : Reply) (good : GoodReply reply) where
  written_so : (room : ℕ) → 31 ≤ room → written reply room ≡ done (reply_bytes reply)
  unfolding written
  written_so room enough = rw (good.0, le-ltb room 31 enough) (does (reply_bytes reply) good.1)

  reads_so : reply_of (reply_bytes reply) ≡ done reply
  reads_so = written_reads_back reply 31 (reply_bytes reply) (written_so 31 (omega arith))

  printed_so : reply_bytes reply ≡ as_printed reply
  printed_so = (every_as_printed (reply_bytes reply) reply reads_so).0

pub demand_2_replies_written : RepliesAreWrittenAsPrinted
demand_2_replies_written reply buffer good enough =
    let so = written_so reply good (length buffer) enough ∙ ap done (printed_so reply good) in (so, ap (λ w. laid_in w buffer) so)

pub demand_2_replies_read : RepliesAreReadAsPrinted
demand_2_replies_read bytes reply = (
  λ read. let a = accepted bytes reply read in ((a.fields, a.day), sym (every_as_printed bytes reply read).0),
  λ fits. ap reply_of (sym (printed_so reply fits.0 ∙ fits.1)) ∙ reads_so reply fits.0,
)

pub demand_2_replies_accepted : TheReaderOfRepliesAcceptsExactlyWhatTheWriterCanMake
demand_2_replies_accepted bytes = (
  λ read. (read.0, 31, read_is_written bytes read.0 31 read.1 (omega arith)),
  λ made. (made.0, written_reads_back made.0 made.1 bytes made.2),
)

pub demand_2_reply_reads_back : AWrittenReplyReadsBack
demand_2_reply_reads_back = written_reads_back

pub demand_2_reply_is_written : AReadReplyIsWritten
demand_2_reply_is_written = read_is_written

pub demand_2_requests : RequestsAreReadExactly
demand_2_requests = (capital_asks, small_asks, nothing_else, no_delay_is_longer)
