-- The programs that the demands are about, each by the definition that its promise gives (docs/PROMISES.md). A wrong program put in
-- here is refused by the theorem of the demand that shuts it out.
use Rattle.std.specs.Prelude.{Bool, List, ℕ}
use Rattle.refusals.specs.Refusals.{Outcome}
use Rattle.record_rules.specs.declared.Record.{Record}
use Rattle.trailer_rules.specs.declared.Order.{Order}
use Rattle.telegram_rules.specs.declared.write.Choice.{Choice}
use Rattle.telegram_rules.specs.Reading.{read_in}
use Rattle.telegram_rules.specs.Writing.{written}
use Rattle.line.specs.declared.Reader.{Reader}
use Rattle.line.specs.Readers.{feed_reader, Fed}

-- one telegram read, in an order of the trailer, with or without control characters
abbrev pub reads : Order → Bool → List ℕ → Outcome Record
reads = read_in

-- one telegram written, with a setting or none, into a buffer of so many bytes
abbrev pub writes : Choice → Record → ℕ → Outcome (List ℕ)
writes = written

-- a piece fed to a reader
abbrev pub feeds : Reader → List ℕ → Fed
feeds = feed_reader
