-- Document 01, "How tight the wording has to be": the wrong programs that the demands have to shut out.
use Rattle.std.specs.Prelude.{Bool, cond, List, [], ℕ, eqb, length}
use Rattle.refusals.specs.Refusals.{Outcome, done, refused}
use Rattle.record_rules.specs.declared.TimeLayout.TheVariants.{T6021}
use Rattle.record_rules.specs.declared.Record.{Record}
use Rattle.record_rules.specs.declared.Record.TheVariants.{TimeOnly}
use Rattle.trailer_rules.specs.declared.Order.{Order}
use Rattle.telegram_rules.specs.declared.write.Choice.{Choice}
use Rattle.line.specs.declared.Reader.{Reader}
use Rattle.line_rules.specs.Hearing.{Heard, Nothing, Event, Refused}
use Rattle.line.specs.Readers.{reader_with, feed_reader, Fed}

-- "a reader that refuses everything": one telegram, and on the line
abbrev pub refusing_reader : Order → Bool → List ℕ → Outcome Record
refusing_reader order control bytes = refused 1

abbrev pub answering : Outcome Record → Heard → Heard
answering always Nothing = Nothing
answering always (Event told start size) = Event always start size
answering always (Refused number) = Refused number

abbrev pub answering_line : Outcome Record → Reader → List ℕ → Fed
answering_line always reader piece =
    record { reader = (feed_reader reader piece).reader; taken = (feed_reader reader piece).taken; heard = answering always (feed_reader reader piece).heard }

abbrev pub refusing_line : Reader → List ℕ → Fed
refusing_line = answering_line (refused 1)

-- "one that returns one fixed record"
abbrev pub fixed_record : Record
fixed_record = TimeOnly T6021 (record { hour = 0; minute = 0; second = 0 })

abbrev pub fixed_reader : Order → Bool → List ℕ → Outcome Record
fixed_reader order control bytes = done fixed_record

abbrev pub fixed_line : Reader → List ℕ → Fed
fixed_line = answering_line (done fixed_record)

-- "a writer .. that does nothing"
abbrev pub idle_writer : Choice → Record → ℕ → Outcome (List ℕ)
idle_writer choice rec room = done []

-- "a reader that honours the first piece and drops the others"
abbrev pub first_piece_line : Reader → List ℕ → Fed
first_piece_line reader piece =
    cond (eqb reader.fed 0) (feed_reader reader piece) (record { reader = reader; taken = length piece; heard = Nothing })

-- "a stray count that is invented"
abbrev pub with_stray : ℕ → Reader → Reader
with_stray stray reader = reader_with reader.held reader.len reader.fed stray reader.start reader.order

abbrev pub inventing_line : Reader → List ℕ → Fed
inventing_line reader piece =
    record { reader = with_stray 7 (feed_reader reader piece).reader; taken = (feed_reader reader piece).taken; heard = (feed_reader reader piece).heard }
