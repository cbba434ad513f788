-- Document 01, "The line, byte by byte": the reader, which is a value that stands for a line. Readers are made by `reader_with` alone.
use Rattle.std.specs.Prelude.{◌≡◌, ℕ, ◌-◌, ◌%◌, ◌^◌, ◌<◌, Bool, true, cond, ◌&&◌, List, [], ◌∷◌, ◌++◌, length, take, drop, replicate, ◌==◌, nat_le}
use Rattle.trailer_rules.specs.declared.Order.{Order}
use Rattle.trailer_rules.specs.declared.Order.TheVariants.{AsPrinted}
use Rattle.line.specs.declared.Reader.{Reader}
use Rattle.line_rules.specs.Hearing.{Heard, Refused, heard_as}
use Rattle.line.specs.declared.Fed as fed_code
use Rattle.line.specs.declared.Ended as ended_code
use Rattle.line_rules.specs.Line.{Feeding, Line, ended, feed_at, heard_for, is_started, line_with, places, start_of, told_by_end}

abbrev pub reader_with : List ℕ → ℕ → ℕ → ℕ → ℕ → Order → Reader
reader_with held len fed stray start order =
    record { held = held; len = len; fed = fed; stray = stray; start = start; order = order }

-- a reader for what it means; its counts "wrap at 4,294,967,296"
abbrev pub reader_at : ℕ → Line → Reader
reader_at bound line =
    reader_with (line.held ++ replicate (bound - length line.held) 0) (length line.held) (line.fed % 2 ^ 32) (line.stray % 2 ^ 32) (start_of line)
    line.order

abbrev pub reader_of : Line → Reader
reader_of = reader_at places

abbrev pub line_of : Reader → Line
line_of reader = line_with (take reader.len reader.held) reader.fed reader.stray reader.order

-- "a fresh one holds none and all its counts are 0", for a line of a named order; "as-printed if not named"
abbrev pub fresh_in : Order → Reader
fresh_in order = reader_with (replicate places 0) 0 0 0 0 order

abbrev pub fresh_reader : Reader
fresh_reader = fresh_in AsPrinted

-- at most so many held; "if any, the first is STX and no other is STX or ETX; places beyond the held ones are zero; the start position
-- is fed less held, with the wrap"
abbrev pub all_zero : List ℕ → Bool
all_zero [] = true
all_zero (byte ∷ bytes) = byte == 0 && all_zero bytes

unfoldable pub well_formed_at : ℕ → Reader → Bool
well_formed_at bound reader =
    nat_le reader.len bound
    && (is_started (take reader.len reader.held)
    && (all_zero (drop reader.len reader.held) && reader.start == start_of (line_of reader)))

abbrev pub well_formed : Reader → Bool
well_formed = well_formed_at places

-- what a reader's declaration says already: an array of so many places, and counts of 32 bits
abbrev pub AsDeclared : Reader → Type 0
AsDeclared reader = (length reader.held ≡ places) × (reader.fed < 2 ^ 32) × (reader.stray < 2 ^ 32)

-- what a call gives, in the paper's numbers
pub record Fed : Type 0 where
  pub reader : Reader
  pub taken : ℕ
  pub heard : Heard

pub record Ended : Type 0 where
  pub reader : Reader
  pub heard : Heard

-- what the code hands out
abbrev pub fed_as : fed_code.Fed → Fed
fed_as fed = record { reader = fed.reader; taken = fed.taken; heard = heard_as fed.heard }

abbrev pub ended_as : ended_code.Ended → Ended
ended_as ended = record { reader = ended.reader; heard = heard_as ended.heard }

abbrev pub fed_at : ℕ → Feeding → Fed
fed_at bound feeding =
    record { reader = reader_at bound feeding.line; taken = feeding.taken; heard = heard_for feeding.told feeding.at }

abbrev pub fed_for : Feeding → Fed
fed_for = fed_at places

-- "a state refused with 15 takes no byte, gives no event and nothing else". 15 is no event
unfoldable pub feed_reader_at : ℕ → Reader → List ℕ → Fed
feed_reader_at bound reader piece =
    cond (well_formed_at bound reader) (fed_at bound (feed_at bound (line_of reader) piece)) (record { reader = reader; taken = 0; heard = Refused 15 })

unfoldable pub end_reader_at : ℕ → Reader → Ended
end_reader_at bound reader =
    cond (well_formed_at bound reader)
    (record { reader = reader_at bound (ended (line_of reader)); heard = heard_for (told_by_end (line_of reader).held) reader.start })
    (record { reader = reader; heard = Refused 15 })

abbrev pub feed_reader : Reader → List ℕ → Fed
feed_reader = feed_reader_at places

abbrev pub end_reader : Reader → Ended
end_reader = end_reader_at places
