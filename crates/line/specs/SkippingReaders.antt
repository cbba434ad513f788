-- Document 02 d, "Faster through stray bytes": what a reader gives, behind bytes that it skipped.
use Rattle.std.specs.Prelude.{◌≡◌, ℕ, ◌+◌, false, List, [], ◌++◌, length}
use Rattle.trailer_rules.specs.declared.Order.{Order}
use Rattle.line.specs.Readers.{reader_of, feed_reader, Fed}
use Rattle.line_rules.specs.Line.{line_with}
use Rattle.line_rules.specs.Runs.{has_stx}

-- the same call, so many bytes later
abbrev pub behind : ℕ → Fed → Fed
behind size fed = record { reader = fed.reader; taken = fed.taken + size; heard = fed.heard }

-- outside a telegram bytes without an STX, however many, tell nothing and are counted, with the wrap: what stands behind them is fed
-- as if they had been
abbrev pub StrayBytesMayBeSkipped : Type 0
StrayBytesMayBeSkipped =
    (fed stray : ℕ) (order : Order) (run rest : List ℕ) → has_stx run ≡ false
    → feed_reader (reader_of (line_with [] fed stray order)) (run ++ rest)
    ≡ behind (length run) (feed_reader (reader_of (line_with [] (fed + length run) (stray + length run) order)) rest)
