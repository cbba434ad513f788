-- Document 02 d, "Faster through stray bytes". What feeding gives is said in `Line`, byte by byte, and the request moves no word of it:
-- "no event, count, position or state may differ from today". Here stands why a reader may skip.
use Rattle.std.specs.Prelude.{false, List, ◌≡◌, ℕ, ◌≤◌, ◌<◌, length, take, get_or}
use Rattle.ascii.specs.Control.{stx}
use Rattle.line_rules.specs.Runs.{has_stx, stray_run}

-- "let the reader skip to the next STX": none stands among the bytes that are skipped, and behind them stands one, or the piece ends
abbrev pub TheRunEndsAtTheNextStx : Type 0
TheRunEndsAtTheNextStx =
    (piece : List ℕ)
    → (has_stx (take (stray_run piece) piece) ≡ false)
    × (stray_run piece ≤ length piece)
    × (stray_run piece < length piece → get_or piece (stray_run piece) 0 ≡ stx)
