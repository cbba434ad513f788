-- Document 02, g, "Longer telegrams": the bound of a reader, in the request's own numbers.
use Rattle.std.specs.Prelude.{◌≡◌, ℕ, ◌+◌, ◌<◌, ◌≤◌, true, false, List, ◌∷◌, length}
use Rattle.trailer_rules.specs.declared.Order.{Order}
use Rattle.ascii.specs.Control.{stx}
use Rattle.line.specs.declared.Reader.{Reader}
use Rattle.line_rules.specs.Hearing.{Event}
use Rattle.line.specs.Readers.{reader_of, well_formed_at, well_formed, end_reader}
use Rattle.line_rules.specs.Line.{fresh_line, all_plain}
use Rattle.line_rules.specs.Events.{line_after}
use Rattle.refusals.specs.Refusals.{refused}

abbrev pub TheEndCutsOffUpTo38 : Type 0
TheEndCutsOffUpTo38 =
    (order : Order) (body : List ℕ) → all_plain body ≡ true → length body ≤ 37
    → (end_reader (reader_of (line_after (fresh_line order) (stx ∷ body)))).heard ≡ Event (refused 11) 0 (length body + 1)

-- "38 stands for 24 in the well-formed rule too"
abbrev pub TheRuleIsTheOneAt38 : Type 0
TheRuleIsTheOneAt38 =
    (reader : Reader) → (well_formed reader ≡ well_formed_at 38 reader) × (38 < reader.len → well_formed reader ≡ false)
