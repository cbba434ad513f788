-- Document 02, g, "Longer telegrams": the bound, in the request's own numbers. A telegram on a fresh line is STX and bytes that are
-- neither STX nor ETX, which are called plain.
use Rattle.std.specs.Prelude.{true, List, [], ◌∷◌, ◌++◌, ◌≡◌, ℕ, ◌+◌, ◌≤◌, length}
use Rattle.trailer_rules.specs.declared.Order.{Order}
use Rattle.telegram_rules.specs.Reading.{read_in}
use Rattle.ascii.specs.Control.{stx, etx}
use Rattle.line_rules.specs.Hearing.{Event}
use Rattle.line_rules.specs.Line.{fresh_line, is_plain, all_plain}
use Rattle.line_rules.specs.Events.{events_of, line_after}
use Rattle.refusals.specs.Refusals.{refused}

-- "the reader then holds 0 to 38 bytes": STX and up to 37 behind it tell nothing, and all of them are held
abbrev pub UpTo38BytesAreHeld : Type 0
UpTo38BytesAreHeld =
    (order : Order) (body : List ℕ) → all_plain body ≡ true → length body ≤ 37
    → (events_of (fresh_line order) (stx ∷ body) ≡ []) × ((line_after (fresh_line order) (stx ∷ body)).held ≡ stx ∷ body)

-- an STX cuts so many off, with 9, and begins a telegram; the end of the line cuts so many off, with 11
abbrev pub StxCutsOffUpTo38 : Type 0
StxCutsOffUpTo38 =
    (order : Order) (body : List ℕ) → all_plain body ≡ true → length body ≤ 37
    → (events_of (fresh_line order) (stx ∷ body ++ stx ∷ []) ≡ Event (refused 9) 0 (length body + 1) ∷ [])
    × ((line_after (fresh_line order) (stx ∷ body ++ stx ∷ [])).held ≡ stx ∷ [])

-- "10 is given when 38 are held, with a refused length of 39": by any plain byte, and the reader is outside
abbrev pub TenIsGivenWhen38AreHeld : Type 0
TenIsGivenWhen38AreHeld =
    (order : Order) (body : List ℕ) (byte : ℕ) → all_plain body ≡ true → length body ≡ 37 → is_plain byte ≡ true
    → (events_of (fresh_line order) (stx ∷ body ++ byte ∷ []) ≡ Event (refused 10) 0 39 ∷ [])
    × ((line_after (fresh_line order) (stx ∷ body ++ byte ∷ [])).held ≡ [])

-- "raise the longest framed telegram to 39": up to that many bytes, the last of them ETX, are judged
abbrev pub UpTo39BytesAreJudged : Type 0
UpTo39BytesAreJudged =
    (order : Order) (body : List ℕ) → all_plain body ≡ true → length body ≤ 37
    → events_of (fresh_line order) (stx ∷ body ++ etx ∷ [])
    ≡ Event ((read_in order true (stx ∷ body ++ etx ∷ []))) 0 (length body + 2) ∷ []
