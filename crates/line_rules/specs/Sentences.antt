-- Document 01, "The line, byte by byte": what its sentences say of every line, each as a statement beside its words.
use Rattle.std.specs.Prelude.{List, [], ◌∷◌, ◌≡◌, ◌⊎◌, ℕ, ◌+◌, ◌-◌, ◌%◌, ◌^◌, ◌≤◌, length, drop}
use Rattle.trailer_rules.specs.declared.Order.{Order}
use Rattle.line_rules.specs.Hearing.{Event}
use Rattle.refusals.specs.Refusals.{refused, Outcome}
use Rattle.line_rules.specs.Line.{Line, nothing, event, start_of, feed_of, ended, told_by_end, fresh_line}
use Rattle.line_rules.specs.Events.{events_of, line_after}
use Rattle.record_rules.specs.declared.Record.{Record}

-- "so one byte gives at most one event"
abbrev pub OneByteGivesAtMostOneEvent : Type 0
OneByteGivesAtMostOneEvent = (line : Line) (bytes : List ℕ) → length (events_of line bytes) ≤ length bytes

-- "each event carries the position of its first byte": the bytes held are the last ones fed, and the start position, which an event
-- carries, is where they begin
abbrev pub TheStartIsWhereTheHeldBegin : Type 0
TheStartIsWhereTheHeldBegin =
    (order : Order) (bytes : List ℕ)
    → let line = line_after (fresh_line order) bytes in
    let start = length bytes - length line.held in
    (drop start bytes ≡ line.held) × (start_of line ≡ start % 2 ^ 32)

-- and what a byte tells, if anything, carries that position
abbrev pub AnEventCarriesThatPosition : Type 0
AnEventCarriesThatPosition =
    (order : Order) (bytes : List ℕ) (byte : ℕ)
    → let line = line_after (fresh_line order) bytes in
    (events_of line (byte ∷ []) ≡ [])
    ⊎ ((answer : Outcome Record) × (size : ℕ) × (events_of line (byte ∷ []) ≡ Event answer ((length bytes - length line.held) % 2 ^ 32) size ∷ []))

-- the end of the line gives "11 for the bytes held if any, else nothing"
abbrev pub TheEndGives11 : Type 0
TheEndGives11 =
    (told_by_end [] ≡ nothing) × ((first : ℕ) (held : List ℕ) → told_by_end (first ∷ held) ≡ event (refused 11) (length held + 1))

-- "the state after it is outside, with fed and stray kept"
abbrev pub TheEndKeepsTheCounts : Type 0
TheEndKeepsTheCounts = (line : Line) → ((ended line).held ≡ []) × ((ended line).fed ≡ line.fed) × ((ended line).stray ≡ line.stray)

-- document 02, f, "a setting of the line": no byte changes the order, and no end
abbrev pub ALineKeepsItsOrder : Type 0
ALineKeepsItsOrder =
    (line : Line) (piece : List ℕ)
    → ((feed_of line piece).line.order ≡ line.order) × ((line_after line piece).order ≡ line.order) × ((ended line).order ≡ line.order)
