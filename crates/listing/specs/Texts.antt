-- The listing's own words: the room that a row in the making has, and what is told of a telegram.
use Rattle.std.specs.Prelude.{List, ℕ, ◌+◌, ◌≤◌, length, Result, Ok, Err}
use Rattle.listing.specs.declared.text.TheConstants.{TEXT_ROOM}
use Rattle.refusals.specs.Refusals.{Outcome, done, refused}

-- behind a text there is room for so many bytes more
abbrev pub Room : List ℕ → ℕ → Type 0
Room text more = length text + more ≤ TEXT_ROOM

-- no number of 64 bits has more digits
abbrev pub most_digits : ℕ
most_digits = 20

-- nor a column of such a number and its semicolon
abbrev pub most_column : ℕ
most_column = 21

-- no status takes more bytes
abbrev pub most_status : ℕ
most_status = 30

-- nor does all that a record says
abbrev pub most_columns : ℕ
most_columns = 58

-- nor do a block's number and an offset, each with its semicolon
abbrev pub most_place : ℕ
most_place = 42

-- what is told, as a telegram's record: a value, or a number that refuses it
abbrev pub told_as : {A : Type 0} → Result A ℕ → Outcome A
told_as (Ok value) = done value
told_as (Err number) = refused number
