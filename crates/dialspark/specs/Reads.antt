-- What a read says of its bytes.
use Rattle.std.specs.Prelude.{ℕ, ◌<◌, ◌≤◌, List, length, take, Option, Some, None, Result, Ok, Err}
use Rattle.std.specs.Io.KnownBytes.{Consumes, IsAtEnd, Keeps}

-- so many bytes at the start of the buffer; none at the end; or a failure
abbrev pub Read : Type 0 → Type 0
Read Error = Result (Option ℕ) Error

-- there is one at least, and no more than the buffer has
abbrev pub Within : {Error : Type 0} → Read Error → ℕ → Type 0
Within (Ok (Some count)) room = (1 ≤ count) × (count ≤ room)
Within (Ok None) room = Unit {0}
Within (Err why) room = Unit {0}

-- what it does to the bytes that the reader is known to have left: those that it took stand at the start of the buffer; at the end there are
-- none; and a failure takes none
abbrev pub Takes : {Error : Type 0} → Read Error → Option (List ℕ) → Option (List ℕ) → List ℕ → Type 0
Takes (Ok (Some count)) before after buffer = Consumes before after (take count buffer)
Takes (Ok None) before after buffer = 0 < length buffer → IsAtEnd before
Takes (Err why) before after buffer = Keeps before after
