-- Document 01, "The line, byte by byte": the account of the bytes. "The first two sums are defined from the bytes."
use Rattle.std.specs.Prelude.{List, [], ◌∷◌, ℕ, ◌+◌}
use Rattle.line_rules.specs.Hearing.{Heard, Nothing, Event, Refused}
use Rattle.line_rules.specs.Line.{Line, Told, nothing, event, told_by, stray_by, step}

-- the bytes of an event
abbrev pub event_size : Told → ℕ
event_size nothing = 0
event_size (event outcome size) = size

-- the lengths of all events, and the number of stray bytes
abbrev pub lengths_of : Line → List ℕ → ℕ
lengths_of line [] = 0
lengths_of line (byte ∷ bytes) = event_size (told_by line.order line.held byte) + lengths_of (step line byte) bytes

abbrev pub strays_of : Line → List ℕ → ℕ
strays_of line [] = 0
strays_of line (byte ∷ bytes) = stray_by line.held byte + strays_of (step line byte) bytes

-- the lengths of the events that were heard
abbrev pub sizes_of : List Heard → ℕ
sizes_of [] = 0
sizes_of (Nothing ∷ heard) = sizes_of heard
sizes_of (Event answer start size ∷ heard) = size + sizes_of heard
sizes_of (Refused number ∷ heard) = sizes_of heard
