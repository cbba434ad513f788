-- Document 01, "The line, byte by byte": what any bytes tell, one event behind another, and what the line then holds.
use Rattle.std.specs.Prelude.{List, [], ◌∷◌, ℕ}
use Rattle.line_rules.specs.Hearing.{Heard, Nothing, Event, Refused}
use Rattle.line_rules.specs.Line.{places, Line, Told, nothing, event, told_by_at, step_at, start_of}

-- what a line tells byte by byte, and what it then holds
abbrev pub tells : Told → ℕ → List Heard → List Heard
tells nothing start later = later
tells (event outcome size) start later = Event outcome start size ∷ later

abbrev pub events_at : ℕ → Line → List ℕ → List Heard
events_at bound line [] = []
events_at bound line (byte ∷ bytes) =
    tells (told_by_at bound line.order line.held byte) (start_of line) (events_at bound (step_at bound line byte) bytes)

abbrev pub line_after_at : ℕ → Line → List ℕ → Line
line_after_at bound line [] = line
line_after_at bound line (byte ∷ bytes) = line_after_at bound (step_at bound line byte) bytes

abbrev pub events_of : Line → List ℕ → List Heard
events_of = events_at places

abbrev pub line_after : Line → List ℕ → Line
line_after = line_after_at places

-- what one call heard, before what the later ones hear
abbrev pub heard_then : Heard → List Heard → List Heard
heard_then Nothing later = later
heard_then (Event answer start size) later = Event answer start size ∷ later
heard_then (Refused number) later = Refused number ∷ later
