-- Document 01, "The line, byte by byte", and document 02, f: "the trailer order .. becomes a setting of the line", and g: the bound.
use Rattle.std.specs.Prelude.{Bool, true, cond, not, ◌&&◌, List, [], ◌∷◌, ◌++◌, ℕ, ◌+◌, ◌-◌, ◌%◌, ◌^◌, leb, eqb, length}
use Rattle.refusals.specs.Refusals.{Outcome, refused}
use Rattle.record_rules.specs.declared.Record.{Record}
use Rattle.trailer_rules.specs.declared.Order.{Order}
use Rattle.telegram_rules.specs.Reading.{read_in}
use Rattle.ascii.specs.Control.{stx, etx}
use Rattle.line_rules.specs.Hearing.{Heard, Nothing, Event}

-- "the reader then holds 0 to 38 bytes" (document 02, g). What a line does stands below over any bound, and is in use at this one
abbrev pub places : ℕ
places = 38

-- what a reader's state means: the bytes held, two counts that know no end, and the order of the trailers on it. Lines are made by
-- `line_with` alone
pub record Line : Type 0 where
  pub held : List ℕ
  pub fed : ℕ
  pub stray : ℕ
  pub order : Order

abbrev pub line_with : List ℕ → ℕ → ℕ → Order → Line
line_with held fed stray order = record { held = held; fed = fed; stray = stray; order = order }

-- what one byte tells: nothing, or an event with its length
pub data Told : Type 0 where
  nothing : Told
  event : Outcome Record → ℕ → Told

-- "inside, ETX ends it and it is judged", in the line's order
abbrev pub judgement : Order → List ℕ → Outcome Record
judgement order held = read_in order true (held ++ etx ∷ [])

-- "outside a telegram STX begins one; any other byte is stray and counted"; "inside, ETX ends it .. STX gives 9 for
-- the bytes held and begins a new telegram with itself. Any other byte is held, but if" as many as the bound "are already held it gives
-- 10, belongs to the refused telegram" (one byte more), "and the reader is outside"
abbrev pub held_after_at : ℕ → List ℕ → ℕ → List ℕ
held_after_at bound [] byte = cond (eqb byte stx) (stx ∷ []) []
held_after_at bound (first ∷ held) byte =
    cond (eqb byte etx) []
    (cond (eqb byte stx) (stx ∷ [])
    (cond (leb bound (length (first ∷ held))) [] ((first ∷ held) ++ byte ∷ [])))

abbrev pub told_by_at : ℕ → Order → List ℕ → ℕ → Told
told_by_at bound order [] byte = nothing
told_by_at bound order (first ∷ held) byte =
    cond (eqb byte etx) (event (judgement order (first ∷ held)) (length (first ∷ held) + 1))
    (cond (eqb byte stx) (event (refused 9) (length (first ∷ held)))
    (cond (leb bound (length (first ∷ held))) (event (refused 10) (bound + 1)) nothing))

abbrev pub held_after : List ℕ → ℕ → List ℕ
held_after = held_after_at places

abbrev pub told_by : Order → List ℕ → ℕ → Told
told_by = told_by_at places

abbrev pub stray_by : List ℕ → ℕ → ℕ
stray_by [] byte = cond (eqb byte stx) 0 1
stray_by (first ∷ held) byte = 0

abbrev pub step_at : ℕ → Line → ℕ → Line
step_at bound line byte =
    line_with (held_after_at bound line.held byte) (line.fed + 1) (line.stray + stray_by line.held byte) line.order

abbrev pub step : Line → ℕ → Line
step = step_at places

-- "the start position is fed less held, with the wrap"
abbrev pub start_of : Line → ℕ
start_of line = (line.fed + (2 ^ 32 - length line.held)) % 2 ^ 32

-- "a call stops after the first event, or takes the whole piece where there is none, says how many bytes it took"
pub record Feeding : Type 0 where
  pub line : Line
  pub taken : ℕ
  pub told : Told
  pub at : ℕ

abbrev pub stop_or : Told → ℕ → Line → Feeding → Feeding
stop_or nothing start next later =
    record { line = later.line; taken = later.taken + 1; told = later.told; at = later.at }
stop_or (event outcome size) start next later = record { line = next; taken = 1; told = event outcome size; at = start }

abbrev pub feed_at : ℕ → Line → List ℕ → Feeding
feed_at bound line [] = record { line = line; taken = 0; told = nothing; at = 0 }
feed_at bound line (byte ∷ piece) =
    stop_or (told_by_at bound line.order line.held byte) (start_of line) (step_at bound line byte) (feed_at bound (step_at bound line byte) piece)

abbrev pub feed_of : Line → List ℕ → Feeding
feed_of = feed_at places

-- "the end of the line is its own call: 11 for the bytes held if any, else nothing; the state after it is outside, with fed and
-- stray kept"
abbrev pub ended : Line → Line
ended line = line_with [] line.fed line.stray line.order

abbrev pub told_by_end : List ℕ → Told
told_by_end [] = nothing
told_by_end (first ∷ held) = event (refused 11) (length (first ∷ held))

-- "a fresh one holds none and all its counts are 0", for a line of a named order
abbrev pub fresh_line : Order → Line
fresh_line order = line_with [] 0 0 order

-- of the bytes held, "if any, the first is STX and no other is STX or ETX"
abbrev pub is_plain : ℕ → Bool
is_plain byte = not (eqb byte stx) && not (eqb byte etx)

abbrev pub all_plain : List ℕ → Bool
all_plain [] = true
all_plain (byte ∷ bytes) = is_plain byte && all_plain bytes

abbrev pub is_started : List ℕ → Bool
is_started [] = true
is_started (first ∷ held) = eqb first stx && all_plain held

-- what is handed out
abbrev pub heard_for : Told → ℕ → Heard
heard_for nothing start = Nothing
heard_for (event outcome size) start = Event outcome start size
