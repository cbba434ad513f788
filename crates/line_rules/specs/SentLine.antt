-- Demand 3: a line of good records, each written with control characters, without advance and in the line's order, with any bytes but
-- STX around.
use Rattle.std.specs.Prelude.{Bool, true, not, ◌&&◌, List, [], ◌∷◌, ◌++◌, ℕ, ◌+◌, ◌%◌, ◌^◌, eqb, length}
use Rattle.record_rules.specs.declared.Record.{Record}
use Rattle.record_rules.specs.Rule.{refusal_of}
use Rattle.trailer_rules.specs.declared.Order.{Order}
use Rattle.telegram_rules.specs.Writing.{telegram_in}
use Rattle.ascii.specs.Control.{stx}
use Rattle.line_rules.specs.Hearing.{Heard, Event}
use Rattle.refusals.specs.Refusals.{done}

-- a record, and the bytes before its telegram
pub record Sent : Type 0 where
  pub before : List ℕ
  pub rec : Record

-- the bytes of the whole line, with those behind the last telegram
abbrev pub bytes_sent : Order → List Sent → List ℕ → List ℕ
bytes_sent order [] behind = behind
bytes_sent order (sent ∷ others) behind = sent.before ++ (telegram_in order true sent.rec ++ bytes_sent order others behind)

-- "any bytes but STX before, between and after"; good records
abbrev pub no_stx : List ℕ → Bool
no_stx [] = true
no_stx (byte ∷ bytes) = not (eqb byte stx) && no_stx bytes

abbrev pub all_good : List Sent → List ℕ → Bool
all_good [] behind = no_stx behind
all_good (sent ∷ others) behind = (no_stx sent.before && eqb (refusal_of sent.rec) 0) && all_good others behind

-- "exactly those records in that order", each with its true position and length
abbrev pub events_sent : Order → ℕ → List Sent → List Heard
events_sent order from [] = []
events_sent order from (sent ∷ others) =
    Event (done sent.rec) ((from + length sent.before) % 2 ^ 32) (length (telegram_in order true sent.rec))
    ∷ events_sent order (from + length sent.before + length (telegram_in order true sent.rec)) others

-- the true number of stray bytes
abbrev pub stray_sent : List Sent → List ℕ → ℕ
stray_sent [] behind = length behind
stray_sent (sent ∷ others) behind = length sent.before + stray_sent others behind
