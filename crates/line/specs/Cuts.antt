-- Demand 3, the words of it: a line cut into pieces, each fed until it is used up, by any caller's loop.
use Rattle.std.specs.Prelude.{◌≡◌, ℕ, zero, suc, List, [], ◌∷◌, ◌++◌, length, drop}
use Prim.{Unit}
use Rattle.line.specs.declared.Reader.{Reader}
use Rattle.line_rules.specs.Hearing.{Heard}
use Rattle.line.specs.Readers.{feed_reader, Fed}
use Rattle.line_rules.specs.Events.{heard_then}

-- what calls on one piece leave: "the caller passes on the rest of the piece that it hasn't taken"
pub record Calls : Type 0 where
  pub reader : Reader
  pub rest : List ℕ
  pub heard : List Heard

-- one call of any reader's feed, so that the demand can be held against any
abbrev pub called_for : Fed → List ℕ → Calls
called_for fed piece = record { reader = fed.reader; rest = drop fed.taken piece; heard = heard_then fed.heard [] }

abbrev pub feeding : (Reader → List ℕ → Fed) → Reader → List ℕ → Calls
feeding feed reader piece = called_for (feed reader piece) piece

-- a caller's loop after so many calls on one piece, whatever it calls
abbrev pub calls_then : Calls → Calls → Calls
calls_then first later = record { reader = later.reader; rest = later.rest; heard = first.heard ++ later.heard }

abbrev pub calls_of : (Reader → List ℕ → Calls) → ℕ → Reader → List ℕ → Calls
calls_of call zero reader piece = record { reader = reader; rest = piece; heard = [] }
calls_of call (suc n) reader piece =
    calls_then (call reader piece) (calls_of call n (call reader piece).reader (call reader piece).rest)

-- a line in pieces, each with the number of calls made on it
pub record Served : Type 0 where
  pub piece : List ℕ
  pub times : ℕ

abbrev pub bytes_served : List Served → List ℕ
bytes_served [] = []
bytes_served (served ∷ others) = served.piece ++ bytes_served others

abbrev pub heard_of : (Reader → List ℕ → Calls) → Reader → List Served → List Heard
heard_of call reader [] = []
heard_of call reader (served ∷ others) =
    (calls_of call served.times reader served.piece).heard ++ heard_of call (calls_of call served.times reader served.piece).reader others

abbrev pub reader_behind : (Reader → List ℕ → Calls) → Reader → List Served → Reader
reader_behind call reader [] = reader
reader_behind call reader (served ∷ others) = reader_behind call (calls_of call served.times reader served.piece).reader others

-- each piece was fed until it was used up
abbrev pub AllUsedUp : (Reader → List ℕ → Calls) → Reader → List Served → Type 0
AllUsedUp call reader [] = Unit
AllUsedUp call reader (served ∷ others) =
    ((calls_of call served.times reader served.piece).rest ≡ []) × AllUsedUp call (calls_of call served.times reader served.piece).reader others

-- as many calls on a piece as it has bytes
abbrev pub serve : List ℕ → Served
serve piece = record { piece = piece; times = length piece }

-- the same of the reader that `feed` promises
abbrev pub heard_from : Reader → List Served → List Heard
heard_from = heard_of (feeding feed_reader)

abbrev pub reader_after : Reader → List Served → Reader
reader_after = reader_behind (feeding feed_reader)

abbrev pub UsedUp : Reader → List Served → Type 0
UsedUp = AllUsedUp (feeding feed_reader)
