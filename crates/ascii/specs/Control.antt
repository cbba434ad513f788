-- Document 01, "The seven layouts": the control characters that stand around a telegram and at its end.
use Rattle.std.specs.Prelude.{Bool, true, not, ◌&&◌, List, [], ◌∷◌, ℕ, eqb}

-- "STX (hex 02) and ETX (hex 03)"
abbrev pub stx : ℕ
stx = 0x02

abbrev pub etx : ℕ
etx = 0x03

-- "LF is hex 0A, CR hex 0D"
abbrev pub lf : ℕ
lf = 0x0A

abbrev pub cr : ℕ
cr = 0x0D

abbrev pub lf_cr : List ℕ
lf_cr = lf ∷ cr ∷ []

abbrev pub cr_lf : List ℕ
cr_lf = cr ∷ lf ∷ []

-- neither STX nor ETX: such a byte is called plain
abbrev pub is_plain : ℕ → Bool
is_plain byte = not (eqb byte stx) && not (eqb byte etx)

abbrev pub all_plain : List ℕ → Bool
all_plain [] = true
all_plain (byte ∷ bytes) = is_plain byte && all_plain bytes
