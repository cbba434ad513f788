-- The words of the line's private functions: runs of bytes at the front of a piece that are taken alike.
use Rattle.std.specs.Prelude.{Bool, false, cond, ◌||◌, List, [], ◌∷◌, ◌≡◌, ℕ, suc, ◌+◌, ◌-◌, ◌<◌, eqb, length, take, drop, get_or}
use Rattle.ascii.specs.Control.{stx, etx}
use Rattle.line_rules.specs.Line.{places, is_plain}

-- whether the first byte is an STX, and whether any byte is
abbrev pub begins_with_stx : List ℕ → Bool
begins_with_stx [] = false
begins_with_stx (byte ∷ piece) = eqb byte stx

abbrev pub has_stx : List ℕ → Bool
has_stx [] = false
has_stx (byte ∷ piece) = eqb byte stx || has_stx piece

-- how many bytes stand before the first STX
abbrev pub stray_run : List ℕ → ℕ
stray_run [] = 0
stray_run (byte ∷ piece) = cond (eqb byte stx) 0 (suc (stray_run piece))

-- how many bytes stand before the first STX or ETX
abbrev pub plain_run : List ℕ → ℕ
plain_run [] = 0
plain_run (byte ∷ piece) = cond (is_plain byte) (suc (plain_run piece)) 0

-- as many of them as there are places for behind `len`
abbrev pub roomy_run : ℕ → List ℕ → ℕ
roomy_run len piece = plain_run (take (places - len) piece)

-- an STX behind the stray bytes, and behind as many plain ones as there are places for an ETX: a telegram stands whole in a piece
pub record WholeAt (piece : List ℕ) (begin end : ℕ) : Type 0 where
  pub begins : begin ≡ stray_run piece
  pub ends : end ≡ begin + 1 + roomy_run 1 (drop (begin + 1) piece)
  pub inside : end < length piece
  pub ended : get_or piece end 0 ≡ etx
