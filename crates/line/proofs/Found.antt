-- Where the first byte of a kind stands, and the end where there is none. Assumes nothing.
use Rattle.std.proofs.Common.{◌≡◌, ℕ, suc, ◌+◌, ◌≤◌, Bool, true, false, cond, not, ltb, eqb, List, Some, None, refl, ap, arith, ltb-false}
use Rattle.std.specs.List.{position_or_len}
use Rattle.std.specs.Option.{unwrap_or}
use Rattle.std.proofs.lemmas.List.Recursion.{is_position_or_len}
use Rattle.ascii.specs.Control.{stx}
use Rattle.line_rules.specs.Line.{is_plain}
use Rattle.line_rules.specs.Runs.{stray_run, plain_run}

found_by : (n end : ℕ) → n ≤ end → (t : Bool) → ltb n end ≡ t → unwrap_or (cond t (Some n) None) end ≡ n
found_by n end fits true e = refl
found_by n end fits false e = omega (arith, ltb-false n end e)

-- of a place that was looked for, and the end
pub found : (n end : ℕ) → n ≤ end → unwrap_or (cond (ltb n end) (Some n) None) end ≡ n
found n end fits = found_by n end fits (ltb n end) refl

abbrev pub is_stx : ℕ → Bool
is_stx byte = eqb byte stx

abbrev pub is_other : ℕ → Bool
is_other byte = not (is_plain byte)

pub stray_found : (piece : List ℕ) → stray_run piece ≡ position_or_len is_stx piece
stray_found = is_position_or_len stray_run is_stx refl (λ byte piece. ap (cond (is_stx byte) 0) (omega arith))

other : (t : Bool) (n : ℕ) → cond t (suc n) 0 ≡ cond (not t) 0 (1 + n)
other true n = omega arith
other false n = refl

pub plain_found : (piece : List ℕ) → plain_run piece ≡ position_or_len is_other piece
plain_found = is_position_or_len plain_run is_other refl (λ byte piece. other (is_plain byte) (plain_run piece))
