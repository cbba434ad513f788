-- Laws of runs, one byte after the other. Assumes nothing.
use mathlib.Core.Path.{◌≡◌, refl, ap, sym, ◌∙◌}
use mathlib.Core.Bool.{Bool, true, false, cond, ◌||◌, true≢false, false≢true}
use mathlib.Core.List.{List, [], ◌∷◌, ◌++◌}
use Prim.Native.Nat.{ℕ, zero, suc, ◌+◌, ◌-◌, ◌≤◌, ◌<◌}
use native.Mathlib.Omega.{arith}
use lib.Dec.{eqb}
use lib.ListN.{length, take, drop, get_or, length-drop, take-append-drop}
use lib.Seq.{drop-drop, length-take-le}
use borrow.Author.Tests.{eqb-true}
use Rattle.ascii.specs.Control.{stx}
use Rattle.line_rules.specs.Line.{is_plain}
use Rattle.line_rules.specs.Runs.{begins_with_stx, has_stx, stray_run, plain_run}

-- a run is no longer than its room and its piece
abbrev pub Within : ℕ → ℕ → List ℕ → Type 0
Within n room piece = (n ≤ room) × (n ≤ length piece)

within_on : (t : Bool) (n room byte : ℕ) (piece : List ℕ) → Within n room piece → Within (cond t (suc n) 0) (suc room) (byte ∷ piece)
within_on true n room byte piece (r, p) = (omega arith, omega arith)
within_on false n room byte piece h = (omega arith, omega arith)

pub run_within : (room : ℕ) (piece : List ℕ) → Within (plain_run (take room piece)) room piece
run_within zero piece = (omega arith, omega arith)
run_within (suc room) [] = (omega arith, omega arith)
run_within (suc room) (byte ∷ piece) = within_on (is_plain byte) (plain_run (take room piece)) room byte piece (run_within room piece)

-- it ends for want of room, or of bytes, or at a byte that is not plain
abbrev pub Ends : ℕ → ℕ → List ℕ → Type 0
Ends n room piece = n < room → n < length piece → is_plain (get_or piece n 0) ≡ false

ends_on : (t : Bool) (n room byte : ℕ) (piece : List ℕ) → is_plain byte ≡ t → Ends n room piece → Ends (cond t (suc n) 0) (suc room) (byte ∷ piece)
ends_on true n room byte piece e h r p = h (omega arith) (omega arith)
ends_on false n room byte piece e h r p = e

pub run_ends : (room : ℕ) (piece : List ℕ) → Ends (plain_run (take room piece)) room piece
run_ends zero piece = λ r p. absurd (omega arith)
run_ends (suc room) [] = λ r p. absurd (omega arith)
run_ends (suc room) (byte ∷ piece) = ends_on (is_plain byte) (plain_run (take room piece)) room byte piece refl (run_ends room piece)

-- a run of stray bytes ends with the piece or at an STX
abbrev pub StrayEnds : ℕ → List ℕ → Type 0
StrayEnds n piece = (n ≤ length piece) × (n < length piece → get_or piece n 0 ≡ stx)

stray_on : (t : Bool) (n byte : ℕ) (piece : List ℕ) → eqb byte stx ≡ t → StrayEnds n piece → StrayEnds (cond t 0 (suc n)) (byte ∷ piece)
stray_on true n byte piece e h = (omega arith, λ more. eqb-true byte stx e)
stray_on false n byte piece e h = (omega (arith, h.0), λ more. h.1 (omega arith))

pub stray_ends : (piece : List ℕ) → StrayEnds (stray_run piece) piece
stray_ends [] = (omega arith, λ more. absurd (omega arith))
stray_ends (byte ∷ piece) = stray_on (eqb byte stx) (stray_run piece) byte piece refl (stray_ends piece)

-- an STX in front: no run, and not for want of bytes
pub begins_at_once : (piece : List ℕ) → begins_with_stx piece ≡ true → (0 ≡ stray_run piece) × (0 < length piece)
begins_at_once [] begins = absurd (false≢true begins)
begins_at_once (byte ∷ piece) begins = (ap (λ t. cond t 0 (suc (stray_run piece))) (sym begins), omega arith)

-- bytes without an STX lengthen the run behind them by their number
past_on : (t has : Bool) (run size behind : ℕ) → (t || has) ≡ false → (has ≡ false → run ≡ size + behind) → cond t 0 (suc run) ≡ suc size + behind
past_on true has run size behind none h = absurd (true≢false none)
past_on false has run size behind none h = omega (arith, h none)

pub stray_past : (front behind : List ℕ) → has_stx front ≡ false → stray_run (front ++ behind) ≡ length front + stray_run behind
stray_past [] behind none = omega arith
stray_past (byte ∷ front) behind none =
    past_on (eqb byte stx) (has_stx front) (stray_run (front ++ behind)) (length front) (stray_run behind) none (stray_past front behind)

-- so a part of a piece without an STX moves the place that is looked at, and not the end of the run
pub stray_block : (piece : List ℕ) (at end : ℕ) → at ≤ end → end ≤ length piece → has_stx (take (end - at) (drop at piece)) ≡ false
    → end + stray_run (drop end piece) ≡ at + stray_run (drop at piece)
stray_block piece at end order fits none =
    let size = end - at in
    let block = take size (drop at piece) in
    let is_size : length block ≡ size = length-take-le size (drop at piece) (omega (arith, length-drop at piece)) in
    let ends : at + size ≡ end = omega arith in
    let behind = ap stray_run (drop-drop size at piece ∙ ap (λ n. drop n piece) ends) in
    let whole = ap stray_run (take-append-drop size (drop at piece)) in
    omega (arith, is_size, behind, whole, stray_past block (drop size (drop at piece)) none)
