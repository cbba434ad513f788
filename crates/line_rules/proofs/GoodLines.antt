-- Good lines stay good: no byte makes a line hold more than there are places, or anything but a started telegram. Assumes nothing.
use mathlib.Core.Path.{◌≡◌, refl}
use mathlib.Core.Bool.{Bool, true, false, cond}
use mathlib.Core.List.{List, [], ◌∷◌, ◌++◌}
use Prim.Native.Nat.{ℕ, ◌≤◌, ◌<◌}
use native.Mathlib.Omega.{arith}
use lib.Dec.{eqb, leb}
use lib.ListN.{length, length-append}
use borrow.Author.Tests.{leb-false}
use Rattle.ascii.specs.Control.{stx, etx}
use Rattle.line_rules.specs.Line.{held_after_at, places, Line, Told, nothing, event, Feeding, stop_or, feed_at, feed_of, told_by_at, step_at, step, is_plain, all_plain, is_started}
use Rattle.refusals.proofs.Laws.{both}
use Rattle.line_rules.specs.Events.{line_after_at}

-- no byte makes a line hold more than the bound
module _ (bound : ℕ) (some : 0 < bound) where
  fits_by : (held : List ℕ) (byte : ℕ) (is_etx is_stx is_full_law : Bool) → leb bound (length held) ≡ is_full_law
      → length (cond is_etx [] (cond is_stx (stx ∷ []) (cond is_full_law [] (held ++ byte ∷ [])))) ≤ bound
  fits_by held byte true is_stx is_full_law e = omega arith
  fits_by held byte false true is_full_law e = omega arith
  fits_by held byte false false true e = omega arith
  fits_by held byte false false false e = omega (arith, length-append held (byte ∷ []), leb-false bound (length held) e)

  begins_by : (is_stx : Bool) → length (cond {A = List ℕ} is_stx (stx ∷ []) []) ≤ bound
  begins_by true = omega arith
  begins_by false = omega arith

  pub held_fits : (held : List ℕ) (byte : ℕ) → length (held_after_at bound held byte) ≤ bound
  held_fits [] byte = begins_by (eqb byte stx)
  held_fits (first ∷ held) byte = fits_by (first ∷ held) byte (eqb byte etx) (eqb byte stx) (leb bound (length (first ∷ held))) refl

-- a line whose reader is well formed, at a bound and at the one in use
pub record GoodAt (bound : ℕ) (line : Line) : Type 0 where
  pub fits : length line.held ≤ bound
  pub started : is_started line.held ≡ true

abbrev pub Good : Line → Type 0
Good = GoodAt places

plain_behind : (held : List ℕ) (byte : ℕ) → all_plain held ≡ true → is_plain byte ≡ true → all_plain (held ++ byte ∷ []) ≡ true
plain_behind [] byte h p = rw p
plain_behind (first ∷ held) byte h p =
    let parts = both (is_plain first) (all_plain held) h in
    rw (parts.0, plain_behind held byte parts.1 p)

begins : (is_stx : Bool) → is_started (cond {A = List ℕ} is_stx (stx ∷ []) []) ≡ true
begins true = refl
begins false = refl

goes_on : (first : ℕ) (held : List ℕ) (byte : ℕ) (is_etx is_stx is_full_law : Bool) → eqb byte etx ≡ is_etx → eqb byte stx ≡ is_stx → is_started (first ∷ held) ≡ true
    → is_started (cond is_etx [] (cond is_stx (stx ∷ []) (cond is_full_law [] ((first ∷ held) ++ byte ∷ [])))) ≡ true
goes_on first held byte true is_stx is_full_law e s h = refl
goes_on first held byte false true is_full_law e s h = refl
goes_on first held byte false false true e s h = refl
goes_on first held byte false false false e s h =
    let parts = both (eqb first stx) (all_plain held) h in
    let plain : is_plain byte ≡ true = simp (e, s) in
    rw (parts.0, plain_behind held byte parts.1 plain)

pub started_stays : (bound : ℕ) (held : List ℕ) (byte : ℕ) → is_started held ≡ true → is_started (held_after_at bound held byte) ≡ true
started_stays bound [] byte h = begins (eqb byte stx)
started_stays bound (first ∷ held) byte h = goes_on first held byte (eqb byte etx) (eqb byte stx) (leb bound (length (first ∷ held))) refl refl h

good_by : (bound : ℕ) (told : Told) (start : ℕ) (next : Line) (on : Feeding) → GoodAt bound next → GoodAt bound on.line → GoodAt bound (stop_or told start next on).line
good_by bound nothing start next on n o = o
good_by bound (event outcome size) start next on n o = n

module _ (bound : ℕ) (some : 0 < bound) where
  pub good_step_at : (line : Line) (byte : ℕ) → GoodAt bound line → GoodAt bound (step_at bound line byte)
  good_step_at line byte good = record { fits = held_fits bound some line.held byte; started = started_stays bound line.held byte good.started }

  pub good_feed_at : (line : Line) (piece : List ℕ) → GoodAt bound line → GoodAt bound (feed_at bound line piece).line
  good_feed_at line [] good = good
  good_feed_at line (byte ∷ piece) good =
      let next = good_step_at line byte good in
      good_by bound (told_by_at bound line.order line.held byte) _ _ _ next (good_feed_at (step_at bound line byte) piece next)

  pub good_after_at : (line : Line) (piece : List ℕ) → GoodAt bound line → GoodAt bound (line_after_at bound line piece)
  good_after_at line [] good = good
  good_after_at line (byte ∷ piece) good = good_after_at (step_at bound line byte) piece (good_step_at line byte good)

pub good_step : (line : Line) (byte : ℕ) → Good line → Good (step line byte)
good_step = good_step_at places (omega arith)

pub good_feed : (line : Line) (piece : List ℕ) → Good line → Good (feed_of line piece).line
good_feed = good_feed_at places (omega arith)
