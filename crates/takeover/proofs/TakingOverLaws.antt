-- Laws of taking a state over: with more places, and zeros in them, it is as well formed and means the same. Assumes nothing.
use mathlib.Core.Path.{◌≡◌, ap, ap₂, sym, ◌∙◌}
use mathlib.Core.Bool.{true, false, ◌&&◌}
use mathlib.Core.List.{List, [], ◌∷◌, ◌++◌}
use Prim.Native.Nat.{ℕ, ◌-◌, ◌≤◌, ◌<◌}
use native.Mathlib.Omega.{arith}
use lib.Dec.{eqb}
use lib.ListN.{length, take, drop, replicate}
use lib.Seq.{take-append-le, drop-append-le}
use borrow.Author.Tests.{le-leb, lt-leb}
use Rattle.line.specs.declared.Reader.{Reader}
use Rattle.line.specs.Readers.{line_of, all_zero, well_formed_at, well_formed}
use Rattle.line_rules.specs.Line.{places, line_with, start_of, is_started}
use Rattle.line.proofs.Wraps.{zeros_are}
use Rattle.takeover.specs.declared.Kept.{Kept}
use Rattle.takeover.specs.TakingOver.{kept_places, state_of, was_well_formed, with_more_places, taken_over, refused_for, take_over}

-- zeros behind
zeros_behind : (bytes : List ℕ) (n : ℕ) → all_zero (bytes ++ replicate n 0) ≡ all_zero bytes
zeros_behind [] n = zeros_are n
zeros_behind (byte ∷ bytes) n = ap (◌&&◌ (eqb byte 0)) (zeros_behind bytes n)

module _ (state : Reader) (size : length state.held ≡ kept_places) (fits : state.len ≤ kept_places) where
  pub same_held : take state.len (with_more_places state).held ≡ take state.len state.held
  same_held = take-append-le state.len state.held _ (omega arith)

  pub same_line : line_of (with_more_places state) ≡ line_of state
  same_line = ap (λ held. line_with held state.fed state.stray state.order) same_held

  -- the rule at both bounds
  pub as_well_formed : well_formed (with_more_places state) ≡ well_formed_at kept_places state
  unfolding well_formed_at
  as_well_formed =
      let zero : all_zero (drop state.len (with_more_places state).held) ≡ all_zero (drop state.len state.held) =
      ap all_zero (drop-append-le state.len state.held _ (omega arith))
      ∙ zeros_behind (drop state.len state.held) (places - kept_places) in
      ap₂ ◌&&◌ (le-leb state.len places (omega arith) ∙ sym (le-leb state.len kept_places fits))
      (ap₂ ◌&&◌ (ap is_started same_held) (ap₂ ◌&&◌ zero (ap (λ line. eqb state.start (start_of line)) same_line)))

-- so the reader's own test decides
pub by_the_reader : (kept : Kept) (reader : Reader) → length kept.held ≡ kept_places → kept.len ≤ kept_places
    → reader ≡ with_more_places (state_of kept) → was_well_formed kept ≡ well_formed reader
by_the_reader kept reader size fits is =
    sym (ap well_formed is ∙ as_well_formed (state_of kept) size fits)

-- more held than there were places
pub too_many : (kept : Kept) → kept_places < kept.len → was_well_formed kept ≡ false
unfolding well_formed_at
too_many kept more = rw (lt-leb kept.len kept_places more)

-- what the step answers
pub takes : (kept : Kept) → was_well_formed kept ≡ true → take_over kept ≡ taken_over kept
unfolding take_over
takes kept e = rw e

pub refuses : (kept : Kept) → was_well_formed kept ≡ false → take_over kept ≡ refused_for kept
unfolding take_over
refuses kept e = rw e
