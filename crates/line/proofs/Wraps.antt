-- A reader stands for its line: it knows the counts only with the wrap, and that is all that feeding needs. Assumes nothing.
use Rattle.std.proofs.Common.{◌≡◌, ℕ, zero, suc, ◌+◌, ◌-◌, ◌%◌, ◌^◌, ◌≤◌, Bool, true, ◌&&◌, List, [], ◌∷◌, ◌++◌, length, take, drop, replicate, sym, refl, ap, ◌∙◌, arith, eq-eqb, le-leb}
use lib.Seq.{take-append_seam, drop-append_seam}
use Rattle.trailer_rules.specs.declared.Order.{Order}
use Rattle.line_rules.specs.Hearing.{Nothing, Event}
use Rattle.line.specs.Readers.{reader_of, line_of, all_zero, well_formed, well_formed_at, fed_for, feed_reader, feed_reader_at}
use Rattle.line_rules.specs.Line.{places, line_with, Line, Told, nothing, event, Feeding, stop_or, feed_of, held_after, told_by, stray_by, start_of, is_started}
use Rattle.line.proofs.Inside.{reader_wraps}
use Rattle.line_rules.proofs.GoodLines.{held_fits}

-- feeding says the same of two lines whose counts wrap alike
abbrev pub Alike : Order → List ℕ → ℕ → ℕ → ℕ → ℕ → List ℕ → Type 0
Alike order held fed fed' stray stray' piece = fed_for (feed_of (line_with held fed stray order) piece) ≡ fed_for (feed_of (line_with held fed' stray' order) piece)

alike_by : (told : Told) (start start' : ℕ) (next next' : Line) (on on' : Feeding) → start ≡ start' → reader_of next ≡ reader_of next' → fed_for on ≡ fed_for on'
    → fed_for (stop_or told start next on) ≡ fed_for (stop_or told start' next' on')
alike_by nothing start start' next next' on on' s n o = λ i. record { reader = (o i).reader; taken = (o i).taken + 1; heard = (o i).heard }
alike_by (event outcome size) start start' next next' on on' s n o =
    λ i. record { reader = n i; taken = 1; heard = Event outcome (s i) size }

pub alike : (order : Order) (held : List ℕ) (fed fed' stray stray' : ℕ) (piece : List ℕ) → length held ≤ places → fed % 2 ^ 32 ≡ fed' % 2 ^ 32 → stray % 2 ^ 32 ≡ stray' % 2 ^ 32
    → Alike order held fed fed' stray stray' piece
alike order held fed fed' stray stray' [] fits f s = λ i. record { reader = reader_wraps order held fed fed' stray stray' fits f s i; taken = 0; heard = Nothing }
alike order held fed fed' stray stray' (byte ∷ piece) fits f s =
    let f₁ : (fed + 1) % 2 ^ 32 ≡ (fed' + 1) % 2 ^ 32 = omega (arith, f) in
    let s₁ : (stray + stray_by held byte) % 2 ^ 32 ≡ (stray' + stray_by held byte) % 2 ^ 32 = omega (arith, s) in
    let start : (fed + (2 ^ 32 - length held)) % 2 ^ 32 ≡ (fed' + (2 ^ 32 - length held)) % 2 ^ 32 = omega (arith, f) in
    let next = reader_wraps order (held_after held byte) (fed + 1) (fed' + 1) (stray + stray_by held byte) (stray' + stray_by held byte) (held_fits places (omega arith) held byte) f₁ s₁ in
    let on = alike order (held_after held byte) (fed + 1) (fed' + 1) (stray + stray_by held byte) (stray' + stray_by held byte) piece (held_fits places (omega arith) held byte) f₁ s₁ in
    alike_by (told_by order held byte) _ _ _ _ _ _ start next on

-- a reader of a line that was started well is well formed
pub zeros_are : (n : ℕ) → all_zero (replicate n 0) ≡ true
zeros_are zero = refl
zeros_are (suc n) = zeros_are n

all_hold : {a b c d : Bool} → a ≡ true → b ≡ true → c ≡ true → d ≡ true → (a && (b && (c && d))) ≡ true
all_hold p q r s = rw (p, q, r, s)

module _ (order : Order) (held : List ℕ) (fed stray : ℕ) (fits : length held ≤ places) (started : is_started held ≡ true) where
  pub held_back : take (length held) (held ++ replicate (places - length held) 0) ≡ held
  held_back = take-append_seam held (replicate (places - length held) 0)

  rest_back : drop (length held) (held ++ replicate (places - length held) 0) ≡ replicate (places - length held) 0
  rest_back = drop-append_seam held (replicate (places - length held) 0)

  start_back : (fed + (2 ^ 32 - length held)) % 2 ^ 32 ≡ start_of (line_of (reader_of (line_with held fed stray order)))
  start_back =
      let wraps : (fed + (2 ^ 32 - length held)) % 2 ^ 32 ≡ (fed % 2 ^ 32 + (2 ^ 32 - length held)) % 2 ^ 32 = omega arith in
      wraps ∙ ap (λ bytes. (fed % 2 ^ 32 + (2 ^ 32 - length bytes)) % 2 ^ 32) (sym held_back)

  pub reader_well : well_formed (reader_of (line_with held fed stray order)) ≡ true
  unfolding well_formed_at
  reader_well =
      all_hold (le-leb (length held) places fits) (ap is_started held_back ∙ started) (ap all_zero rest_back ∙ zeros_are (places - length held)) (eq-eqb _ _ start_back)

  pub feed_reader_law : (piece : List ℕ) → feed_reader (reader_of (line_with held fed stray order)) piece ≡ fed_for (feed_of (line_with held fed stray order) piece)
  unfolding feed_reader_at
  feed_reader_law piece =
      rw reader_well
      ((λ i. fed_for (feed_of (line_with (held_back i) (fed % 2 ^ 32) (stray % 2 ^ 32) order) piece))
      ∙ alike order held (fed % 2 ^ 32) fed (stray % 2 ^ 32) stray piece fits (omega arith) (omega arith))
