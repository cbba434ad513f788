-- What a step hands out leaves nothing open: what it means determines it. Assumes nothing.
use mathlib.Core.Path.{◌≡◌, ap}
use Rattle.refusals.proofs.NumberLaws.{outcome_told_apart}
use Rattle.clock.specs.Answers.{in_numbers}
use Rattle.clock.specs.declared.Stepped.{Stepped}

pub step_told_apart : (a b : Stepped) → in_numbers a ≡ in_numbers b → a ≡ b
step_told_apart a b e =
    let clock = ap (λ s. s.clock) e in
    let answer = outcome_told_apart a.answer b.answer (ap (λ s. s.answer) e) in
    λ i. record { clock = clock i; answer = answer i }
