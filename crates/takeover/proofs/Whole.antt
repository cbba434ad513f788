-- What the step hands out leaves nothing open: what it means determines it. Assumes nothing.
use mathlib.Core.Path.{◌≡◌, ap}
use Rattle.refusals.proofs.NumberLaws.{number_if_told_apart}
use Rattle.takeover.specs.TakingOver.{taken_as}
use Rattle.takeover.specs.declared.TakenOver.{TakenOver}

pub taken_told_apart : (a b : TakenOver) → taken_as a ≡ taken_as b → a ≡ b
taken_told_apart a b e =
    let reader = ap (λ t. t.reader) e in
    let kept = ap (λ t. t.kept) e in
    let refusal = number_if_told_apart a.refusal b.refusal (ap (λ t. t.refusal) e) in
    λ i. record { reader = reader i; kept = kept i; refusal = refusal i }
