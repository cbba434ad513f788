-- What a call tells leaves nothing open: what it means determines the answer. Assumes nothing.
use mathlib.Core.Path.{◌≡◌, refl, ap}
use Rattle.std.specs.Prelude.{Option, None, Some, Result, Ok, Err}
use Rattle.refusals.specs.declared.Refusal.{Refusal}
use Rattle.refusals.specs.Numbers.{number, outcome}
use Rattle.refusals.proofs.NumberLaws.{number_told_apart, outcome_told_apart}
use Rattle.line_rules.specs.Hearing.{heard_as}
use Rattle.line_rules.specs.declared.Event.{Event}

pub heard_told_apart : (a b : Result (Option Event) Refusal) → heard_as a ≡ heard_as b → a ≡ b
heard_told_apart (Ok None) (Ok None) e = refl
heard_told_apart (Ok None) (Ok (Some b)) e = cc
heard_told_apart (Ok None) (Err b) e = cc
heard_told_apart (Ok (Some a)) (Ok None) e = cc
heard_told_apart (Ok (Some a)) (Ok (Some b)) e =
    let told : outcome a.answer ≡ outcome b.answer = cc in
    let start : a.start ≡ b.start = cc in
    let size : a.size ≡ b.size = cc in
    let answer = outcome_told_apart a.answer b.answer told in
    λ i. Ok (Some (record { answer = answer i; start = start i; size = size i }))
heard_told_apart (Ok (Some a)) (Err b) e = cc
heard_told_apart (Err a) (Ok None) e = cc
heard_told_apart (Err a) (Ok (Some b)) e = cc
heard_told_apart (Err a) (Err b) e = let same : number a ≡ number b = cc in ap Err (number_told_apart a b same)
