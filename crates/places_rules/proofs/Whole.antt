-- What a row finds leaves nothing open: what it means determines what is found. Assumes nothing.
use mathlib.Core.Path.{◌≡◌, ap}
use Rattle.refusals.proofs.NumberLaws.{number_if_told_apart}
use Rattle.places_rules.specs.Places.{finding}
use Rattle.places_rules.specs.declared.Found.{Found}

pub finding_told_apart : (a b : Found) → finding a ≡ finding b → a ≡ b
finding_told_apart a b e =
    let digits = ap (λ f. f.digits) e in
    let fault = number_if_told_apart a.fault b.fault (ap (λ f. f.fault) e) in
    λ i. record { digits = digits i; fault = fault i }
