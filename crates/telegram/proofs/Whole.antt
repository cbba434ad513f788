-- How several stand leaves nothing open: what it means determines it. Assumes nothing.
use mathlib.Core.Path.{◌≡◌, ap}
use Rattle.lent_buffer.proofs.EndingLaws.{numbered_told_apart}
use Rattle.telegram.specs.SeveralTelegrams.{several_as}
use Rattle.telegram.specs.declared.several.Several.{Several}

pub several_told_apart : (a b : Several) → several_as a ≡ several_as b → a ≡ b
several_told_apart a b e =
    let count = ap (λ s. s.count) e in
    let used = ap (λ s. s.used) e in
    let ending = numbered_told_apart a.ending b.ending (ap (λ s. s.ending) e) in
    λ i. record { count = count i; used = used i; ending = ending i }
