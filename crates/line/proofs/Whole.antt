-- What a call gives leaves nothing open: what it means determines it. Assumes nothing.
use mathlib.Core.Path.{◌≡◌, refl, ap}
use Rattle.std.specs.Prelude.{List, [], ◌∷◌, map, Option, Ok}
use Rattle.refusals.proofs.NumberLaws.{number_if_told_apart}
use Rattle.line_rules.specs.Hearing.{heard_as}
use Rattle.line_rules.specs.declared.Event.{Event}
use Rattle.line_rules.proofs.Whole.{heard_told_apart}
use Rattle.line.specs.declared.Fed.{Fed}
use Rattle.line.specs.declared.Ended.{Ended}
use Rattle.line.specs.declared.pieces.Passed.{Passed}
use Rattle.line.specs.Readers.{fed_as, ended_as}
use Rattle.line.specs.Pieces.{slot_as, passed_as}

pub fed_told_apart : (a b : Fed) → fed_as a ≡ fed_as b → a ≡ b
fed_told_apart a b e =
    let reader = ap (λ f. f.reader) e in
    let taken = ap (λ f. f.taken) e in
    let heard = heard_told_apart a.heard b.heard (ap (λ f. f.heard) e) in
    λ i. record { reader = reader i; taken = taken i; heard = heard i }

pub ended_told_apart : (a b : Ended) → ended_as a ≡ ended_as b → a ≡ b
ended_told_apart a b e =
    let reader = ap (λ f. f.reader) e in
    let heard = heard_told_apart a.heard b.heard (ap (λ f. f.heard) e) in
    λ i. record { reader = reader i; heard = heard i }

slot_told_apart : (a b : Option Event) → slot_as a ≡ slot_as b → a ≡ b
slot_told_apart a b e = let told : heard_as (Ok a) ≡ heard_as (Ok b) = ap (λ s. s.heard) e in let same = heard_told_apart (Ok a) (Ok b) told in cc

slots_told_apart : (a b : List (Option Event)) → map slot_as a ≡ map slot_as b → a ≡ b
slots_told_apart [] [] e = refl
slots_told_apart [] (b ∷ more') e = cc
slots_told_apart (a ∷ more) [] e = cc
slots_told_apart (a ∷ more) (b ∷ more') e =
    let one : slot_as a ≡ slot_as b = cc in
    let others : map slot_as more ≡ map slot_as more' = cc in
    let first = slot_told_apart a b one in
    let rest = slots_told_apart more more' others in
    λ i. first i ∷ rest i

pub passed_told_apart : (a b : Passed) → passed_as a ≡ passed_as b → a ≡ b
passed_told_apart a b e =
    let events = slots_told_apart a.events b.events (ap (λ p. p.slots) e) in
    let count = ap (λ p. p.count) e in
    let reader = ap (λ p. p.reader) e in
    let taken = ap (λ p. p.taken) e in
    let refusal = number_if_told_apart a.refusal b.refusal (ap (λ p. p.refusal) e) in
    λ i. record { events = events i; count = count i; reader = reader i; taken = taken i; refusal = refusal i }
