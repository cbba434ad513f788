-- What an entry point may answer: the words in which demand 1 is stated.
use Rattle.std.specs.Prelude.{Bool, true, false, ◌&&◌, ◌||◌, List, [], ◌∷◌, ◌≡◌, ℕ, zero, suc, leb, eqb}
use Rattle.refusals.specs.Refusals.{◌when◌, ◌else◌, lower, Outcome, done, refused, unless, after}
use Rattle.line_rules.specs.Hearing.{Heard, Nothing, Event, Refused}

-- a row of document 01's table of refusal numbers: "no. | given exactly when"
infix 70 ◌given_when◌
pub data Rule : Type 0 where
  ◌given_when◌ : ℕ → Bool → Rule

-- "where several hold, the lowest is given": the lowest number whose rule holds, 0 where none does
abbrev pub lowest : List Rule → ℕ
lowest [] = 0
lowest (n given_when holds ∷ rules) = lower (n when holds) (lowest rules)

-- the first rule that holds, for orders that are not those of the numbers; 0 where none does
abbrev pub first_of : List Rule → ℕ
first_of [] = 0
first_of (n given_when holds ∷ rules) = n when holds else first_of rules

-- rules in the order of their numbers
abbrev pub all_from : ℕ → List Rule → Bool
all_from n [] = true
all_from n (m given_when holds ∷ rules) = leb n m && all_from n rules

abbrev pub in_order : List Rule → Bool
in_order [] = true
in_order (n given_when holds ∷ rules) = all_from n rules && in_order rules

-- there the first that holds is the lowest that holds
abbrev pub TheFirstIsTheLowest : Type 0
TheFirstIsTheLowest = (rules : List Rule) → in_order rules ≡ true → first_of rules ≡ lowest rules

-- the work is done, unless one of the rules refuses it: then it is refused with the lowest number whose rule holds
infix 10 ◌refused_by◌
abbrev pub ◌refused_by◌ : {A : Type 0} → Outcome A → List Rule → Type 0
◌refused_by◌ outcome rules = after outcome (λ value. done tt) ≡ unless {A = Unit {0}} (lowest rules) tt

-- the same with the first number whose rule holds
infix 10 ◌by_first◌
abbrev pub ◌by_first◌ : {A : Type 0} → Outcome A → List Rule → Type 0
◌by_first◌ outcome rules = after outcome (λ value. done tt) ≡ unless {A = Unit {0}} (first_of rules) tt

-- the work is done, or refused with one of these numbers
abbrev pub among : List ℕ → ℕ → Bool
among [] n = false
among (first ∷ others) n = eqb n first || among others n

infix 10 ◌done_or◌
abbrev pub ◌done_or◌ : {A : Type 0} → Outcome A → List ℕ → Type 0
◌done_or◌ (done value) numbers = Unit {0}
◌done_or◌ (refused n) numbers = among numbers n ≡ true

-- the same of a refusal that is told as a number, 0 where there is none
infix 10 ◌none_or◌
abbrev pub ◌none_or◌ : ℕ → List ℕ → Type 0
◌none_or◌ zero numbers = Unit {0}
◌none_or◌ (suc n) numbers = among numbers (suc n) ≡ true

-- the same of the line: no event, or an event that is a record or is refused with one of these numbers. 15 is no event
infix 10 ◌silent_or◌
abbrev pub ◌silent_or◌ : Heard → List ℕ → Type 0
◌silent_or◌ Nothing numbers = Unit {0}
◌silent_or◌ (Event answer start size) numbers = answer done_or numbers
◌silent_or◌ (Refused n) numbers = ⊥

abbrev pub EachSilentOr : List Heard → List ℕ → Type 0
EachSilentOr [] numbers = Unit {0}
EachSilentOr (heard ∷ others) numbers = (heard silent_or numbers) × EachSilentOr others numbers
