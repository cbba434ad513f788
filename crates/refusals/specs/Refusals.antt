-- Document 01, "Refusal numbers": how a number is found, and what an entry point may answer.
use Rattle.std.specs.Prelude.{Bool, cond, ℕ, zero, suc, min}

-- "given exactly when": the number where its condition holds, and no refusal, 0, where it does not
infix 30 ◌when◌
abbrev pub ◌when◌ : ℕ → Bool → ℕ
◌when◌ n holds = cond holds n 0

-- "where several hold, the lowest is given": the first of two refusals, or the second where the first is none
infixr 20 ◌else◌
abbrev pub ◌else◌ : ℕ → ℕ → ℕ
◌else◌ zero later = later
◌else◌ (suc n) later = suc n

-- the lower of two refusals, where 0 is none
abbrev pub lower : ℕ → ℕ → ℕ
lower zero before = before
lower (suc here) zero = suc here
lower (suc here) (suc before) = suc (min here before)

-- an entry point does the work and hands out a value, or refuses with one number
pub data Outcome (A : Type 0) : Type 0 where
  done : A → Outcome A
  refused : ℕ → Outcome A

-- the value, unless there is a refusal
unfoldable pub unless : {A : Type 0} → ℕ → A → Outcome A
unless zero value = done value
unless (suc n) value = refused (suc n)

-- one thing after another: the second is done with what the first hands out, unless the first is refused
abbrev pub after : {A B : Type 0} → Outcome A → (A → Outcome B) → Outcome B
after (done value) next = next value
after (refused n) next = refused n
