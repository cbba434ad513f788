-- The words of the log's private function: where in the region the telegram of a slot stands.
use Rattle.std.specs.Prelude.{List, ◌≡◌, ℕ, ◌+◌, ◌≤◌, length, take, drop, Result, Ok, Err, IfOk}
use Rattle.refusals.specs.declared.Refusal.{Refusal}
use Rattle.refusals.specs.Numbers.{number}
use Rattle.refusals.specs.Refusals.{Outcome, done, refused}
use Rattle.log_rules.specs.Answers.{telegram_place}

-- the bytes of a part of the region, by where it begins and how many they are
abbrev pub located_in : List ℕ → Result (ℕ × ℕ) Refusal → Outcome (List ℕ)
located_in region (Ok part) = done (take part.1 (drop part.0 region))
located_in region (Err refusal) = refused (number refusal)

-- a part that begins there and ends within the region
abbrev pub StandsIn : List ℕ → ℕ → ℕ → Result (ℕ × ℕ) Refusal → Type 0
StandsIn region block slot part = IfOk part (λ p. (p.0 ≡ telegram_place block slot) × (p.0 + p.1 ≤ length region))
