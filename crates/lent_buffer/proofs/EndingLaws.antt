-- How it ended leaves nothing open: what it means determines it. Assumes nothing.
use mathlib.Core.Path.{◌≡◌, refl, ap}
use Rattle.std.specs.Prelude.{ℕ, Result, Ok, Err}
use Rattle.refusals.specs.declared.Refusal.{Refusal}
use Rattle.refusals.specs.Numbers.{number}
use Rattle.refusals.proofs.NumberLaws.{number_told_apart}
use Rattle.lent_buffer.specs.Endings.{ending_as, ending_numbered}

pub ending_told_apart : (a b : Result (Unit {0}) Refusal) → ending_as a ≡ ending_as b → a ≡ b
ending_told_apart (Ok a) (Ok b) e = refl
ending_told_apart (Ok a) (Err b) e = cc
ending_told_apart (Err a) (Ok b) e = cc
ending_told_apart (Err a) (Err b) e = let same : number a ≡ number b = cc in ap Err (number_told_apart a b same)

pub numbered_told_apart : (a b : Result (Unit {0}) ℕ) → ending_numbered a ≡ ending_numbered b → a ≡ b
numbered_told_apart (Ok a) (Ok b) e = refl
numbered_told_apart (Ok a) (Err b) e = cc
numbered_told_apart (Err a) (Ok b) e = cc
numbered_told_apart (Err a) (Err b) e = cc
