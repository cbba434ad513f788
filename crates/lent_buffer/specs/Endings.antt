-- How it ended: all of it is done, or the refusal's number.
use Rattle.std.specs.Prelude.{ℕ, Result, Ok, Err}
use Rattle.refusals.specs.declared.Refusal.{Refusal}
use Rattle.refusals.specs.Numbers.{number}
use Rattle.refusals.specs.Refusals.{Outcome, done, refused}

pub data Ending : Type 0 where
  Whole : Ending
  Refused : ℕ → Ending

-- the same as an outcome
abbrev pub ending_answer : Ending → Outcome (Unit {0})
ending_answer Whole = done tt
ending_answer (Refused number) = refused number

-- what the code hands out: a refusal, or the number of one
abbrev pub ending_as : Result (Unit {0}) Refusal → Ending
ending_as (Ok nothing) = Whole
ending_as (Err refusal) = Refused (number refusal)

abbrev pub ending_numbered : Result (Unit {0}) ℕ → Ending
ending_numbered (Ok nothing) = Whole
ending_numbered (Err number) = Refused number
