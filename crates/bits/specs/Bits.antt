-- What is on is a bit that is 1.
use Rattle.std.specs.Prelude.{Bool, cond, ℕ}

abbrev pub bit : Bool → ℕ
bit on = cond on 1 0
