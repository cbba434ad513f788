-- A range, with both of its ends.
use Rattle.std.specs.Prelude.{Bool, ◌&&◌, ℕ, leb}

abbrev pub inside : ℕ → ℕ → ℕ → Bool
inside low x high = leb low x && leb x high
