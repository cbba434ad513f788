-- A table as it is printed: each of its rows holds.
use Rattle.std.specs.Prelude.{List, [], ◌∷◌}

abbrev pub EachHolds : {A : Type 0} → (A → Type 0) → List A → Type 0
EachHolds Holds [] = Unit {0}
EachHolds Holds (row ∷ rows) = Holds row × EachHolds Holds rows
