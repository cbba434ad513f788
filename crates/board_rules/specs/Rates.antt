-- Document 01, "6036 parameter byte", and document 02, f: the baud table, the same on both boards but for the order of its switches.
use Rattle.std.specs.Prelude.{Bool, cond, not, List, [], ◌∷◌, ℕ, suc, ◌+◌, ◌*◌, ◌/◌, ◌%◌, eqb, get_or}
use Rattle.bits.specs.Bits.{bit}

-- "on on on 150, on on off 300, on off on 600, on off off 1200,
-- off on on 2400, off on off 4800, off off on 9600, off off off 19200"
abbrev pub rates : List ℕ
rates = 150 ∷ 300 ∷ 600 ∷ 1200 ∷ 2400 ∷ 4800 ∷ 9600 ∷ 19200 ∷ []

-- the row of three switches, in the table's order: the first row is on on on, the last is off off off
abbrev pub row_at : Bool → Bool → Bool → ℕ
row_at first second third = 4 * bit (not first) + 2 * bit (not second) + bit (not third)

abbrev pub rate_at : Bool → Bool → Bool → ℕ
rate_at first second third = get_or rates (row_at first second third) 0

-- and the three switches of a row
abbrev pub first_at : ℕ → Bool
first_at row = eqb (row / 4 % 2) 0

abbrev pub second_at : ℕ → Bool
second_at row = eqb (row / 2 % 2) 0

abbrev pub third_at : ℕ → Bool
third_at row = eqb (row % 2) 0

-- the first row of a table that has a rate; where none has it, the number of rows
abbrev pub row_in : List ℕ → ℕ → ℕ
row_in [] baud = 0
row_in (rate ∷ more) baud = cond (eqb rate baud) 0 (suc (row_in more baud))

-- the row of a rate, and 8 for a rate that the table does not have
unfoldable pub rate_row : ℕ → ℕ
rate_row baud = row_in rates baud
