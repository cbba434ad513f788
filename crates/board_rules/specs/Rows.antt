-- The rows of a manual's switch tables, and what it is that a board reads and writes as they are printed.
use Rattle.std.specs.Prelude.{◌≡◌, List, [], ◌∷◌, map, ℕ, ◌+◌, ◌-◌, get_or}
use Rattle.refusals.specs.Refusals.{Outcome, done}

-- the value of a switch that is on, counted from switch 1
abbrev pub on : ℕ → ℕ
on switch = get_or (0x01 ∷ 0x02 ∷ 0x04 ∷ 0x08 ∷ 0x10 ∷ 0x20 ∷ 0x40 ∷ 0x80 ∷ []) (switch - 1) 0

-- the rows of a table: on the left the switches that a row shows as on, and on the right what they mean
abbrev pub Rows : Type 0 → Type 0
Rows A = List (ℕ × A)

-- each row is read as printed, where all other switches are off, and where all others are on
abbrev pub Read : {A : Type 0} → (ℕ → A) → ℕ → Rows A → Type 0
Read meaning others rows =
    (map (λ row. meaning row.0) rows ≡ map (λ row. row.1) rows)
    × (map (λ row. meaning (row.0 + others)) rows ≡ map (λ row. row.1) rows)

-- each row is written as printed
abbrev pub Written : {A : Type 0} → (A → Outcome ℕ) → Rows A → Type 0
Written byte rows = map (λ row. byte row.1) rows ≡ map (λ row. done row.0) rows
