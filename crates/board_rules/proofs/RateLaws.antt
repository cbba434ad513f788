-- Laws of the baud table. Assumes nothing.
use mathlib.Core.Path.{◌≡◌, refl, ap, sym, ◌∙◌}
use mathlib.Core.Bool.{Bool, true, false, cond}
use mathlib.Core.List.{List, [], ◌∷◌}
use Prim.Native.Nat.{ℕ, suc, ◌+◌, ◌≤◌, ◌<◌}
use native.Mathlib.Omega.{arith}
use lib.Dec.{eqb, ltb}
use lib.ListN.{length, get_or}
use borrow.Author.Tests.{eqb-true, ltb-false}
use Rattle.std.specs.Prelude.{None, Some, position}
use Rattle.std.specs.List.{position_or_len}
use Rattle.std.specs.Option.{unwrap_or}
use Rattle.std.proofs.lemmas.List.Recursion.{is_position_or_len}
use Rattle.refusals.proofs.Tables.{below}
use Rattle.board_rules.specs.Rates.{rates, row_in, rate_row, row_at, rate_at, first_at, second_at, third_at}

row_bound : (table : List ℕ) (baud : ℕ) → row_in table baud ≤ length table
row_bound [] baud = omega arith
row_bound (rate ∷ more) baud = go (eqb rate baud) (row_bound more baud)
  where
    go : (t : Bool) → row_in more baud ≤ length more → cond t 0 (suc (row_in more baud)) ≤ suc (length more)
    go true h = omega arith
    go false h = omega arith

-- the row of a rate is where it is found first
pub row_found : (table : List ℕ) (baud : ℕ) → unwrap_or (position (λ rate. eqb rate baud) table) (length table) ≡ row_in table baud
row_found table baud =
    let passes : ℕ → Bool = λ rate. eqb rate baud in
    let first : row_in table baud ≡ position_or_len passes table =
    is_position_or_len (λ rates. row_in rates baud) passes refl
    (λ rate more. let one : suc (row_in more baud) ≡ 1 + row_in more baud = omega arith in ap (λ row. cond (eqb rate baud) 0 row) one)
    table in
    go (position_or_len passes table) (sym first) (ltb (position_or_len passes table) (length table)) refl
  where
    go : (row : ℕ) → row ≡ row_in table baud → (t : Bool) → ltb row (length table) ≡ t → unwrap_or (cond t (Some row) None) (length table) ≡ row_in table baud
    go row is true e = is
    go row is false e = let behind = ltb-false _ _ e in omega (arith, row_bound table baud)

-- a rate that stands in the table stands in its row
stands : (table : List ℕ) (baud : ℕ) → row_in table baud < length table → get_or table (row_in table baud) 0 ≡ baud
stands [] baud inside = absurd (omega arith)
stands (rate ∷ more) baud inside = go (eqb rate baud) refl inside (stands more baud)
  where
    go : (t : Bool) → eqb rate baud ≡ t → cond t 0 (suc (row_in more baud)) < suc (length more)
        → (row_in more baud < length more → get_or more (row_in more baud) 0 ≡ baud)
        → get_or (rate ∷ more) (cond t 0 (suc (row_in more baud))) 0 ≡ baud
    go true e h below = eqb-true rate baud e
    go false e h below = below (omega arith)

-- a row and its three switches
switches_back : (row : ℕ) → row < 8 → row_at (first_at row) (second_at row) (third_at row) ≡ row
switches_back row h = eqb-true _ row (below 8 (λ n. eqb (row_at (first_at n) (second_at n) (third_at n)) n) refl row h)

pub rate_back : (baud : ℕ) → rate_row baud < 8 → rate_at (first_at (rate_row baud)) (second_at (rate_row baud)) (third_at (rate_row baud)) ≡ baud
unfolding rate_row
rate_back baud h = ap (λ row. get_or rates row 0) (switches_back (rate_row baud) h) ∙ stands rates baud h
