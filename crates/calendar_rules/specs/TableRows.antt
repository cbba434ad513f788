-- The table of month starts as the code holds it, a year a row: what a row's twelve numbers are, in closed form. From 1980 to 2079
-- every fourth year is a leap year, 2000 too, so the leap days are a quarter of the years, rounded up.
use Rattle.std.specs.Prelude.{◌≡◌, List, [], ◌∷◌, ℕ, zero, suc, ◌+◌, ◌-◌, ◌*◌, ◌/◌, get_or}

-- the day numbers of a year's 1 January and 1 March
abbrev pub january_first : ℕ → ℕ
january_first year = 365 * (year - 1980) + (year - 1977) / 4

abbrev pub march_first : ℕ → ℕ
march_first year = 365 * (year - 1980) + (year - 1976) / 4 + 59

-- the first days of a year's months, from those of its January and its March
abbrev pub row_from : ℕ → ℕ → List ℕ
row_from january march =
    january ∷ (january + 31) ∷ march ∷ (march + 31) ∷ (march + 61) ∷ (march + 92)
    ∷ (march + 122) ∷ (march + 153) ∷ (march + 184) ∷ (march + 214) ∷ (march + 245) ∷ (march + 275) ∷ []

-- a year's row, in parts that the check finds by itself at each row of the code
pub record IsRow (year : ℕ) (row : List ℕ) : Type 0 where
  pub january : get_or row 0 0 ≡ january_first year
  pub march : get_or row 2 0 ≡ march_first year
  pub others : row ≡ row_from (get_or row 0 0) (get_or row 2 0)

-- a year behind so many rows is none of theirs
abbrev pub none_of : ℕ → ℕ → Type 0
none_of zero year = Unit {0}
none_of (suc rows) year = none_of rows year × (year ≡ 1980 + rows → ⊥)
