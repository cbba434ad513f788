-- Laws of the table's rows: all of them, one behind another, are the list that the Gregorian rule makes, and so each entry of a row
-- is its month's first day. Assumes nothing.
use mathlib.Core.Path.{◌≡◌, refl, ap, ap₂, sym, ◌∙◌}
use mathlib.Core.Bool.{Bool, true, false}
use mathlib.Core.List.{List, [], ◌++◌}
use Prim.Native.Nat.{ℕ, zero, suc, ◌+◌, ◌-◌, ◌*◌, ◌/◌, ◌≤◌, ◌<◌}
use native.Mathlib.Nat.{add-zero, add-suc, suc-add, not-suc-le-zero}
use native.Mathlib.Omega.{arith}
use lib.Dec.{ltb}
use lib.ListN.{get_or, get_or-append}
use lib.Seq.{get_or-append-add}
use borrow.Author.Tests.{ltb-true, ltb-false}
use Rattle.calendar_rules.specs.Calendar.{is_leap, month_length, month_start, starts_from, month_starts, month_holding}
use Rattle.calendar_rules.specs.TableRows.{january_first, march_first, row_from, IsRow, none_of}
use Rattle.calendar_rules.proofs.Months.{table_entry, start_end, start_before, holding}

abbrev row_of : ℕ → List ℕ
row_of year = row_from (january_first year) (march_first year)

-- a year's row is told by its January and its March
is_row_of : (year : ℕ) (row : List ℕ) → IsRow year row → row ≡ row_of year
is_row_of year row h = h.others ∙ ap₂ row_from h.january h.march

-- the rows of so many years, one behind another
rows : ℕ → ℕ → List ℕ
rows zero year = []
rows (suc n) year = row_of year ++ rows n (suc year)

-- the whole table, compared with the rule
all_rows : rows 100 1980 ≡ month_starts
unfolding rows is_leap month_length starts_from month_starts
all_rows = refl

entry_in_rows : (n from j k : ℕ) → j < n → k < 12 → get_or (rows n from) (12 * j + k) 0 ≡ get_or (row_of (from + j)) k 0
unfolding rows
entry_in_rows zero from j k below within = absurd (not-suc-le-zero below)
entry_in_rows (suc n) from zero k below within =
    let here : 12 * 0 + k ≡ k = omega arith in
    ap (λ i. get_or (rows (suc n) from) i 0) here
    ∙ get_or-append (row_of from) (rows n (suc from)) 0 k within
    ∙ ap (λ y. get_or (row_of y) k 0) (sym (add-zero from))
entry_in_rows (suc n) from (suc j) k below within =
    let later : 12 * suc j + k ≡ 12 + (12 * j + k) = omega arith in
    ap (λ i. get_or (rows (suc n) from) i 0) later
    ∙ get_or-append-add (row_of from) (rows n (suc from)) (12 * j + k) 0
    ∙ entry_in_rows n (suc from) j k (omega arith) within
    ∙ ap (λ y. get_or (row_of y) k 0) (suc-add from j ∙ sym (add-suc from j))

-- each entry of a year's row is its month's first day
entry : (years k : ℕ) → years < 100 → k < 12 → get_or (row_of (1980 + years)) k 0 ≡ month_start (12 * years + k)
entry years k below within =
    sym (entry_in_rows 100 1980 years k below within) ∙ table_entry (rows 100 1980) all_rows (12 * years + k) (omega arith)

pub row_entry : (year : ℕ) (row : List ℕ) → IsRow year row → 1980 ≤ year → year ≤ 2079 → (k : ℕ) → k < 12
    → get_or row k 0 ≡ month_start (12 * (year - 1980) + k)
row_entry year row h from to k within =
    let same : year ≡ 1980 + (year - 1980) = omega arith in
    ap (λ r. get_or r k 0) (is_row_of year row h) ∙ ap (λ y. get_or (row_of y) k 0) same ∙ entry (year - 1980) k (omega arith) within

-- the first day of a year that comes so many years behind 1980, and the day behind the last year
year_start : (years : ℕ) → years ≤ 100 → month_start (12 * years) ≡ 365 * years + (years + 3) / 4
year_start years to = go (ltb years 100) refl
  where
    go : (t : Bool) → ltb years 100 ≡ t → month_start (12 * years) ≡ 365 * years + (years + 3) / 4
    go true e = omega (arith, entry years 0 (ltb-true years 100 e) (omega arith), ap month_start (add-zero (12 * years)))
    go false e =
        let last : 12 * years ≡ 1200 = omega (arith, ltb-false years 100 e) in
        omega (arith, ap month_start last, start_end)

-- The year that holds a day: each four years have 1,461 days, and the first is the leap year.
abbrev pub years_to : ℕ → ℕ
years_to day = 4 * day / 1461

module _ (day : ℕ) (within : day < 36525) where
  year_from : month_start (12 * years_to day) ≤ day
  year_from = omega (arith, year_start (years_to day) (omega arith))

  pub year_to : day < month_start (suc (12 * years_to day + 11))
  year_to =
      let next : suc (12 * years_to day + 11) ≡ 12 * suc (years_to day) = omega arith in
      omega (arith, ap month_start next, year_start (suc (years_to day)) (omega arith))

  -- a month of that year, found by its entry in the year's row
  module _ (row : List ℕ) (h : IsRow (1980 + years_to day) row) (k : ℕ) (below : k < 12) where
    here : get_or row k 0 ≡ month_start (12 * years_to day + k)
    here = ap (λ r. get_or r k 0) (is_row_of _ row h) ∙ entry (years_to day) k (omega arith) below

    -- where the day lies before the month, it is not January, and the day lies before the end of the one before
    pub not_january : day < get_or row k 0 → 1 ≤ k
    not_january before =
        omega (arith, start_before day (12 * years_to day) (12 * years_to day + k) year_from (rw here at before))

    pub month_before : day < get_or row k 0 → day < month_start (suc (12 * years_to day + (k - 1)))
    month_before before =
        let one = not_january before in
        let same : suc (12 * years_to day + (k - 1)) ≡ 12 * years_to day + k = omega arith in
        rw (same, ← here) before

    -- else, where the next month begins behind the day, it holds the day
    pub month_found : get_or row k 0 ≤ day → day < month_start (suc (12 * years_to day + k))
        → (12 * years_to day + k ≡ month_holding day) × (get_or row k 0 ≡ month_start (month_holding day))
    month_found from to =
        let held = holding day (12 * years_to day + k) (rw here at from) to (omega arith) in
        (sym held, here ∙ ap month_start (sym held))

-- a year of the calendar is none behind all rows
behind : (n year : ℕ) → none_of n year → 1980 ≤ year → 1980 + n ≤ year
behind zero year none from = from
behind (suc n) year none from = let before = behind n year none.0 from in omega (arith, none.1)

pub no_year_behind : (year : ℕ) → none_of 100 year → 1980 ≤ year → year ≤ 2079 → ⊥
no_year_behind year none from to = omega (arith, behind 100 year none from)
