-- Laws of the day of the year: from where it counts and how far. Assumes nothing.
use mathlib.Core.Path.{◌≡◌, refl, ap, ap₂, sym, ◌∙◌}
use mathlib.Core.Bool.{Bool, true, false, cond}
use mathlib.Core.List.{List}
use Prim.Native.Nat.{ℕ, zero, suc, ◌+◌, ◌-◌, ◌*◌, ◌≤◌}
use native.Mathlib.Nat.{add-zero, add-suc}
use native.Mathlib.Omega.{arith}
use lib.ListN.{get_or}
use Rattle.refusals.specs.Refusals.{done}
use Rattle.refusals.proofs.Laws.{was_done, does}
use Rattle.calendar_rules.specs.declared.date.Date.{Date}
use Rattle.calendar_rules.specs.Literals.{date}
use Rattle.calendar_rules.specs.Calendar.{is_leap, month_length, date_refusal, year_at, month_at, month_start, day_of, day_number, date_at}
use Rattle.calendar_rules.specs.TableRows.{IsRow}
use Rattle.calendar_rules.specs.DayOfYear.{days_of_months, year_day, day_of_year}
use Rattle.calendar_rules.specs.YearDays.{year_length, TheDayOfTheYearCountsFromTheFirstOfJanuary, TheDayOfTheYearLiesInTheYear, TheYearGoesFromJanuaryToDecember, TheDayOfTheYearSaysTheDate}
use Rattle.calendar_rules.proofs.Months.{start_next}
use Rattle.calendar_rules.proofs.TableRows.{row_entry}
use Rattle.calendar_rules.proofs.Dates.{Good, good, not_refused, date_at_day}

-- the place of a year's January in the table
abbrev pub january : ℕ → ℕ
january year = 12 * (year - 1980)

-- each month of a year begins so many days behind its January as the months before it have
pub start_in_year : (year months : ℕ) → 1980 ≤ year → months ≤ 12
    → month_start (january year + months) ≡ month_start (january year) + days_of_months year months
unfolding days_of_months
start_in_year year zero from to = rw add-zero (omega arith)
start_in_year year (suc months) from to =
    let here : year_at (january year + months) ≡ year = omega arith in
    let month : month_at (january year + months) ≡ suc months = omega arith in
    rw add-suc
    (omega (arith, start_next (january year + months), ap₂ month_length here month, start_in_year year months from (omega arith)))

-- the days of more months are no fewer, and those of all months are the year's
days_up : (year m n : ℕ) → days_of_months year m ≤ days_of_months year (m + n)
unfolding days_of_months
days_up year m zero = rw add-zero (omega arith)
days_up year m (suc n) = rw add-suc (omega (arith, days_up year m n))

all_months : (year : ℕ) → days_of_months year 12 ≡ year_length year
unfolding days_of_months month_length
all_months year = go (is_leap year)
  where
    go : (leap : Bool) → 31 + cond leap 29 28 + 31 + 30 + 31 + 30 + 31 + 31 + 30 + 31 + 30 + 31 ≡ cond leap 366 365
    go true = refl
    go false = refl

-- the days up to a month's end
month_end : (year month : ℕ) → 1 ≤ month → month ≤ 12
    → days_of_months year (month - 1) + month_length year month ≤ year_length year
unfolding days_of_months
month_end year zero from to = absurd (omega arith)
month_end year (suc month) from to =
    let rest : suc month + (12 - suc month) ≡ 12 = omega arith in
    let days : days_of_months year (suc month) ≤ days_of_months year 12 = rw rest at (days_up year (suc month) (12 - suc month)) in
    let before : suc month - 1 ≡ month = omega arith in
    rw before (omega (arith, days, all_months year))

pub year_of_366 : (year : ℕ) → year_length year ≤ 366
year_of_366 year = go (is_leap year)
  where
    go : (leap : Bool) → cond leap 366 365 ≤ 366
    go true = omega arith
    go false = omega arith

module _ (on : Date) (g : Good on) where
  -- the day of the year, counted from the day number of 1 January
  pub from_january : month_start (january on.year) + year_day on ≡ day_of on + 1
  unfolding day_of year_day
  from_january = omega (arith, g, start_in_year on.year (on.month - 1) g.from_year (omega (arith, g)))

  pub year_day_within : (1 ≤ year_day on) × (year_day on ≤ year_length on.year)
  unfolding year_day
  year_day_within =
      let end = month_end on.year on.month g.from_month g.to_month in
      (omega (arith, g.from_day), omega (arith, g.to_day, end))

  pub year_day_bounds : (1 ≤ year_day on) × (year_day on ≤ 366)
  year_day_bounds = (year_day_within.0, omega (arith, year_day_within.1, year_of_366 on.year))

  pub has_number : day_number on ≡ done (day_of on)
  unfolding day_number
  has_number = does (day_of on) (not_refused on g)

  pub has_year_day : day_of_year on ≡ done (year_day on)
  unfolding day_of_year
  has_year_day = does (year_day on) (not_refused on g)

-- a date with a day number, or with a day of the year, is good
pub numbered : (on : Date) (day : ℕ) → day_number on ≡ done day → Good on × (day_of on ≡ day)
unfolding day_number
numbered on day e = let told = was_done (date_refusal on) (day_of on) day e in (good on told.0, told.1)

pub counted : (on : Date) (n : ℕ) → day_of_year on ≡ done n → Good on × (year_day on ≡ n)
unfolding day_of_year
counted on n e = let told = was_done (date_refusal on) (year_day on) n e in (good on told.0, told.1)

-- the first day of the year taken from a day number leaves the day of the year
pub from_first : (on : Date) (day first : ℕ) → day_number on ≡ done day → first ≡ month_start (january on.year)
    → (first ≤ day) × (day - first + 1 ≡ year_day on)
from_first on day first e f =
    let h = numbered on day e in
    omega (arith, f, h.1, from_january on h.0, (year_day_bounds on h.0).0)

-- and so does the first entry of the year's row
pub from_row : (on : Date) (day : ℕ) (row : List ℕ) → day_number on ≡ done day → IsRow on.year row
    → (get_or row 0 0 ≤ day) × (day - get_or row 0 0 + 1 ≡ year_day on)
from_row on day row e h =
    let g = (numbered on day e).0 in
    let first = row_entry on.year row h g.from_year g.to_year 0 (omega arith) in
    from_first on day (get_or row 0 0) e (first ∙ ap month_start (add-zero (january on.year)))

-- 1 January and 31 December
january_number : (year : ℕ) → day_of (date year 1 1) ≡ month_start (january year)
unfolding day_of
january_number year = rw (add-zero (january year), add-zero (month_start (january year)))

january_day : (year : ℕ) → year_day (date year 1 1) ≡ 1
unfolding year_day days_of_months
january_day year = refl

december_day : (year : ℕ) → year_day (date year 12 31) ≡ year_length year
unfolding year_day days_of_months month_length
december_day year = all_months year

module _ (year : ℕ) (from : 1980 ≤ year) (to : year ≤ 2079) where
  good_in : (month day : ℕ) → 1 ≤ month → month ≤ 12 → 1 ≤ day → day ≤ month_length year month → Good (date year month day)
  good_in month day fm tm fd td =
      record { from_year = from; to_year = to; from_month = fm; to_month = tm; from_day = fd; to_day = td }

  january_good : Good (date year 1 1)
  unfolding month_length
  january_good = good_in 1 1 (omega arith) (omega arith) (omega arith) (omega arith)

  december_good : Good (date year 12 31)
  unfolding month_length
  december_good = good_in 12 31 (omega arith) (omega arith) (omega arith) (omega arith)

pub counts_from_january : TheDayOfTheYearCountsFromTheFirstOfJanuary
counts_from_january on day e =
    let g = (numbered on day e).0 in
    let here = has_number (date on.year 1 1) (january_good on.year g.from_year g.to_year) in
    let h = from_first on day (day_of (date on.year 1 1)) e (january_number on.year) in
    (day_of (date on.year 1 1), here, h.0, has_year_day on g ∙ ap done (sym h.1))

pub lies_in_the_year : TheDayOfTheYearLiesInTheYear
lies_in_the_year on n e = let h = counted on n e in rw h.1 at (year_day_within on h.0)

pub january_to_december : TheYearGoesFromJanuaryToDecember
january_to_december year from to =
    (has_year_day _ (january_good year from to) ∙ ap done (january_day year), has_year_day _ (december_good year from to) ∙ ap done (december_day year))

pub says_the_date : TheDayOfTheYearSaysTheDate
says_the_date a b n year e f =
    let h = counted a n e in
    let k = counted b n f in
    let first = ap (λ y. month_start (january y)) year in
    let same : day_of a ≡ day_of b = omega (arith, h.1, k.1, first, from_january a h.0, from_january b k.0) in
    sym (date_at_day a h.0) ∙ ap date_at same ∙ date_at_day b k.0
