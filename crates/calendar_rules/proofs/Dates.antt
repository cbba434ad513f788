-- Laws of good dates: their day numbers, and the day after. Assumes nothing.
use mathlib.Core.Path.{◌≡◌, refl, ap, ap₂, ◌∙◌}
use mathlib.Core.Bool.{Bool, true, false, cond, not, ◌&&◌, and-false}
use mathlib.Core.List.{List}
use Prim.Native.Nat.{ℕ, suc, ◌+◌, ◌-◌, ◌*◌, ◌≤◌, ◌<◌}
use native.Mathlib.Omega.{arith}
use lib.Dec.{ltb, eqb}
use lib.ListN.{get_or}
use borrow.Author.Tests.{leb-true, le-leb, ltb-true, ltb-false, eq-eqb, ne_eqb, eqb-true, not-false}
use Rattle.refusals.specs.Refusals.{◌when◌}
use Rattle.refusals.proofs.Laws.{both, when_none, else_none}
use Rattle.calendar_rules.specs.Ranges.{inside}
use Rattle.calendar_rules.specs.Calendar.{month_length, month_in_range, date_in_range, day_exists, date_refusal, month_index, year_at, month_at, month_start, day_of, date_at, day_after, is_last_day}
use Rattle.calendar_rules.specs.TableRows.{IsRow}
use Rattle.calendar_rules.specs.declared.date.Date.{Date}
use Rattle.calendar_rules.proofs.Months.{month_28_to_31, start_next, start_order, start_end, holding, Held, held_is_holding}
use Rattle.calendar_rules.proofs.TableRows.{row_entry}

pub inside_both : (low x high : ℕ) → inside low x high ≡ true → (low ≤ x) × (x ≤ high)
inside_both low x high e = let h = both _ _ e in (leb-true _ _ h.0, leb-true _ _ h.1)

pub inside_holds : (low x high : ℕ) → low ≤ x → x ≤ high → inside low x high ≡ true
inside_holds low x high l h = simp (le-leb _ _ l, le-leb _ _ h)

-- a date that the calendar has
pub record Good (date : Date) : Type 0 where
  pub from_year : 1980 ≤ date.year
  pub to_year : date.year ≤ 2079
  pub from_month : 1 ≤ date.month
  pub to_month : date.month ≤ 12
  pub from_day : 1 ≤ date.day
  pub to_day : date.day ≤ month_length date.year date.month

pub good : (date : Date) → date_refusal date ≡ 0 → Good date
unfolding date_refusal date_in_range month_in_range day_exists
good date e =
    let parts = else_none (6 when not (date_in_range date)) (7 when not (day_exists date)) e in
    let range = both _ _ (not-false _ (when_none 5 _ parts.0)) in
    let month = both _ _ range.0 in
    record {
      from_year = (inside_both _ _ _ month.0).0;
      to_year = (inside_both _ _ _ month.0).1;
      from_month = (inside_both _ _ _ month.1).0;
      to_month = (inside_both _ _ _ month.1).1;
      from_day = (inside_both _ _ _ range.1).0;
      to_day = leb-true _ _ (not-false _ (when_none 6 _ parts.1));
    }

pub not_refused : (date : Date) → Good date → date_refusal date ≡ 0
unfolding date_refusal date_in_range month_in_range day_exists
not_refused date g =
    let short = (month_28_to_31 date.year date.month).1 in
    simp (
      le-leb 1980 _ g.from_year,
      le-leb _ 2079 g.to_year,
      le-leb 1 _ g.from_month,
      le-leb _ 12 g.to_month,
      le-leb 1 _ g.from_day,
      le-leb date.day 31 (omega (arith, g.to_day)),
      le-leb _ _ g.to_day,
    )

-- A good date's month stands in the table, and its day lies in that month.
module _ (date : Date) (g : Good date) where
  pub index_year : year_at (month_index date) ≡ date.year
  index_year = omega (arith, g)

  pub index_month : month_at (month_index date) ≡ date.month
  index_month = omega (arith, g)

  pub index_within : month_index date < 1200
  index_within = omega (arith, g)

  -- the entry for its month in its year's row
  pub entry_of : (row : List ℕ) → IsRow date.year row → get_or row (date.month - 1) 0 ≡ month_start (month_index date)
  entry_of row h = row_entry date.year row h g.from_year g.to_year (date.month - 1) (omega (arith, g))

  -- the next month begins where this one ends
  next_start : month_start (suc (month_index date)) ≡ month_start (month_index date) + month_length date.year date.month
  next_start = start_next _ ∙ ap₂ (λ y m. month_start (month_index date) + month_length y m) index_year index_month

  day_from : month_start (month_index date) ≤ day_of date
  unfolding day_of
  day_from = omega arith

  day_to : day_of date < month_start (suc (month_index date))
  unfolding day_of
  day_to = omega (arith, g, next_start)

  pub day_within : day_of date < 36525
  day_within = omega (arith, day_to, start_order (suc (month_index date)) 1200 index_within, start_end)

  day_in_month : day_of date - month_start (month_index date) + 1 ≡ date.day
  unfolding day_of
  day_in_month = omega (arith, g)

  -- the date of a good date's day number is that date
  pub date_at_day : date_at (day_of date) ≡ date
  unfolding date_at
  date_at_day =
      let here = holding (day_of date) (month_index date) day_from day_to index_within in
      rw here (λ j. record { year = index_year j; month = index_month j; day = day_in_month j })

-- The date of a day is good, and has that day's number.
module _ (day : ℕ) (h : Held day) where
  date_at_law : date_at day ≡ record { year = year_at h.index; month = month_at h.index; day = day - month_start h.index + 1 }
  unfolding date_at
  date_at_law = rw (held_is_holding day h)

  pub good_at : Good (date_at day)
  good_at =
      rw date_at_law
      (record {
        from_year = omega arith;
        to_year = omega (arith, h.within);
        from_month = omega arith;
        to_month = omega arith;
        from_day = omega arith;
        to_day = omega (arith, h.from, h.to, start_next h.index);
      })

  pub day_of_date_at : day_of (date_at day) ≡ day
  unfolding day_of
  day_of_date_at =
      let same : 12 * (year_at h.index - 1980) + (month_at h.index - 1) ≡ h.index = omega arith in
      rw (date_at_law, same) (omega (arith, h.from))

-- The last day of the calendar, told by the tests that the day after goes by.
december : (year : ℕ) → month_length year 12 ≡ 31
unfolding month_length
december year = refl

module _ (date : Date) where
  pub not_last_year : date.year < 2079 → is_last_day date ≡ false
  unfolding is_last_day
  not_last_year h = simp (ne_eqb date.year 2079 (omega arith))

  pub not_last_month : date.month < 12 → is_last_day date ≡ false
  unfolding is_last_day
  not_last_month h = simp (ne_eqb date.month 12 (omega arith), and-false)

  pub not_last_day : date.day < month_length date.year date.month → is_last_day date ≡ false
  unfolding is_last_day
  not_last_day h = go (eqb date.month 12) refl
    where
      go : (t : Bool) → eqb date.month 12 ≡ t → (eqb date.year 2079 && t && eqb date.day 31) ≡ false
      go true e =
          let length = ap (month_length date.year) (eqb-true date.month 12 e) in
          simp (ne_eqb date.day 31 (omega (arith, length, december date.year)), and-false)
      go false e = simp and-false

  pub last_day : Good date → 2079 ≤ date.year → 12 ≤ date.month → month_length date.year date.month ≤ date.day → is_last_day date ≡ true
  unfolding is_last_day
  last_day g y m d =
      let month : date.month ≡ 12 = omega (arith, g) in
      let length = ap (month_length date.year) month in
      simp
      (eq-eqb date.year 2079 (omega (arith, g)), eq-eqb date.month 12 month, eq-eqb date.day 31 (omega (arith, g, length, december date.year)))

-- The day after a good date is good, and has the next number.
pub record Follows (date next : Date) : Type 0 where
  pub good : Good next
  pub number : day_of next ≡ day_of date + 1

module _ (date : Date) (g : Good date) where
  same_month : date.day < month_length date.year date.month
      → Follows date (record { year = date.year; month = date.month; day = date.day + 1 })
  unfolding day_of
  same_month h =
      record {
        good = record {
          from_year = g.from_year;
          to_year = g.to_year;
          from_month = g.from_month;
          to_month = g.to_month;
          from_day = omega arith;
          to_day = omega arith;
        };
        number = omega (arith, g);
      }

  -- the first day of a month at the next index follows the last day of this one
  first_of : (next : Date) → Good next → next.day ≡ 1 → month_index next ≡ suc (month_index date)
      → month_length date.year date.month ≤ date.day → Follows date next
  unfolding day_of
  first_of next n first e full =
      record { good = n; number = rw e (omega (arith, g, first, next_start date g)) }

  first_is_good : (year month : ℕ) → 1980 ≤ year → year ≤ 2079 → 1 ≤ month → month ≤ 12
      → Good (record { year = year; month = month; day = 1 })
  first_is_good year month fy ty fm tm =
      record {
        from_year = fy;
        to_year = ty;
        from_month = fm;
        to_month = tm;
        from_day = omega arith;
        to_day = omega (arith, (month_28_to_31 year month).0);
      }

  pub day_after_law : is_last_day date ≡ false → Follows date (day_after date)
  unfolding day_after
  day_after_law not_last = go (ltb date.day (month_length date.year date.month)) refl
    where
      year_of_law : (t : Bool) → ltb date.year 2079 ≡ t → 12 ≤ date.month
          → month_length date.year date.month ≤ date.day → date.year < 2079
      year_of_law true e m d = ltb-true _ _ e
      year_of_law false e m d =
          let last = last_day date g (ltb-false _ _ e) m d in
          let z : ◌≡◌ {A = ℕ} 0 1 = cc in absurd (omega arith)

      month_of : (t : Bool) → ltb date.month 12 ≡ t → month_length date.year date.month ≤ date.day
          → Follows date (cond t (record { year = date.year; month = date.month + 1; day = 1 }) (record { year = date.year + 1; month = 1; day = 1 }))
      month_of true e full =
          first_of _ (first_is_good _ _ g.from_year g.to_year (omega arith) (omega (arith, ltb-true date.month 12 e))) refl (omega (arith, g)) full
      month_of false e full =
          let year = year_of_law (ltb date.year 2079) refl (ltb-false _ _ e) full in
          first_of _ (first_is_good _ _ (omega (arith, g)) (omega arith) (omega arith) (omega arith)) refl (omega (arith, g, ltb-false date.month 12 e)) full

      go : (t : Bool) → ltb date.day (month_length date.year date.month) ≡ t
          → Follows date
          (cond t (record { year = date.year; month = date.month; day = date.day + 1 })
          (cond (ltb date.month 12) (record { year = date.year; month = date.month + 1; day = 1 }) (record { year = date.year + 1; month = 1; day = 1 })))
      go true e = same_month (ltb-true _ _ e)
      go false e = month_of (ltb date.month 12) refl (ltb-false _ _ e)
