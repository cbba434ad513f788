-- Laws of second 60: what an accepted one is, and that the fields of a record tell it. Assumes nothing.
use mathlib.Core.Path.{◌≡◌, refl, ap, sym, ◌∙◌}
use mathlib.Core.Bool.{Bool, true, false, cond, not, ◌&&◌, ◌||◌, and-false}
use Prim.Native.Nat.{ℕ, zero, suc, ◌+◌, ◌-◌, ◌*◌, ◌/◌, ◌%◌, ◌<◌, ◌≤◌}
use native.Mathlib.Omega.{arith}
use lib.Dec.{leb, ltb, eqb}
use borrow.Author.Tests.{ltb-true, ltb-false, lt-leb, le-leb, leb-true, eqb-true, eqb-false, eq-eqb, ne_eqb, not-false}
use Rattle.refusals.specs.Refusals.{◌when◌, done, refused, unless}
use Rattle.refusals.proofs.Laws.{both, was_done, when_none, does}
use Rattle.calendar_rules.specs.Ranges.{inside}
use Rattle.calendar_rules.specs.Calendar.{is_leap, month_length, month_in_range, date_refusal, days_in_month, month_start, day_of, day_number, seek, month_holding, date_at, day_after, is_last_day}
use Rattle.calendar_rules.specs.TimeOfDay.{time_in_range, seconds_of, second_of_day, is_last_second}
use Rattle.calendar_rules.specs.Literals.{date, time}
use Rattle.calendar_rules.specs.declared.date.Date.{Date}
use Rattle.calendar_rules.specs.declared.time.Time.{Time}
use Rattle.calendar_rules.proofs.Months.{month_28_to_31, held}
use Rattle.calendar_rules.proofs.Dates.{inside_both, inside_holds, Good, good, not_refused, day_within, date_at_day, good_at, day_of_date_at, day_after_law}
use Rattle.calendar_rules.proofs.Times.{good_range, in_range, range_not_refused}
use Rattle.record_rules.specs.declared.Status.{Status}
use Rattle.record_rules.specs.Season.{calendar_seconds, season_shift, to_utc}
use Rattle.record_rules.specs.Moment.{as_marked, in_utc, moment_of, utc_moment}
use Rattle.record_rules.specs.Sixty.{is_sixty, at59, sixty_behind59, is_months_last_day, is_months_last_second, ends_utc_month, takes_sixty}
use Rattle.record_rules.specs.SixtyByFields.{ends_in_utc, ends_in_local, sixty_by_fields, TheFieldsSayTheSame}

-- two tests, each of which passes where the other does
pub same : (a b : Bool) → (a ≡ true → b ≡ true) → (b ≡ true → a ≡ true) → a ≡ b
same true b there back = sym (there refl)
same false true there back = back refl
same false false there back = refl

same_numbers : (a b c d : ℕ) → (a ≡ b → c ≡ d) → (c ≡ d → a ≡ b) → eqb a b ≡ eqb c d
same_numbers a b c d there back =
    same _ _ (λ e. eq-eqb c d (there (eqb-true a b e))) (λ e. eq-eqb a b (back (eqb-true c d e)))

-- a test that cannot pass
pub never : (t : Bool) → (t ≡ true → ⊥) → t ≡ false
never true h = absurd (h refl)
never false h = refl

-- a second 60 behind 59:59 of an hour that the day has
pub behind_means : (time : Time) → sixty_behind59 time ≡ true
    → (time.second ≡ 60) × ((time.minute ≡ 59) × (time.hour ≤ 23))
unfolding sixty_behind59
behind_means time e =
    let sixty = both _ _ e in
    let minute = both _ _ sixty.1 in
    (eqb-true _ _ sixty.0, (eqb-true _ _ minute.0, (good_range (at59 time) minute.1).to_hour))

-- the time with second 59 is a time of the day
pub good_at_59 : (time : Time) → time.minute ≡ 59 → time.hour ≤ 23 → time_in_range (at59 time) ≡ true
good_at_59 time minute hour =
    in_range (at59 time) (record { to_hour = hour; to_minute = omega arith; to_second = omega arith })

-- in minute 59 the hour alone decides
pub hour_decides : (time : Time) → time.minute ≡ 59 → time_in_range (at59 time) ≡ leb time.hour 23
hour_decides time minute =
    same _ _ (λ e. le-leb _ _ (good_range (at59 time) e).to_hour) (λ e. good_at_59 time minute (leb-true _ _ e))

-- what the length of a month tells of it
pub month_told : (year month days : ℕ) → days_in_month year month ≡ done days
    → (month_in_range year month ≡ true) × (days ≡ month_length year month)
month_told year month days e =
    let told = was_done (6 when not (month_in_range year month)) (month_length year month) days e in
    (not-false _ (when_none 5 _ told.0), sym told.1)

pub month_refused : (year month number : ℕ) → days_in_month year month ≡ refused number → month_in_range year month ≡ false
unfolding unless
month_refused year month number e =
    never _ (λ has.
    let told = rw has at e in
    let z : ◌≡◌ {A = ℕ} 0 1 = cc in absurd (omega arith))

-- 1.1.1980 is the calendar's first day, and no other date is
first_day : (date : Date) → Good date → day_of date ≡ 0 → date ≡ record { year = 1980; month = 1; day = 1 }
unfolding date_at month_holding seek month_start month_length
first_day date g e = sym (date_at_day date g) ∙ ap date_at e

new_year_1980 : (date : Date) → date.day ≡ 1 → date.year ≡ 1980 → date.month ≡ 1 → day_of date ≡ 0
unfolding day_of month_start
new_year_1980 date d y m = rw (d, y, m)

-- 23:59:59
pub last_of_day : (at : Time) → is_last_second at ≡ true → at ≡ time 23 59 59
unfolding is_last_second
last_of_day at e =
    let hour = both (eqb at.hour 23) (eqb at.minute 59 && eqb at.second 59) e in
    let minute = both (eqb at.minute 59) (eqb at.second 59) hour.1 in
    let h : at.hour ≡ 23 = eqb-true _ _ hour.0 in
    let m : at.minute ≡ 59 = eqb-true _ _ minute.0 in
    let s : at.second ≡ 59 = eqb-true _ _ minute.1 in
    λ i. record { hour = h i; minute = m i; second = s i }

-- 31.12.2079, and its day number
pub last_date : (on : Date) → is_last_day on ≡ true → on ≡ date 2079 12 31
unfolding is_last_day
last_date on e =
    let day = both (eqb on.year 2079 && eqb on.month 12) (eqb on.day 31) e in
    let month = both (eqb on.year 2079) (eqb on.month 12) day.0 in
    let y : on.year ≡ 2079 = eqb-true _ _ month.0 in
    let m : on.month ≡ 12 = eqb-true _ _ month.1 in
    let d : on.day ≡ 31 = eqb-true _ _ day.1 in
    λ i. record { year = y i; month = m i; day = d i }

pub last_number : (date : Date) → is_last_day date ≡ true → day_of date ≡ 36524
unfolding day_of month_start month_length is_leap
last_number date e = ap day_of (last_date date e)

abbrev is_first : Date → Bool
is_first date = eqb date.day 1

-- behind a month's last day comes a month's first, and behind no other
last_before_first : (date : Date) → Good date → is_months_last_day date ≡ is_first (day_after date)
unfolding day_after
last_before_first date g = go (ltb date.day (month_length date.year date.month)) refl
  where
    first : (t : Bool)
        → is_first (cond t (record { year = date.year; month = date.month + 1; day = 1 }) (record { year = date.year + 1; month = 1; day = 1 })) ≡ true
    first true = refl
    first false = refl

    go : (t : Bool) → ltb date.day (month_length date.year date.month) ≡ t
        → is_months_last_day date
        ≡ is_first
        (cond t (record { year = date.year; month = date.month; day = date.day + 1 })
        (cond (ltb date.month 12) (record { year = date.year; month = date.month + 1; day = 1 }) (record { year = date.year + 1; month = 1; day = 1 })))
    go true e =
        let more = ltb-true date.day _ e in
        ne_eqb date.day (month_length date.year date.month) (omega arith) ∙ sym (ne_eqb (date.day + 1) 1 (omega (arith, g.from_day)))
    go false e =
        let full = ltb-false date.day _ e in
        eq-eqb date.day (month_length date.year date.month) (omega (arith, g.to_day)) ∙ sym (first (ltb date.month 12))

-- The day before a day of the calendar ends a month exactly where the day itself is a month's first.
module _ (date : Date) (g : Good date) (d : ℕ) (e : day_of date ≡ suc d) where
  within : d < 36525
  within = omega (arith, e, day_within date g)

  before_good : Good (date_at d)
  before_good = good_at d (held d within)

  before_number : day_of (date_at d) ≡ d
  before_number = day_of_date_at d (held d within)

  before_not_last : is_last_day (date_at d) ≡ false
  before_not_last =
      never _ (λ last. omega (arith, last_number (date_at d) last, before_number, e, day_within date g))

  day_before : day_after (date_at d) ≡ date
  day_before =
      let next = day_after_law (date_at d) before_good before_not_last in
      let same : day_of (day_after (date_at d)) ≡ day_of date = omega (arith, next.number, before_number, e) in
      sym (date_at_day (day_after (date_at d)) next.good) ∙ ap date_at same ∙ date_at_day date g

  -- a first day that has a day before it is not the calendar's first
  not_new_year : eqb date.day 1 ≡ (eqb date.day 1 && not (eqb date.year 1980 && eqb date.month 1))
  not_new_year = go (eqb date.day 1) (eqb date.year 1980) (eqb date.month 1) refl refl refl
    where
      go : (day year month : Bool) → eqb date.day 1 ≡ day → eqb date.year 1980 ≡ year → eqb date.month 1 ≡ month
          → day ≡ (day && not (year && month))
      go false year month d1 y m = refl
      go true false month d1 y m = refl
      go true true false d1 y m = refl
      go true true true d1 y m =
          absurd (omega (arith, e, new_year_1980 date (eqb-true _ _ d1) (eqb-true _ _ y) (eqb-true _ _ m)))

  month_ends_before : is_months_last_day (date_at d) ≡ (eqb date.day 1 && not (eqb date.year 1980 && eqb date.month 1))
  month_ends_before = last_before_first (date_at d) before_good ∙ ap is_first day_before ∙ not_new_year

-- a UTC day ends in local hour 0 or 1, one less than the hours of the season shift
first_hours : (daylight : Bool) → cond daylight 1 0 ≤ 1
first_hours true = omega arith
first_hours false = omega arith

one_hour_less : (daylight : Bool) → season_shift daylight ≡ 3600 * cond daylight 1 0 + 3600
unfolding season_shift
one_hour_less true = refl
one_hour_less false = refl

-- hours that are whole days apart are the same hour
whole_days : (n m a b : ℕ) → a < 24 → b < 24 → 86400 * n + 3600 * a ≡ 86400 * m + 3600 * b → a ≡ b
whole_days n m a b ha hb e =
    let left : (86400 * n + 3600 * a) / 86400 ≡ n = omega arith in
    let right : (86400 * n + 3600 * a) / 86400 ≡ m = omega arith in
    omega arith

-- The last second of an hour of a date that the calendar has.
module _ (date : Date) (g : Good date) (time : Time) (hour : time.hour ≤ 23) (seconds : ℕ)
    (are : seconds ≡ 86400 * day_of date + 3600 * time.hour + 3599) where
  -- marked UTC, it is its day's last in hour 23
  marked_ends : ends_in_utc date time ≡ is_months_last_second (record { 0 = seconds })
  unfolding ends_in_utc
  marked_ends =
      let day : seconds / 86400 ≡ day_of date = omega arith in
      rw (day, date_at_day date g)
      (ap (λ t. t && is_months_last_day date) (same_numbers time.hour 23 (seconds % 86400) 86399 (λ h. omega arith) (λ h. omega arith)))

  -- local, it is a UTC day's last one hour short of the season shift
  module _ (daylight : Bool) where
    -- only hours of 1.1.1980 lie before the calendar in UTC
    none_before : seconds < season_shift daylight → ends_in_local daylight date time ≡ false
    unfolding ends_in_local
    none_before less =
        let none : day_of date ≡ 0 = omega (arith, one_hour_less daylight, first_hours daylight) in
        rw (first_day date g none) (and-false (eqb time.hour (cond daylight 1 0)))

    local_ends : season_shift daylight ≤ seconds
        → ends_in_local daylight date time ≡ is_months_last_second (record { 0 = seconds - season_shift daylight })
    unfolding ends_in_local
    local_ends more = go (eqb time.hour (cond daylight 1 0)) refl
      where
        utc : ℕ
        utc = seconds - season_shift daylight

        go : (t : Bool) → eqb time.hour (cond daylight 1 0) ≡ t
            → (t && (eqb date.day 1 && not (eqb date.year 1980 && eqb date.month 1)))
            ≡ (eqb (utc % 86400) 86399 && is_months_last_day (date_at (utc / 86400)))
        go true e =
            let at = eqb-true time.hour _ e in
            let last : utc % 86400 ≡ 86399 = omega (arith, one_hour_less daylight, first_hours daylight) in
            let day : day_of date ≡ suc (utc / 86400) = omega (arith, one_hour_less daylight, first_hours daylight) in
            rw (eq-eqb _ _ last) (sym (month_ends_before date g (utc / 86400) day))
        go false e =
            let other = eqb-false time.hour _ e in
            let not_last : utc % 86400 ≡ 86399 → ⊥ =
            λ last. other (whole_days (day_of date) (suc (utc / 86400)) time.hour (cond daylight 1 0) (omega arith) (omega (arith, first_hours daylight)) (omega (arith, one_hour_less daylight))) in
            rw (ne_eqb _ _ not_last)

    shifted_ends : ends_in_local daylight date time ≡ ends_utc_month (to_utc (record { 0 = seconds }) daylight)
    unfolding to_utc unless
    shifted_ends = go (ltb seconds (season_shift daylight)) refl
      where
        go : (t : Bool) → ltb seconds (season_shift daylight) ≡ t
            → ends_in_local daylight date time
            ≡ ends_utc_month (unless (12 when (t || leb calendar_seconds (seconds - season_shift daylight))) (record { 0 = seconds - season_shift daylight }))
        go true e = none_before (ltb-true _ _ e)
        go false e =
            let more = ltb-false seconds _ e in
            rw (lt-leb calendar_seconds (seconds - season_shift daylight) (omega (arith, day_within date g, one_hour_less daylight))) (local_ends more)

-- a day within a month of the calendar makes a good date, and a good date lies in such a month
date_holds : (date : Date) → month_in_range date.year date.month ≡ true → 1 ≤ date.day
    → date.day ≤ month_length date.year date.month → date_refusal date ≡ 0
unfolding month_in_range
date_holds date month from to =
    let range = both (inside 1980 date.year 2079) (inside 1 date.month 12) month in
    let years = inside_both 1980 _ 2079 range.0 in
    let months = inside_both 1 _ 12 range.1 in
    not_refused date
    (record {
      from_year = years.0;
      to_year = years.1;
      from_month = months.0;
      to_month = months.1;
      from_day = from;
      to_day = to;
    })

month_holds : (date : Date) → Good date → month_in_range date.year date.month ≡ true
unfolding month_in_range
month_holds date g =
    rw (inside_holds 1980 date.year 2079 g.from_year g.to_year, inside_holds 1 date.month 12 g.from_month g.to_month)

module _ (status : Status) (date : Date) (time : Time) where
  -- a second 60 that is accepted
  pub record Taken : Type 0 where
    pub is_sixty_law : is_sixty time ≡ true
    pub minute : time.minute ≡ 59
    pub hour : time.hour ≤ 23
    pub date_good : date_refusal date ≡ 0
    pub ends : ends_utc_month (utc_moment status date (at59 time)) ≡ true

  has_no_date : (n : ℕ) → date_refusal date ≡ suc n → ends_utc_month (utc_moment status date (at59 time)) ≡ false
  unfolding moment_of day_number unless
  has_no_date n e = rw e

  has_date : ends_utc_month (utc_moment status date (at59 time)) ≡ true → date_refusal date ≡ 0
  has_date ends = go (date_refusal date) refl
    where
      go : (n : ℕ) → date_refusal date ≡ n → n ≡ 0
      go zero e = refl
      go (suc n) e =
          let none = has_no_date n e in
          let z : ◌≡◌ {A = ℕ} 0 1 = cc in absurd (omega arith)

  pub sixty_means : takes_sixty status date time ≡ true → Taken
  unfolding takes_sixty
  sixty_means e =
      let parts = both (sixty_behind59 time) _ e in
      let behind = behind_means time parts.0 in
      record {
        is_sixty_law = eq-eqb _ _ behind.0;
        minute = behind.1.0;
        hour = behind.1.1;
        date_good = has_date parts.1;
        ends = parts.1;
      }

  pub takes : Taken → takes_sixty status date time ≡ true
  unfolding takes_sixty sixty_behind59
  takes t = rw (t.is_sixty_law, eq-eqb time.minute 59 t.minute, good_at_59 time t.minute t.hour, t.ends)

  -- what the fields say of the end of a month
  abbrev fields_end : Bool → Bool
  fields_end utc = cond utc (ends_in_utc date time) (ends_in_local status.daylight date time)

  -- with a good date, behind 59:59 of an hour that the day has, they say what the moment in UTC says
  fields_agree : date_refusal date ≡ 0 → time.minute ≡ 59 → time.hour ≤ 23
      → fields_end status.utc ≡ ends_utc_month (utc_moment status date (at59 time))
  unfolding moment_of day_number second_of_day seconds_of
  fields_agree fine minute hour =
      let second = range_not_refused (at59 time) (good_at_59 time minute hour) in
      let are : 86400 * day_of date + seconds_of (at59 time) ≡ 86400 * day_of date + 3600 * time.hour + 3599 = omega arith in
      rw (does (day_of date) fine, does (seconds_of (at59 time)) second) (go are status.utc)
    where
      go : 86400 * day_of date + seconds_of (at59 time) ≡ 86400 * day_of date + 3600 * time.hour + 3599
          → (utc : Bool) → fields_end utc ≡ ends_utc_month (in_utc status.daylight (as_marked utc (86400 * day_of date + seconds_of (at59 time))))
      go are true = marked_ends date (good date fine) time hour _ are
      go are false = shifted_ends date (good date fine) time hour _ are status.daylight

  -- where they say so, the month has the day
  fields_tell : (utc : Bool) → fields_end utc ≡ true → (1 ≤ date.day) × (date.day ≤ month_length date.year date.month)
  unfolding ends_in_utc ends_in_local
  fields_tell true e =
      let parts = both (eqb time.hour 23) (is_months_last_day date) e in
      let day = eqb-true date.day (month_length date.year date.month) parts.1 in
      (omega (arith, (month_28_to_31 date.year date.month).0), omega arith)
  fields_tell false e =
      let parts = both (eqb time.hour (cond status.daylight 1 0)) _ e in
      let day = eqb-true date.day 1 (both _ _ parts.1).0 in
      (omega arith, omega (arith, (month_28_to_31 date.year date.month).0))

  fields_mean : sixty_by_fields status date time ≡ true → Taken
  unfolding sixty_by_fields
  fields_mean e =
      let parts = both _ _ e in
      let behind = behind_means time parts.0 in
      let month = both _ _ parts.1 in
      let told = fields_tell status.utc month.1 in
      let fine = date_holds date month.0 told.0 told.1 in
      record {
        is_sixty_law = eq-eqb _ _ behind.0;
        minute = behind.1.0;
        hour = behind.1.1;
        date_good = fine;
        ends = sym (fields_agree fine behind.1.0 behind.1.1) ∙ month.1;
      }

  fields_take : Taken → sixty_by_fields status date time ≡ true
  unfolding sixty_by_fields sixty_behind59
  fields_take t =
      rw (t.is_sixty_law, eq-eqb time.minute 59 t.minute, good_at_59 time t.minute t.hour, month_holds date (good date t.date_good))
      (fields_agree t.date_good t.minute t.hour ∙ t.ends)

  -- a local second 60 is never in hour 23
  pub marked_or_local : takes_sixty status date time ≡ true → time.hour ≡ 23 → status.utc ≡ true
  unfolding ends_in_local
  marked_or_local e late =
      let t = sixty_means e in
      go status.utc (fields_agree t.date_good t.minute t.hour ∙ t.ends)
    where
      go : (utc : Bool) → fields_end utc ≡ true → utc ≡ true
      go true says = refl
      go false says =
          let at = eqb-true time.hour _ (both _ _ says).0 in
          absurd (omega (arith, first_hours status.daylight))

-- so the code may ask for the fields
pub fields_say_the_same : TheFieldsSayTheSame
fields_say_the_same status date time =
    same _ _ (λ e. takes status date time (fields_mean status date time e)) (λ e. fields_take status date time (sixty_means status date time e))
