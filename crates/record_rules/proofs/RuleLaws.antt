-- Laws of the one rule for a record. Assumes nothing.
use mathlib.Core.Path.{◌≡◌, refl, sym, ◌∙◌}
use mathlib.Core.Bool.{Bool, true, false, cond, not, ◌&&◌, ◌||◌}
use Prim.Native.Nat.{ℕ, ◌≤◌}
use native.Mathlib.Omega.{arith}
use lib.Dec.{eqb}
use borrow.Author.Tests.{not-false, eqb-true, eq-eqb}
use Rattle.refusals.specs.Refusals.{◌when◌, ◌else◌}
use Rattle.refusals.proofs.Laws.{both, when_none, else_none, else_assoc}
use Rattle.calendar_rules.specs.Calendar.{date_in_range, day_exists, date_refusal, day_of, weekday_of}
use Rattle.calendar_rules.specs.TimeOfDay.{time_in_range}
use Rattle.calendar_rules.specs.declared.date.Date.{Date}
use Rattle.calendar_rules.specs.declared.time.Time.{Time}
use Rattle.calendar_rules.proofs.Times as times
use Rattle.record_rules.specs.declared.DatedLayout.{DatedLayout}
use Rattle.record_rules.specs.declared.Status.{Status}
use Rattle.record_rules.specs.Sixty.{is_sixty, at59, sixty_behind59, takes_sixty, up_to59}
use Rattle.record_rules.proofs.SixtyLaws.{never}
use Rattle.record_rules.specs.Rule.{status_allowed, weekday_allowed, weekday_agrees, time_allowed, time_alone_allowed, time_alone_refusal, dated_refusal}

-- A time that is allowed, with a date or alone: the calendar has the time up to 59.
module _ (time : Time) where
  no_sixty : time_in_range time ≡ true → is_sixty time ≡ true → ⊥
  no_sixty e sixty =
      let second : time.second ≡ 60 = eqb-true _ _ sixty in
      absurd (omega (arith, times.good_range time e))

  up_to_59 : (taken : Bool) → (taken ≡ true → sixty_behind59 time ≡ true) → (time_in_range time || taken) ≡ true → time_in_range (up_to59 time) ≡ true
  unfolding sixty_behind59 up_to59
  up_to_59 taken behind allowed = go (is_sixty time) refl (time_in_range time) refl taken refl allowed
    where
      go : (sixty : Bool) → is_sixty time ≡ sixty → (range : Bool) → time_in_range time ≡ range → (t : Bool) → taken ≡ t
          → (range || t) ≡ true → time_in_range (cond sixty (at59 time) time) ≡ true
      go true sixty true range t taken allowed = absurd (no_sixty range sixty)
      go true sixty false range t is allowed = (both (eqb time.minute 59) (time_in_range (at59 time)) (both (is_sixty time) _ (behind (is ∙ allowed))).1).1
      go false sixty true range t is allowed = range
      go false sixty false range t is allowed =
          let not = sym sixty ∙ (both (is_sixty time) _ (behind (is ∙ allowed))).0 in
          let z : ◌≡◌ {A = ℕ} 0 1 = cc in absurd (omega arith)

  pub alone_up_to_59 : time_alone_refusal time ≡ 0 → time_in_range (up_to59 time) ≡ true
  unfolding time_alone_refusal time_alone_allowed
  alone_up_to_59 none = up_to_59 (sixty_behind59 time) (λ behind. behind) (not-false _ (when_none 5 _ none))

  pub allowed_up_to_59 : (status : Status) (date : Date) → time_allowed status date time ≡ true → time_in_range (up_to59 time) ≡ true
  unfolding time_allowed takes_sixty
  allowed_up_to_59 status date allowed = up_to_59 (takes_sixty status date time) (λ taken. (both _ _ taken).0) allowed

-- the digits of a time that is allowed: its second is at most 60
pub record Within (time : Time) : Type 0 where
  pub to_hour : time.hour ≤ 23
  pub to_minute : time.minute ≤ 59
  pub to_second : time.second ≤ 60

pub within : (time : Time) → time_in_range (up_to59 time) ≡ true → Within time
unfolding up_to59
within time e = go (is_sixty time) refl (times.good_range _ e)
  where
    go : (sixty : Bool) → is_sixty time ≡ sixty → times.Good (cond sixty (at59 time) time) → Within time
    go true sixty g =
        let second : time.second ≡ 60 = eqb-true _ _ sixty in
        record { to_hour = g.to_hour; to_minute = g.to_minute; to_second = omega arith }
    go false sixty g = record { to_hour = g.to_hour; to_minute = g.to_minute; to_second = omega (arith, g) }

module _ (layout : DatedLayout) (status : Status) (weekday : ℕ) (date : Date) (time : Time) where
  -- behind a good status, weekday and time stand the date's own refusal and the weekday's
  pub date_decides : status_allowed layout status ≡ true → weekday_allowed weekday ≡ true → time_allowed status date time ≡ true
      → dated_refusal layout status weekday date time ≡ (date_refusal date else 8 when not (weekday_agrees weekday date))
  unfolding dated_refusal date_refusal
  date_decides s w t =
      rw (s, w, t) (else_assoc (6 when not (date_in_range date)) (7 when not (day_exists date)) _)

  -- a record with a date that no rule refuses
  pub record Good : Type 0 where
    pub status_allowed_law : status_allowed layout status ≡ true
    pub weekday_allowed_law : weekday_allowed weekday ≡ true
    pub time_allowed_law : time_allowed status date time ≡ true
    pub date_good : date_refusal date ≡ 0
    pub weekday_agrees_law : weekday_of (day_of date) ≡ weekday

  pub good : dated_refusal layout status weekday date time ≡ 0 → Good
  unfolding dated_refusal weekday_agrees
  good none =
      let five = else_none (5 when not (status_allowed layout status && weekday_allowed weekday)) _ none in
      let six = else_none (6 when not (time_allowed status date time && date_in_range date)) _ five.1 in
      let allowed = both _ _ (not-false _ (when_none 4 _ five.0)) in
      let range = both _ _ (not-false _ (when_none 5 _ six.0)) in
      let rest = else_none _ _ (sym (date_decides allowed.0 allowed.1 range.0) ∙ none) in
      record {
        status_allowed_law = allowed.0;
        weekday_allowed_law = allowed.1;
        time_allowed_law = range.0;
        date_good = rest.0;
        weekday_agrees_law = agrees rest.1;
      }
    where
      agrees : (8 when not (weekday_agrees weekday date)) ≡ 0 → weekday_of (day_of date) ≡ weekday
      agrees e = eqb-true _ _ (not-false _ (when_none 7 _ e))

  pub not_refused : Good → dated_refusal layout status weekday date time ≡ 0
  unfolding weekday_agrees
  not_refused g =
      rw (date_decides g.status_allowed_law g.weekday_allowed_law g.time_allowed_law, g.date_good, eq-eqb _ _ g.weekday_agrees_law)

  -- its time up to 59 is one that the calendar has
  pub good_up_to_59 : Good → time_in_range (up_to59 time) ≡ true
  good_up_to_59 g = allowed_up_to_59 time status date g.time_allowed_law

-- a time that the calendar has is allowed with any date, and is no second 60
pub range_allowed : (status : Status) (date : Date) (time : Time) → time_in_range time ≡ true → time_allowed status date time ≡ true
unfolding time_allowed
range_allowed status date time e = rw e

pub taken_allowed : (status : Status) (date : Date) (time : Time) → takes_sixty status date time ≡ true → time_allowed status date time ≡ true
unfolding time_allowed
taken_allowed status date time e = go (time_in_range time)
  where
    go : (range : Bool) → (range || takes_sixty status date time) ≡ true
    go true = refl
    go false = e

pub range_alone : (time : Time) → time_in_range time ≡ true → time_alone_refusal time ≡ 0
unfolding time_alone_refusal time_alone_allowed
range_alone time e = rw e

pub range_no_sixty : (time : Time) → time_in_range time ≡ true → is_sixty time ≡ false
range_no_sixty time e = never _ (no_sixty time e)

-- a second 60 that is allowed is one that is taken
taken_by : (time : Time) (taken : Bool) → (time_in_range time || taken) ≡ true → is_sixty time ≡ true → taken ≡ true
taken_by time taken allowed sixty = go (time_in_range time) refl allowed
  where
    go : (range : Bool) → time_in_range time ≡ range → (range || taken) ≡ true → taken ≡ true
    go true range allowed = absurd (no_sixty time range sixty)
    go false range allowed = allowed

pub sixty_taken : (status : Status) (date : Date) (time : Time) → time_allowed status date time ≡ true → is_sixty time ≡ true
    → takes_sixty status date time ≡ true
unfolding time_allowed
sixty_taken status date time allowed sixty = taken_by time (takes_sixty status date time) allowed sixty

pub alone_sixty : (time : Time) → time_alone_refusal time ≡ 0 → is_sixty time ≡ true → sixty_behind59 time ≡ true
unfolding time_alone_refusal time_alone_allowed
alone_sixty time none sixty = taken_by time (sixty_behind59 time) (not-false _ (when_none 5 _ none)) sixty
