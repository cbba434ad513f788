-- Laws of the next second of a record. Assumes nothing.
use mathlib.Core.Path.{◌≡◌, refl, ap, sym, ◌∙◌}
use mathlib.Core.Bool.{Bool, true, false, cond, ◌&&◌}
use Prim.Native.Nat.{ℕ, ◌+◌, ◌*◌, ◌<◌}
use native.Mathlib.Omega.{arith}
use Rattle.refusals.specs.Refusals.{◌when◌, ◌else◌, done, refused, unless}
use Rattle.refusals.proofs.Laws.{was_done, was_refused, refused_some, refuses, does, when_none, else_none}
use Rattle.calendar_rules.specs.Calendar.{date_refusal, day_of, day_number, weekday_of, is_last_day, day_after, next_day}
use Rattle.calendar_rules.specs.TimeOfDay.{time_in_range, time_refusal, seconds_of, time_after, is_last_second, second_of_day, next_second}
use Rattle.calendar_rules.specs.declared.date.Date.{Date}
use Rattle.calendar_rules.specs.declared.time.Time.{Time}
use Rattle.calendar_rules.proofs.Dates.{inside_holds, good as date_good, not_refused as date_not_refused, day_within, day_after_law}
use Rattle.calendar_rules.proofs.Laws.{weekday_next}
use Rattle.calendar_rules.proofs.Times.{good_range, in_range, seconds_within, range_not_refused, Follows, time_after_law}
use Rattle.record_rules.specs.declared.DatedLayout.{DatedLayout}
use Rattle.record_rules.specs.declared.TimeLayout.{TimeLayout}
use Rattle.record_rules.specs.declared.Status.{Status}
use Rattle.record_rules.specs.declared.Record.{Record}
use Rattle.record_rules.specs.declared.Record.TheVariants.{Dated, TimeOnly}
use Rattle.record_rules.specs.Season.{calendar_seconds}
use Rattle.record_rules.specs.Moment.{as_marked, moment_of}
use Rattle.record_rules.specs.Sixty.{up_to59}
use Rattle.record_rules.specs.Rule.{weekday_allowed, dated_refusal, time_alone_refusal, refusal_of, is60}
use Rattle.record_rules.specs.Next.{weekday_after, record_after, is_last_of_calendar, next_second_of}
use Rattle.record_rules.specs.Utc.{own_seconds}
use Rattle.record_rules.specs.Following.{NothingMakesASixty}
use Rattle.record_rules.proofs.RuleLaws.{Good, good, not_refused, good_up_to_59, alone_up_to_59, range_allowed, range_alone, range_no_sixty}

-- what the calendar says of the next second of a time
told : (time next : Time) (carry : Bool) → next_second time ≡ done (next, carry)
    → (time_after time ≡ next) × (is_last_second time ≡ carry)
unfolding next_second
told time next carry e =
    let pair = (was_done (time_refusal time) (time_after time, is_last_second time) (next, carry) e).1 in
    (ap (λ p. p.0) pair, ap (λ p. p.1) pair)

-- The ways in which a good record with a date goes on.
module _ (layout : DatedLayout) (status : Status) (weekday : ℕ) (date : Date) (time : Time)
    (none : dated_refusal layout status weekday date time ≡ 0) where
  pub same_day : (next : Time) → next_second (up_to59 time) ≡ done (next, false)
      → done (Dated layout status weekday date next) ≡ next_second_of (Dated layout status weekday date time)
  unfolding next_second_of unless
  same_day next e =
      let t = told (up_to59 time) next false e in
      rw (none, t.1, t.0)

  pub next_day_law : (next : Time) (day : Date) → next_second (up_to59 time) ≡ done (next, true) → next_day date ≡ done day
      → done (Dated layout status (weekday_after weekday) day next) ≡ next_second_of (Dated layout status weekday date time)
  unfolding next_second_of next_day unless
  next_day_law next day e f =
      let t = told (up_to59 time) next true e in
      let d = was_done (date_refusal date else 12 when is_last_day date) (day_after date) day f in
      let more = when_none 11 (is_last_day date) (else_none (date_refusal date) _ d.0).1 in
      rw (none, t.1, more, t.0, d.1)

  pub calendar_ends : (next : Time) (number : ℕ) → next_second (up_to59 time) ≡ done (next, true) → next_day date ≡ refused number
      → refused number ≡ next_second_of (Dated layout status weekday date time)
  unfolding next_second_of next_day
  calendar_ends next number e f =
      let date_good = (good layout status weekday date time none).date_good in
      let number_is = was_refused (date_refusal date else 12 when is_last_day date) number (day_after date) f in
      let some = refused_some (date_refusal date else 12 when is_last_day date) number (day_after date) f in
      rw (none, (told (up_to59 time) next true e).1) (refuses _ (sym (rw date_good at number_is)) some)

pub time_goes_on : (layout : TimeLayout) (time next : Time) (carry : Bool) → time_alone_refusal time ≡ 0
    → next_second (up_to59 time) ≡ done (next, carry) → done (TimeOnly layout next) ≡ next_second_of (TimeOnly layout time)
unfolding next_second_of unless
time_goes_on layout time next carry none e = rw (none, (told (up_to59 time) next carry e).0)

-- a time that the day has, has a next second
pub goes_on : (time : Time) (number : ℕ) → time_in_range time ≡ true → next_second time ≡ refused number → ⊥
unfolding next_second
goes_on time number range e =
    refused_some (time_refusal time) number _ e (sym (was_refused (time_refusal time) number _ e) ∙ range_not_refused time range)

weekday_in_week : (weekday : ℕ) → weekday_allowed (weekday_after weekday) ≡ true
unfolding weekday_allowed
weekday_in_week weekday = inside_holds 1 (weekday_after weekday) 7 (omega arith) (omega arith)

-- the seconds of a date and a time that the calendar has
pub moment_is : (utc : Bool) (date : Date) (time : Time) → date_refusal date ≡ 0 → time_in_range time ≡ true
    → moment_of utc date time ≡ done (as_marked utc (86400 * day_of date + seconds_of time))
unfolding moment_of day_number second_of_day
moment_is utc date time fine range =
    rw (does (day_of date) fine, does (seconds_of time) (range_not_refused time range))

-- What comes after a good record with a date is good, no second 60, and one second later than the record up to 59.
module _ (layout : DatedLayout) (status : Status) (weekday : ℕ) (date : Date) (time : Time) where
  pub record After (next : Record) : Type 0 where
    pub is_good_law : refusal_of next ≡ 0
    pub no_sixty : is60 next ≡ false
    pub second : own_seconds next ≡ done (as_marked status.utc (86400 * day_of date + seconds_of (up_to59 time) + 1))
    pub within : 86400 * day_of date + seconds_of (up_to59 time) + 1 < calendar_seconds

  module _ (none : dated_refusal layout status weekday date time ≡ 0) where
    g : Good layout status weekday date time
    g = good layout status weekday date time none

    t : Follows (up_to59 time) (time_after (up_to59 time)) (is_last_second (up_to59 time))
    t = time_after_law (up_to59 time) (good_range (up_to59 time) (good_up_to_59 layout status weekday date time g))

    range : time_in_range (time_after (up_to59 time)) ≡ true
    range = in_range (time_after (up_to59 time)) t.good

    later : (weekday' : ℕ) (date' : Date) → Good layout status weekday' date' (time_after (up_to59 time))
        → 86400 * day_of date' + seconds_of (time_after (up_to59 time)) ≡ 86400 * day_of date + seconds_of (up_to59 time) + 1
        → After (Dated layout status weekday' date' (time_after (up_to59 time)))
    later weekday' date' fine e =
        record {
          is_good_law = not_refused layout status weekday' date' (time_after (up_to59 time)) fine;
          no_sixty = range_no_sixty (time_after (up_to59 time)) range;
          second = moment_is status.utc date' (time_after (up_to59 time)) fine.date_good range ∙ ap (λ seconds. done (as_marked status.utc seconds)) e;
          within = omega (arith, e, seconds_within (time_after (up_to59 time)) t.good, day_within date' (date_good date' fine.date_good));
        }

    -- within the day
    day_goes_on : is_last_second (up_to59 time) ≡ false → After (Dated layout status weekday date (time_after (up_to59 time)))
    day_goes_on same =
        let fine : Good layout status weekday date (time_after (up_to59 time)) =
        record {
          status_allowed_law = g.status_allowed_law;
          weekday_allowed_law = g.weekday_allowed_law;
          time_allowed_law = range_allowed status date (time_after (up_to59 time)) range;
          date_good = g.date_good;
          weekday_agrees_law = g.weekday_agrees_law;
        } in
        let second = rw same at t.second in
        later weekday date fine (omega arith)

    -- to the next day
    day_follows : is_last_second (up_to59 time) ≡ true → is_last_day date ≡ false
        → After (Dated layout status (weekday_after weekday) (day_after date) (time_after (up_to59 time)))
    day_follows last more =
        let d = day_after_law date (date_good date g.date_good) more in
        let fine : Good layout status (weekday_after weekday) (day_after date) (time_after (up_to59 time)) =
        record {
          status_allowed_law = g.status_allowed_law;
          weekday_allowed_law = weekday_in_week weekday;
          time_allowed_law = range_allowed status (day_after date) (time_after (up_to59 time)) range;
          date_good = date_not_refused (day_after date) d.good;
          weekday_agrees_law = ap weekday_of d.number ∙ weekday_next (day_of date) ∙ ap weekday_after g.weekday_agrees_law;
        } in
        let second = rw last at t.second in
        later (weekday_after weekday) (day_after date) fine (omega (arith, d.number))

    pub dated_after : is_last_of_calendar (Dated layout status weekday date time) ≡ false
        → After (record_after (Dated layout status weekday date time))
    dated_after more = go (is_last_second (up_to59 time)) refl more
      where
        go : (last : Bool) → is_last_second (up_to59 time) ≡ last → (last && is_last_day date) ≡ false
            → After (cond last (Dated layout status (weekday_after weekday) (day_after date) (time_after (up_to59 time))) (Dated layout status weekday date (time_after (up_to59 time))))
        go true e more = day_follows e more
        go false e more = day_goes_on e

-- what follows a record: the record after it, where it is good and not the calendar's last
pub followed : (rec next : Record) → next_second_of rec ≡ done next
    → (refusal_of rec ≡ 0) × (is_last_of_calendar rec ≡ false) × (record_after rec ≡ next)
unfolding next_second_of
followed rec next e =
    let made = was_done _ (record_after rec) next e in
    let parts = else_none (refusal_of rec) _ made.0 in
    (parts.0, when_none 11 _ parts.1, made.1)

pub dated_follows : (layout : DatedLayout) (status : Status) (weekday : ℕ) (date : Date) (time : Time) (next : Record)
    → next_second_of (Dated layout status weekday date time) ≡ done next → After layout status weekday date time next
dated_follows layout status weekday date time next e =
    let f = followed _ next e in
    rw (← f.2) (dated_after layout status weekday date time f.0 f.1)

-- the time behind a time that is allowed alone is one of the day
alone_after : (time : Time) → time_alone_refusal time ≡ 0 → time_in_range (time_after (up_to59 time)) ≡ true
alone_after time none = in_range _ (time_after_law (up_to59 time) (good_range (up_to59 time) (alone_up_to_59 time none))).good

-- the next second of a record is good, and no second 60
pub next_good : (rec next : Record) → next_second_of rec ≡ done next → refusal_of next ≡ 0
next_good (Dated layout status weekday date time) next e = (dated_follows layout status weekday date time next e).is_good_law
next_good (TimeOnly layout time) next e =
    let f = followed (TimeOnly layout time) next e in
    rw (← f.2) (range_alone (time_after (up_to59 time)) (alone_after time f.0))

pub next_no_sixty : NothingMakesASixty
next_no_sixty (Dated layout status weekday date time) next e = (dated_follows layout status weekday date time next e).no_sixty
next_no_sixty (TimeOnly layout time) next e =
    let f = followed (TimeOnly layout time) next e in
    rw (← f.2) (range_no_sixty (time_after (up_to59 time)) (alone_after time f.0))
