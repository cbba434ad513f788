-- Laws of a clock that runs: each step adds one second to its count, but from a second 60, up to the end of the calendar. Assumes nothing.
use mathlib.Core.Path.{◌≡◌, refl, ap, sym, ◌∙◌}
use mathlib.Core.Bool.{Bool, true, false, cond}
use Prim.Native.Nat.{ℕ, zero, suc, ◌+◌, ◌*◌, ◌<◌, ◌≤◌}
use native.Mathlib.Omega.{arith}
use lib.Dec.{ltb}
use borrow.Author.Tests.{ltb-true, ltb-false}
use Rattle.refusals.specs.Refusals.{Outcome, done, refused, unless}
use Rattle.refusals.proofs.Laws.{both, does}
use Rattle.calendar_rules.specs.Calendar.{day_of, is_last_day, day_after}
use Rattle.calendar_rules.specs.TimeOfDay.{seconds_of, is_last_second}
use Rattle.calendar_rules.specs.declared.date.Date.{Date}
use Rattle.calendar_rules.specs.declared.time.Time.{Time}
use Rattle.calendar_rules.proofs.Dates.{Good as GoodDate, good as date_good, day_within, day_after_law}
use Rattle.calendar_rules.proofs.Times.{Good as GoodTime, good_range, seconds_within, last_second}
use Rattle.record_rules.specs.declared.DatedLayout.{DatedLayout}
use Rattle.record_rules.specs.declared.Status.{Status}
use Rattle.record_rules.specs.declared.Record.{Record}
use Rattle.record_rules.specs.declared.Record.TheVariants.{Dated}
use Rattle.record_rules.specs.declared.season.Count.{Count}
use Rattle.record_rules.specs.Season.{seconds_later, seconds_in, calendar_seconds}
use Rattle.record_rules.specs.Sixty.{is_sixty, up_to59}
use Rattle.record_rules.specs.Rule.{dated_refusal, is60}
use Rattle.record_rules.specs.Next.{record_after, is_last_of_calendar, next_second_of}
use Rattle.record_rules.specs.Utc.{own_seconds, count_of}
use Rattle.record_rules.specs.Following.{seconds_on}
use Rattle.record_rules.proofs.SixtyLaws.{never, last_of_day, last_number}
use Rattle.record_rules.proofs.RuleLaws.{good, good_up_to_59}
use Rattle.record_rules.proofs.NextLaws.{next_no_sixty}
use Rattle.record_rules.proofs.UtcLaws.{done_after, followers_number, plain_time, placed, placed_seconds, count_within, none_later, later_still, seconds_in_later}
use Rattle.record_rules.proofs.FollowingLaws.{next_is_later}
use Rattle.record_rules.proofs.LastSixtyHolds.{last_is_good, last_sixty, last_next}
use Rattle.clock.specs.declared.Clock.{Clock}
use Rattle.clock.specs.Stepping.{clock_second, made, stepped_by, step_of}
use Rattle.clock.specs.Running.{seconds_of_steps, AStepAddsOneSecond, TheLastSecondGives12, TheLastSixtyGives12, NoStepMakesASixty, stepped, EachIsMade, StepsAddAsManySeconds}
use Rattle.clock.specs.AsPrinted.{TheLastSixtyIsAsPrinted}
use Rattle.clock.proofs.StepLaws.{second_is_next, second_refused, goes_on}

-- The end of the calendar, by its second and by its day number.
last_second_is : (time : Time) → is_last_second time ≡ true → seconds_of time ≡ 86399
unfolding seconds_of
last_second_is time e = ap seconds_of (last_of_day time e)

is_last_second_law : (time : Time) → GoodTime time → seconds_of time ≡ 86399 → is_last_second time ≡ true
unfolding seconds_of
is_last_second_law time g e = last_second time g (omega (arith, g)) (omega (arith, g)) (omega (arith, g))

is_last_day_law : (date : Date) → GoodDate date → day_of date ≡ 36524 → is_last_day date ≡ true
is_last_day_law date g e = go (is_last_day date) refl
  where
    go : (last : Bool) → is_last_day date ≡ last → last ≡ true
    go true more = refl
    go false more =
        let next = day_after_law date g more in
        absurd (omega (arith, next.number, day_within (day_after date) next.good))

-- The seconds of a good record with a date, up to 59, tell whether it is the calendar's last.
module _ (layout : DatedLayout) (status : Status) (weekday : ℕ) (date : Date) (time : Time)
    (none : dated_refusal layout status weekday date time ≡ 0) where
  not_last : 86400 * day_of date + seconds_of (up_to59 time) + 1 < calendar_seconds → is_last_of_calendar (Dated layout status weekday date time) ≡ false
  not_last before =
      never _ (λ last.
      let parts = both (is_last_second (up_to59 time)) (is_last_day date) last in
      omega (arith, last_second_is (up_to59 time) parts.0, last_number date parts.1))

  is_last : 86400 * day_of date + seconds_of (up_to59 time) + 1 ≡ calendar_seconds → is_last_of_calendar (Dated layout status weekday date time) ≡ true
  is_last end =
      let g = good layout status weekday date time none in
      let t = good_range (up_to59 time) (good_up_to_59 layout status weekday date time g) in
      let d = date_good date g.date_good in
      let second : seconds_of (up_to59 time) ≡ 86399 = omega (arith, seconds_within (up_to59 time) t, day_within date d) in
      let day : day_of date ≡ 36524 = omega (arith, seconds_within (up_to59 time) t, day_within date d) in
      rw (is_last_second_law (up_to59 time) t second, is_last_day_law date d day)

  -- and no second 60 is counted by its own second
  module _ (plain : is_sixty time ≡ false) where
    own_second : seconds_of (up_to59 time) ≡ seconds_of time
    own_second = ap seconds_of (plain_time time plain)

    second_follows : 86400 * day_of date + seconds_of time + 1 < calendar_seconds
        → next_second_of (Dated layout status weekday date time) ≡ done (record_after (Dated layout status weekday date time))
    unfolding next_second_of
    second_follows before = does _ (rw (none, not_last (omega (arith, own_second))))

    calendar_ends : 86400 * day_of date + seconds_of time + 1 ≡ calendar_seconds
        → next_second_of (Dated layout status weekday date time) ≡ refused 12
    unfolding next_second_of unless
    calendar_ends end = rw (none, is_last (omega (arith, own_second)))

-- A record that has a count and is not the calendar's last has a next second.
module _ (rec : Record) (count : Count) (counted : count_of rec ≡ done count) where
  goes : seconds_in count + seconds_on rec < calendar_seconds → (next : Record) × (next_second_of rec ≡ done next)
  goes before = go (is60 rec) refl before
    where
      go : (sixty : Bool) → is60 rec ≡ sixty → seconds_in count + cond sixty 0 1 < calendar_seconds → (next : Record) × (next_second_of rec ≡ done next)
      go true sixty before =
          let had = done_after (next_second_of rec) own_seconds count (sym (followers_number rec (next_second_of rec) sixty refl) ∙ counted) in
          (had.0, had.1)
      go false plain before =
          let p = placed rec count counted in
          let seconds = placed_seconds p in
          (_, ap next_second_of p.is ∙ second_follows _ _ _ _ _ p.none (ap is60 (sym p.is) ∙ plain) (omega arith))

-- One step of a clock with a date.
pub step_adds_a_second : AStepAddsOneSecond
step_adds_a_second clock count counted before =
    let p = placed clock.rec count counted in
    let n = goes clock.rec count counted before in
    let step = goes_on clock _ _ _ _ _ n.0 p.is n.1 in
    (ap (λ s. s.answer) (sym step), ap (λ s. count_of s.clock.rec) (sym step) ∙ next_is_later clock.rec n.0 count n.1 counted)

pub last_second_gives_12 : TheLastSecondGives12
last_second_gives_12 clock count counted end = go (is60 clock.rec) refl end
  where
    go : (sixty : Bool) → is60 clock.rec ≡ sixty → seconds_in count + cond sixty 0 1 ≡ calendar_seconds → (step_of clock).answer ≡ refused 12
    go true sixty end = absurd (omega (arith, count_within clock.rec count counted))
    go false plain end =
        let p = placed clock.rec count counted in
        let seconds = placed_seconds p in
        let ends = ap next_second_of p.is ∙ calendar_ends _ _ _ _ _ p.none (ap is60 (sym p.is) ∙ plain) (omega arith) in
        ap (λ s. s.answer) (sym (second_refused clock 12 ends))

pub last_sixty_gives_12 : TheLastSixtyGives12
last_sixty_gives_12 clock layout status marked fine is =
    ap (λ s. s.answer) (sym (second_refused clock 12 (ap next_second_of is ∙ (last_is_good layout status marked fine).1)))

pub last_as_printed : TheLastSixtyIsAsPrinted
last_as_printed = sym (second_refused (record { rec = last_sixty }) 12 last_next)

-- a step that is made leaves no second 60
pub step_makes_no_sixty : NoStepMakesASixty
unfolding step_of
step_makes_no_sixty clock = go (clock_second clock.rec) refl
  where
    go : (outcome : Outcome Record) → clock_second clock.rec ≡ outcome → (stepped_by clock outcome).answer ≡ made
        → is60 (stepped_by clock outcome).clock.rec ≡ false
    go (done next) is e = next_no_sixty clock.rec next (second_is_next clock.rec next is)
    go (refused n) is e = let z : ◌≡◌ {A = ℕ} 0 1 = cc in absurd (omega arith)

-- one step more adds one second more, but the first from a second 60
pub one_step_more : (n : ℕ) (clock : Clock) → EachIsMade n clock
    → seconds_of_steps n clock.rec + seconds_on (stepped n clock).rec ≡ seconds_of_steps (suc n) clock.rec
unfolding stepped
one_step_more zero clock each = omega arith
one_step_more (suc n) clock each =
    let plain = step_makes_no_sixty (stepped n clock) (each n (omega arith)) in
    rw plain (omega arith)

-- Any number of steps of a clock with a date that stays in the calendar.
module _ (clock : Clock) (count : Count) (counted : count_of clock.rec ≡ done count) where
  after_steps : (n : ℕ) → seconds_in count + seconds_of_steps n clock.rec < calendar_seconds
      → EachIsMade n clock × (count_of (stepped n clock).rec ≡ done (seconds_later (seconds_of_steps n clock.rec) count))
  unfolding stepped
  after_steps zero before = ((λ k below. absurd (omega arith)), counted ∙ ap done (sym (none_later count)))
  after_steps (suc n) before =
      let so_far = after_steps n (omega (arith, fewer n)) in
      let more = one_step_more n clock so_far.0 in
      let step = step_adds_a_second (stepped n clock) (seconds_later (seconds_of_steps n clock.rec) count) so_far.1 (omega (arith, seconds_in_later count (seconds_of_steps n clock.rec), more)) in
      (each so_far.0 step.0, step.1 ∙ ap done (later_still count (seconds_of_steps n clock.rec) (seconds_on (stepped n clock).rec) ∙ ap (λ k. seconds_later k count) more))
    where
      fewer : (n : ℕ) → seconds_of_steps n clock.rec ≤ seconds_of_steps (suc n) clock.rec
      fewer zero = omega arith
      fewer (suc n) = omega arith

      each : EachIsMade n clock → (step_of (stepped n clock)).answer ≡ made → EachIsMade (suc n) clock
      each before here k below = go (ltb k n) refl
        where
          go : (less : Bool) → ltb k n ≡ less → (step_of (stepped k clock)).answer ≡ made
          go true less = before k (ltb-true k n less)
          go false more = let same : k ≡ n = omega (arith, ltb-false k n more) in rw same here

pub steps_add_seconds : StepsAddAsManySeconds
steps_add_seconds clock count n counted before = after_steps clock count counted n before
