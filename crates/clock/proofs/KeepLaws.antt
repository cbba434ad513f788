-- Laws of what stepping keeps: the layout and the status with the season, and so the distance of its count from UTC. Assumes nothing.
use mathlib.Core.Path.{◌≡◌, refl, ap, sym, ◌∙◌}
use mathlib.Core.Bool.{Bool, true, false, cond}
use Prim.Native.Nat.{ℕ, zero, suc, ◌+◌, ◌<◌}
use native.Mathlib.Omega.{arith}
use Rattle.refusals.specs.Refusals.{◌when◌, ◌else◌, Outcome, done, refused, after}
use Rattle.refusals.proofs.Laws.{was_done}
use Rattle.calendar_rules.specs.Calendar.{day_after}
use Rattle.calendar_rules.specs.TimeOfDay.{is_last_second, time_after}
use Rattle.record_rules.specs.declared.Status.{Status}
use Rattle.record_rules.specs.declared.Record.{Record}
use Rattle.record_rules.specs.declared.Record.TheVariants.{Dated, TimeOnly}
use Rattle.record_rules.specs.declared.season.UtcSeconds.{UtcSeconds}
use Rattle.record_rules.specs.declared.season.Count.{Count}
use Rattle.record_rules.specs.Season.{seconds_later, seconds_in, calendar_seconds}
use Rattle.record_rules.specs.Sixty.{up_to59}
use Rattle.record_rules.specs.Rule.{refusal_of}
use Rattle.record_rules.specs.Next.{weekday_after, record_after, is_last_of_calendar, next_second_of}
use Rattle.record_rules.specs.Moment.{in_utc}
use Rattle.record_rules.specs.Utc.{count_of, utc_seconds}
use Rattle.record_rules.specs.Following.{seconds_on}
use Rattle.record_rules.proofs.UtcLaws.{seconds_in_later, count_within, had_count, utc_later}
use Rattle.record_rules.proofs.FollowingLaws.{next_is_later}
use Rattle.clock.specs.declared.Clock.{Clock}
use Rattle.clock.specs.Stepping.{clock_second, made, stepped_by, step_of}
use Rattle.clock.specs.Running.{seconds_of_steps, stepped, StepsAddAsManyUtcSeconds, dated, lasting, SteppingDoesNotChangeTheSeason}
use Rattle.clock.proofs.StepLaws.{second_is_next}
use Rattle.clock.proofs.RunLaws.{one_step_more}

-- the next second of a record says the same beside its time, date and weekday
standing_after : (rec : Record) → lasting (record_after rec) ≡ lasting rec
standing_after (Dated layout status weekday date time) = go (is_last_second (up_to59 time))
  where
    go : (last : Bool)
        → lasting (cond last (Dated layout status (weekday_after weekday) (day_after date) (time_after (up_to59 time))) (Dated layout status weekday date (time_after (up_to59 time))))
        ≡ dated layout status
    go true = refl
    go false = refl
standing_after (TimeOnly layout time) = refl

standing_next : (rec next : Record) → next_second_of rec ≡ done next → lasting next ≡ lasting rec
unfolding next_second_of
standing_next rec next e =
    let told = was_done (refusal_of rec else 12 when is_last_of_calendar rec) (record_after rec) next e in
    ap lasting (sym told.1) ∙ standing_after rec

-- one step
lasting_stays : (clock : Clock) → lasting (step_of clock).clock.rec ≡ lasting clock.rec
unfolding step_of
lasting_stays clock = go (clock_second clock.rec) refl
  where
    go : (outcome : Outcome Record) → clock_second clock.rec ≡ outcome → lasting (stepped_by clock outcome).clock.rec ≡ lasting clock.rec
    go (done next) e = standing_next clock.rec next (second_is_next clock.rec next e)
    go (refused n) e = refl

pub season_stays : SteppingDoesNotChangeTheSeason
unfolding stepped
season_stays clock zero = refl
season_stays clock (suc n) = lasting_stays (stepped n clock) ∙ season_stays clock n

-- UTC seconds go with the count while the status stays
utc_goes_along : (rec next : Record) (count : Count) (utc : UtcSeconds) (n : ℕ) → lasting next ≡ lasting rec → count_of rec ≡ done count
    → count_of next ≡ done (seconds_later n count) → seconds_in count + n < calendar_seconds → utc_seconds rec ≡ done utc
    → utc_seconds next ≡ done (record { 0 = utc.0 + n })
utc_goes_along (Dated layout status weekday date time) (Dated layout' status' weekday' date' time') count utc n same here later within e =
    let kept : status' ≡ status = cc in
    ap (λ o. after o (λ counted. in_utc status'.daylight counted)) later
    ∙ ap (λ (s : Status). in_utc s.daylight (seconds_later n count)) kept
    ∙ utc_later status.daylight count utc n within (ap (λ o. after o (λ counted. in_utc status.daylight counted)) (sym here) ∙ e)
utc_goes_along (Dated layout status weekday date time) (TimeOnly layout' time') count utc n same here later within e =
    let z : ◌≡◌ {A = ℕ} 0 1 = cc in absurd (omega arith)
utc_goes_along (TimeOnly layout time) next count utc n same here later within e = let z : ◌≡◌ {A = ℕ} 0 1 = cc in absurd (omega arith)

-- a step that is made adds its UTC seconds
utc_step : (clock : Clock) (utc : UtcSeconds) → utc_seconds clock.rec ≡ done utc → (step_of clock).answer ≡ made
    → utc_seconds (step_of clock).clock.rec ≡ done (record { 0 = utc.0 + seconds_on clock.rec })
unfolding step_of
utc_step clock utc e = go (clock_second clock.rec) refl
  where
    go : (outcome : Outcome Record) → clock_second clock.rec ≡ outcome → (stepped_by clock outcome).answer ≡ made
        → utc_seconds (stepped_by clock outcome).clock.rec ≡ done (record { 0 = utc.0 + seconds_on clock.rec })
    go (done next) is step =
        let follows = second_is_next clock.rec next is in
        let had = had_count clock.rec utc e in
        let later = next_is_later clock.rec next had.0 follows had.1 in
        let within : seconds_in had.0 + seconds_on clock.rec < calendar_seconds =
        omega (arith, seconds_in_later had.0 (seconds_on clock.rec), count_within next _ later) in
        utc_goes_along clock.rec next had.0 utc _ (standing_next clock.rec next follows) had.1 later within e
    go (refused n) is step = let z : ◌≡◌ {A = ℕ} 0 1 = cc in absurd (omega arith)

pub steps_add_utc_seconds : StepsAddAsManyUtcSeconds
unfolding stepped
steps_add_utc_seconds clock utc zero e each = e ∙ (let same : utc.0 ≡ utc.0 + 0 = omega arith in λ i. done (record { 0 = same i }))
steps_add_utc_seconds clock utc (suc n) e each =
    let so_far = steps_add_utc_seconds clock utc n e (λ k below. each k (omega arith)) in
    let step = one_step_more n clock (λ k below. each k (omega arith)) in
    let more : utc.0 + seconds_of_steps n clock.rec + seconds_on (stepped n clock).rec ≡ utc.0 + seconds_of_steps (suc n) clock.rec = omega (arith, step) in
    utc_step (stepped n clock) (record { 0 = utc.0 + seconds_of_steps n clock.rec }) so_far (each n (omega arith)) ∙ (λ i. done (record { 0 = more i }))
