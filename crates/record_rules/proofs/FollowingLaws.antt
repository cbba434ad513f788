-- Laws of what follows a second 60. Assumes nothing.
use mathlib.Core.Path.{◌≡◌, refl, ap, sym, ◌∙◌}
use mathlib.Core.Bool.{Bool, true, false, cond, ◌&&◌}
use Prim.Native.Nat.{ℕ, ◌+◌, ◌-◌, ◌<◌, ◌≤◌}
use native.Mathlib.Omega.{arith}
use lib.Dec.{ltb, eqb}
use borrow.Author.Tests.{leb-false, eqb-true, eq-eqb}
use Rattle.refusals.specs.Refusals.{◌when◌, ◌else◌, Outcome, done, refused, after}
use Rattle.refusals.proofs.Laws.{both, was_done, was_refused, when_none}
use Rattle.calendar_rules.specs.Calendar.{date_refusal, day_of, weekday_of, is_last_day, day_after}
use Rattle.calendar_rules.specs.TimeOfDay.{time_in_range, is_last_second, time_after}
use Rattle.calendar_rules.specs.Literals.{time}
use Rattle.calendar_rules.specs.declared.date.Date.{Date}
use Rattle.calendar_rules.specs.declared.time.Time.{Time}
use Rattle.calendar_rules.proofs.Dates.{inside_holds}
use Rattle.calendar_rules.proofs.Laws.{weekday_1_to_7}
use Rattle.calendar_rules.proofs.Times.{good_range}
use Rattle.record_rules.specs.declared.DatedLayout.{DatedLayout}
use Rattle.record_rules.specs.declared.Status.{Status}
use Rattle.record_rules.specs.declared.Record.{Record}
use Rattle.record_rules.specs.declared.Record.TheVariants.{Dated, TimeOnly}
use Rattle.record_rules.specs.declared.season.LocalSeconds.{LocalSeconds}
use Rattle.record_rules.specs.declared.season.UtcSeconds.{UtcSeconds}
use Rattle.record_rules.specs.declared.season.Count.{Count}
use Rattle.record_rules.specs.declared.season.Count.TheVariants.{Local, Utc}
use Rattle.record_rules.specs.Season.{seconds_later, seconds_in, calendar_seconds, season_shift, is_outside, to_utc}
use Rattle.record_rules.specs.Moment.{in_utc, utc_moment}
use Rattle.record_rules.specs.Sixty.{is_sixty, at59, ends_utc_month, takes_sixty, up_to59}
use Rattle.record_rules.specs.Rule.{status_allowed, weekday_allowed, refusal_of, is60}
use Rattle.record_rules.specs.Next.{weekday_after, record_after, is_last_of_calendar, next_second_of}
use Rattle.record_rules.specs.Utc.{count_of, utc_seconds}
use Rattle.record_rules.specs.Following.{time_of, ASixtyIsAcceptedExactlyThen, ASixtyGoesTo00, TheSameRecordWith59Decides, seconds_on}
use Rattle.record_rules.specs.Following.{ASixtySharesItsFollowersNumber, OneSixtyHasNoFollower, WithoutAFollowerItHasNoNumber, NoCountIsBehindTheCalendar}
use Rattle.record_rules.proofs.SixtyLaws.{same, behind_means, good_at_59, last_of_day, last_date, last_number, takes, sixty_means, marked_or_local}
use Rattle.record_rules.proofs.RuleLaws.{good, not_refused, good_up_to_59, range_allowed, range_alone, taken_allowed, sixty_taken, alone_sixty}
use Rattle.record_rules.proofs.NextLaws.{followed, next_good}
use Rattle.record_rules.proofs.UtcLaws.{neither, done_after, plain_time, own_number, counted_good, followers_number, next_number, plain_later, none_later, count_within, utc_refused, had_count}

-- The record with second 59 and its date's own weekday.
module _ (layout : DatedLayout) (status : Status) (on : Date) (at : Time) (status_fine : status_allowed layout status ≡ true) where
  abbrev dated59 : Record
  dated59 = Dated layout status (weekday_of (day_of on)) on (at59 at)

  -- where the calendar has its date and its time it is good, and its UTC second is the moment
  moment_of_59 : date_refusal on ≡ 0 → time_in_range (at59 at) ≡ true → utc_seconds dated59 ≡ utc_moment status on (at59 at)
  unfolding weekday_allowed
  moment_of_59 fine range =
      let week = weekday_1_to_7 (day_of on) in
      let none =
      not_refused layout status (weekday_of (day_of on)) on (at59 at)
      (record {
        status_allowed_law = status_fine;
        weekday_allowed_law = inside_holds 1 (weekday_of (day_of on)) 7 week.0 week.1;
        time_allowed_law = range_allowed status on (at59 at) range;
        date_good = fine;
        weekday_agrees_law = refl;
      }) in
      ap (λ count. after count (λ counted. in_utc status.daylight counted)) (own_number dated59 none refl)

  -- and where it has a UTC second at all, the calendar has both
  has_both : ends_utc_month (utc_seconds dated59) ≡ true → (date_refusal on ≡ 0) × (time_in_range (at59 at) ≡ true)
  has_both ends = go (utc_seconds dated59) refl ends
    where
      go : (outcome : Outcome UtcSeconds) → utc_seconds dated59 ≡ outcome → ends_utc_month outcome ≡ true → (date_refusal on ≡ 0) × (time_in_range (at59 at) ≡ true)
      go (done utc) e ends =
          let had = had_count dated59 utc e in
          let g = good layout status (weekday_of (day_of on)) on (at59 at) (counted_good dated59 had.0 had.1) in
          (g.date_good, rw (plain_time (at59 at) refl) at (good_up_to_59 layout status (weekday_of (day_of on)) on (at59 at) g))
      go (refused n) e ends = let z : ◌≡◌ {A = ℕ} 0 1 = cc in absurd (omega arith)

pub same_with_59_decides : TheSameRecordWith59Decides
same_with_59_decides layout status on at fine sixty =
    same _ _ there back
  where
    there : takes_sixty status on at ≡ true → (eqb at.minute 59 && ends_utc_month (utc_seconds (Dated layout status (weekday_of (day_of on)) on (at59 at)))) ≡ true
    there e =
        let t = sixty_means status on at e in
        rw (eq-eqb at.minute 59 t.minute)
        (ap ends_utc_month (moment_of_59 layout status on at fine t.date_good (good_at_59 at t.minute t.hour)) ∙ t.ends)

    back : (eqb at.minute 59 && ends_utc_month (utc_seconds (Dated layout status (weekday_of (day_of on)) on (at59 at)))) ≡ true → takes_sixty status on at ≡ true
    back e =
        let parts = both (eqb at.minute 59) _ e in
        let has = has_both layout status on at fine parts.1 in
        takes status on at
        (record {
          is_sixty_law = sixty;
          minute = eqb-true _ _ parts.0;
          hour = (good_range (at59 at) has.1).to_hour;
          date_good = has.0;
          ends = sym (ap ends_utc_month (moment_of_59 layout status on at fine has.0 has.1)) ∙ parts.1;
        })

-- With the weekday that its date has, a 60 is accepted exactly when the record with second 59 is good and ends a UTC month.
pub accepted_exactly : ASixtyIsAcceptedExactlyThen
unfolding weekday_allowed
accepted_exactly layout status weekday on at sixty = (there, back)
  where
    there : refusal_of (Dated layout status weekday on at) ≡ 0
        → (at.minute ≡ 59) × (ends_utc_month (utc_seconds (Dated layout status weekday on (at59 at))) ≡ true)
    there none =
        let g = good layout status weekday on at none in
        let taken = sixty_taken status on at g.time_allowed_law sixty in
        let decides = both (eqb at.minute 59) _ (sym (same_with_59_decides layout status on at g.status_allowed_law sixty) ∙ taken) in
        (eqb-true _ _ decides.0, ap (λ w. ends_utc_month (utc_seconds (Dated layout status w on (at59 at)))) (sym g.weekday_agrees_law) ∙ decides.1)

    back : (at.minute ≡ 59) × (ends_utc_month (utc_seconds (Dated layout status weekday on (at59 at))) ≡ true)
        → refusal_of (Dated layout status weekday on at) ≡ 0
    back both_hold = go (utc_seconds (Dated layout status weekday on (at59 at))) refl both_hold.1
      where
        go : (outcome : Outcome UtcSeconds) → utc_seconds (Dated layout status weekday on (at59 at)) ≡ outcome → ends_utc_month outcome ≡ true
            → refusal_of (Dated layout status weekday on at) ≡ 0
        go (done utc) e ends =
            let had = had_count (Dated layout status weekday on (at59 at)) utc e in
            let g = good layout status weekday on (at59 at) (counted_good _ had.0 had.1) in
            let decides = same_with_59_decides layout status on at g.status_allowed_law sixty in
            let last = ap (λ w. ends_utc_month (utc_seconds (Dated layout status w on (at59 at)))) g.weekday_agrees_law ∙ both_hold.1 in
            not_refused layout status weekday on at
            (record {
              status_allowed_law = g.status_allowed_law;
              weekday_allowed_law = g.weekday_allowed_law;
              time_allowed_law = taken_allowed status on at (decides ∙ rw (eq-eqb at.minute 59 both_hold.0, last));
              date_good = g.date_good;
              weekday_agrees_law = g.weekday_agrees_law;
            })
        go (refused n) e ends = let z : ◌≡◌ {A = ℕ} 0 1 = cc in absurd (omega arith)

-- what follows has the same status: UTC seconds go by the count alone
utc_by_count : (rec next : Record) → next_second_of rec ≡ done next → count_of rec ≡ count_of next → utc_seconds rec ≡ utc_seconds next
utc_by_count (Dated layout status weekday date time) next e same =
    let f = followed (Dated layout status weekday date time) next e in
    let after_it = same ∙ ap count_of (sym f.2) in
    go (is_last_second (up_to59 time)) after_it ∙ ap utc_seconds f.2
  where
    go : (last : Bool)
        → count_of (Dated layout status weekday date time)
        ≡ count_of (cond last (Dated layout status (weekday_after weekday) (day_after date) (time_after (up_to59 time))) (Dated layout status weekday date (time_after (up_to59 time))))
        → utc_seconds (Dated layout status weekday date time)
        ≡ utc_seconds (cond last (Dated layout status (weekday_after weekday) (day_after date) (time_after (up_to59 time))) (Dated layout status weekday date (time_after (up_to59 time))))
    go true same = ap (λ count. after count (λ counted. in_utc status.daylight counted)) same
    go false same = ap (λ count. after count (λ counted. in_utc status.daylight counted)) same
utc_by_count (TimeOnly layout time) next e same =
    let f = followed (TimeOnly layout time) next e in
    let there = rw (← f.2) at (next_good (TimeOnly layout time) next e) in
    ap (λ n. refused (n else 14)) (f.0 ∙ sym there) ∙ ap utc_seconds f.2

pub sixty_shares : ASixtySharesItsFollowersNumber
sixty_shares rec next sixty e =
    let same = followers_number rec (done next) sixty e ∙ sym (next_number rec next e) in
    (same, utc_by_count rec next e same)

-- the next second is one later, but that of a 60
pub next_is_later : (rec next : Record) (count : Count) → next_second_of rec ≡ done next → count_of rec ≡ done count
    → count_of next ≡ done (seconds_later (seconds_on rec) count)
next_is_later rec next count e counted = go (is60 rec) refl
  where
    go : (sixty : Bool) → is60 rec ≡ sixty → count_of next ≡ done (seconds_later (cond sixty 0 1) count)
    go true sixty = sym (sixty_shares rec next sixty e).0 ∙ counted ∙ ap done (sym (none_later count))
    go false plain = plain_later rec next count plain e counted

pub no_follower_no_number : WithoutAFollowerItHasNoNumber
no_follower_no_number rec sixty e =
    let none = followers_number rec (refused 12) sixty e in (none, sym (utc_refused rec 12 none))

-- a good record without a next second is the calendar's last
ends_calendar : (rec : Record) → refusal_of rec ≡ 0 → next_second_of rec ≡ refused 12 → is_last_of_calendar rec ≡ true
unfolding next_second_of
ends_calendar rec none e =
    let twelve = was_refused (refusal_of rec else 12 when is_last_of_calendar rec) 12 (record_after rec) e in
    go (is_last_of_calendar rec) (rw none at twelve)
  where
    go : (last : Bool) → (12 when last) ≡ 12 → last ≡ true
    go true e = refl
    go false e = absurd (omega arith)

-- 23:59:60
last_time : (at : Time) → is_sixty at ≡ true → is_last_second (up_to59 at) ≡ true → at ≡ time 23 59 60
unfolding up_to59
last_time at sixty e =
    let last : at59 at ≡ time 23 59 59 = last_of_day (at59 at) (rw sixty at e) in
    λ i. record { hour = (last i).hour; minute = (last i).minute; second = eqb-true at.second 60 sixty i }

pub one_without_follower : OneSixtyHasNoFollower
one_without_follower (Dated layout status weekday on at) none sixty e =
    let last = both (is_last_second (up_to59 at)) (is_last_day on) (ends_calendar (Dated layout status weekday on at) none e) in
    let g = good layout status weekday on at none in
    let t = last_time at sixty last.0 in
    let d = last_date on last.1 in
    let w : weekday ≡ 7 = sym g.weekday_agrees_law ∙ ap weekday_of (last_number on last.1) in
    let taken = sixty_taken status on at g.time_allowed_law sixty in
    (layout, status, (λ i. Dated layout status (w i) (d i) (t i)), marked_or_local status on at taken (ap (λ (x : Time). x.hour) t))
one_without_follower (TimeOnly layout at) none sixty e =
    let last = ends_calendar (TimeOnly layout at) none e in
    let z : ◌≡◌ {A = ℕ} 0 1 = cc in absurd (omega arith)

-- only what lies in the calendar is handed out, and the season shift hands out no more
shift_bound : (local : LocalSeconds) (daylight : Bool) (utc : UtcSeconds) → to_utc local daylight ≡ done utc → utc.0 ≤ 3155759999
unfolding to_utc
shift_bound local daylight utc e =
    let told = was_done (12 when is_outside local daylight) (record { 0 = local.0 - season_shift daylight }) utc e in
    let inside = neither (ltb local.0 (season_shift daylight)) _ (when_none 11 _ told.0) in
    let at : local.0 - season_shift daylight ≡ utc.0 = ap (λ s. s.0) told.1 in
    omega (arith, leb-false calendar_seconds (local.0 - season_shift daylight) inside.1)

utc_in_calendar : (daylight : Bool) (count : Count) (utc : UtcSeconds) → seconds_in count < calendar_seconds → in_utc daylight count ≡ done utc → utc.0 ≤ 3155759999
utc_in_calendar daylight (Local local) utc within e = shift_bound local daylight utc e
utc_in_calendar daylight (Utc here) utc within e =
    let same : here ≡ utc = cc in
    let at : here.0 ≡ utc.0 = ap (λ (s : UtcSeconds). s.0) same in
    omega arith

utc_bound : (rec : Record) (utc : UtcSeconds) → utc_seconds rec ≡ done utc → utc.0 ≤ 3155759999
utc_bound (Dated layout status weekday on at) utc e =
    let had = done_after (count_of (Dated layout status weekday on at)) (λ counted. in_utc status.daylight counted) utc e in
    utc_in_calendar status.daylight had.0 utc (count_within _ had.0 had.1) had.2
utc_bound (TimeOnly layout at) utc e = let z : ◌≡◌ {A = ℕ} 0 1 = cc in absurd (omega arith)

pub counts_in_calendar : NoCountIsBehindTheCalendar
counts_in_calendar = ((λ rec count e. omega (arith, count_within rec count e)), utc_bound, shift_bound)

-- 00 comes behind 59:59 of any hour
full_hour : (at : Time) → at.minute ≡ 59 → ((time_after (at59 at)).minute ≡ 0) × ((time_after (at59 at)).second ≡ 0)
unfolding time_after
full_hour at minute = rw minute (go (ltb at.hour 23))
  where
    go : (more : Bool)
        → ((cond {A = Time} more (record { hour = at.hour + 1; minute = 0; second = 0 }) (record { hour = 0; minute = 0; second = 0 })).minute ≡ 0)
        × ((cond {A = Time} more (record { hour = at.hour + 1; minute = 0; second = 0 }) (record { hour = 0; minute = 0; second = 0 })).second ≡ 0)
    go true = (refl, refl)
    go false = (refl, refl)

pub sixty_goes_to_00 : ASixtyGoesTo00
unfolding next_second_of up_to59
sixty_goes_to_00 (Dated layout status weekday on at) none sixty =
    let g = good layout status weekday on at none in
    let t = sixty_means status on at (sixty_taken status on at g.time_allowed_law sixty) in
    let before =
    not_refused layout status weekday on (at59 at)
    (record {
      status_allowed_law = g.status_allowed_law;
      weekday_allowed_law = g.weekday_allowed_law;
      time_allowed_law = range_allowed status on (at59 at) (good_at_59 at t.minute t.hour);
      date_good = g.date_good;
      weekday_agrees_law = g.weekday_agrees_law;
    }) in
    (rw (none, before, sixty), (λ next e. let f = followed (Dated layout status weekday on at) next e in rw (← f.2) (go (is_last_second (up_to59 at)) (full_hour at t.minute))))
  where
    go : (last : Bool) → ((time_after (at59 at)).minute ≡ 0) × ((time_after (at59 at)).second ≡ 0)
        → ((time_of (cond last (Dated layout status (weekday_after weekday) (day_after on) (time_after (up_to59 at))) (Dated layout status weekday on (time_after (up_to59 at))))).minute ≡ 0)
        × ((time_of (cond last (Dated layout status (weekday_after weekday) (day_after on) (time_after (up_to59 at))) (Dated layout status weekday on (time_after (up_to59 at))))).second ≡ 0)
    go true full = rw sixty full
    go false full = rw sixty full
sixty_goes_to_00 (TimeOnly layout at) none sixty =
    let behind = behind_means at (alone_sixty at none sixty) in
    let before = range_alone (at59 at) (good_at_59 at behind.1.0 behind.1.1) in
    (rw (none, before, sixty), (λ next e. let f = followed (TimeOnly layout at) next e in rw (← f.2, sixty) (full_hour at behind.1.0)))
