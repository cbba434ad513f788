-- Laws of the count of a record's seconds and of its UTC seconds. Assumes nothing.
use mathlib.Core.Path.{◌≡◌, refl, ap, sym, ◌∙◌}
use mathlib.Core.Bool.{Bool, true, false, not, cond, ◌&&◌, ◌||◌}
use Prim.Native.Nat.{ℕ, zero, suc, ◌+◌, ◌-◌, ◌*◌, ◌<◌, ◌≤◌}
use native.Mathlib.Omega.{arith}
use lib.Dec.{ltb}
use borrow.Author.Tests.{ltb-false, le-ltb, lt-leb, eqb-true}
use Rattle.refusals.specs.Refusals.{◌when◌, ◌else◌, Outcome, done, refused, unless, after}
use Rattle.refusals.proofs.Laws.{was_done, does, when_none, both}
use Rattle.calendar_rules.specs.Calendar.{day_of}
use Rattle.calendar_rules.specs.TimeOfDay.{time_in_range, seconds_of, time_after}
use Rattle.calendar_rules.specs.declared.date.Date.{Date}
use Rattle.calendar_rules.specs.declared.time.Time.{Time}
use Rattle.calendar_rules.proofs.Dates.{good as date_good, day_within}
use Rattle.calendar_rules.proofs.Times.{good_range, seconds_within}
use Rattle.record_rules.specs.declared.DatedLayout.{DatedLayout}
use Rattle.record_rules.specs.declared.TimeLayout.{TimeLayout}
use Rattle.record_rules.specs.declared.Status.{Status}
use Rattle.record_rules.specs.declared.Record.{Record}
use Rattle.record_rules.specs.declared.Record.TheVariants.{Dated, TimeOnly}
use Rattle.record_rules.specs.declared.season.UtcSeconds.{UtcSeconds}
use Rattle.record_rules.specs.declared.season.Count.{Count}
use Rattle.record_rules.specs.declared.season.Count.TheVariants.{Local, Utc}
use Rattle.record_rules.specs.Season.{seconds_later, seconds_in, calendar_seconds, season_shift, is_outside, to_utc}
use Rattle.record_rules.specs.Moment.{as_marked, in_utc}
use Rattle.record_rules.specs.Sixty.{is_sixty, up_to59}
use Rattle.record_rules.specs.Rule.{dated_refusal, time_alone_refusal, refusal_of, is60}
use Rattle.record_rules.specs.Next.{record_after, is_last_of_calendar, next_second_of}
use Rattle.record_rules.specs.Utc.{numbered_as, none_follows, own_seconds, count_of, utc_seconds}
use Rattle.record_rules.proofs.RuleLaws.{good, good_up_to_59}
use Rattle.record_rules.proofs.NextLaws.{moment_is, followed, dated_follows, next_good, next_no_sixty}

-- what was done one after the other
pub done_after : {A B : Type 0} (first : Outcome A) (next : A → Outcome B) (result : B) → after first next ≡ done result
    → (value : A) × (first ≡ done value) × (next value ≡ done result)
done_after (done value) next result e = (value, refl, e)
done_after (refused n) next result e = let z : ◌≡◌ {A = ℕ} 0 1 = cc in absurd (omega arith)

-- The time up to 59 of a second 60 is a second before it, and of any other time it is that time.
module _ (time : Time) where
  pub sixty_second : is_sixty time ≡ true → seconds_of (up_to59 time) + 1 ≡ seconds_of time
  unfolding up_to59 seconds_of
  sixty_second e = let second : time.second ≡ 60 = eqb-true _ _ e in rw e (omega arith)

  pub plain_time : is_sixty time ≡ false → up_to59 time ≡ time
  unfolding up_to59
  plain_time e = rw e

-- Whose number a record has.
pub own_number : (rec : Record) → refusal_of rec ≡ 0 → is60 rec ≡ false → count_of rec ≡ own_seconds rec
unfolding numbered_as
own_number rec none plain = rw (plain, does rec none)

pub followers_number : (rec : Record) (outcome : Outcome Record) → is60 rec ≡ true → next_second_of rec ≡ outcome → count_of rec ≡ after outcome own_seconds
unfolding numbered_as
followers_number rec outcome sixty e = rw (sixty, e)

pub next_number : (rec next : Record) → next_second_of rec ≡ done next → count_of next ≡ own_seconds next
next_number rec next e = own_number next (next_good rec next e) (next_no_sixty rec next e)

-- a record with no date has no count
pub time_count : (layout : TimeLayout) (time : Time) → count_of (TimeOnly layout time) ≡ refused (time_alone_refusal time else 14)
unfolding numbered_as next_second_of unless
time_count layout time = go (is_sixty time) (time_alone_refusal time)
  where
    go : (sixty : Bool) (n : ℕ)
        → after (cond sixty (unless (n else 12 when false) (TimeOnly layout (time_after (up_to59 time)))) (unless n (TimeOnly layout time))) own_seconds
        ≡ refused (n else 14)
    go true zero = refl
    go true (suc n) = refl
    go false zero = refl
    go false (suc n) = refl

pub time_has_no_count : (layout : TimeLayout) (time : Time) (count : Count) → count_of (TimeOnly layout time) ≡ done count → ⊥
time_has_no_count layout time count e =
    let no = sym (time_count layout time) ∙ e in
    let z : ◌≡◌ {A = ℕ} 0 1 = cc in absurd (omega arith)

-- seconds that are marked are counted as they are, and later as they are later
pub marked_in : (utc : Bool) (seconds : ℕ) → seconds_in (as_marked utc seconds) ≡ seconds
marked_in true seconds = refl
marked_in false seconds = refl

marked_later : (utc : Bool) (seconds n : ℕ) → as_marked utc (seconds + n) ≡ seconds_later n (as_marked utc seconds)
marked_later true seconds n = refl
marked_later false seconds n = refl

-- later by none, by more than before, and by how much
pub none_later : (count : Count) → seconds_later 0 count ≡ count
none_later (Local local) = let same : local.0 + 0 ≡ local.0 = omega arith in λ i. Local (record { 0 = same i })
none_later (Utc utc) = let same : utc.0 + 0 ≡ utc.0 = omega arith in λ i. Utc (record { 0 = same i })

pub later_still : (count : Count) (n m : ℕ) → seconds_later m (seconds_later n count) ≡ seconds_later (n + m) count
later_still (Local local) n m = let more : local.0 + n + m ≡ local.0 + (n + m) = omega arith in λ i. Local (record { 0 = more i })
later_still (Utc utc) n m = let more : utc.0 + n + m ≡ utc.0 + (n + m) = omega arith in λ i. Utc (record { 0 = more i })

pub seconds_in_later : (count : Count) (n : ℕ) → seconds_in (seconds_later n count) ≡ seconds_in count + n
seconds_in_later (Local local) n = refl
seconds_in_later (Utc utc) n = refl

-- A good record with a date counts the seconds of its day and its time, a second 60 like any other, unless it is a 60 behind which there is no second.
module _ (layout : DatedLayout) (status : Status) (weekday : ℕ) (date : Date) (time : Time)
    (none : dated_refusal layout status weekday date time ≡ 0) where
  pub record Counted : Type 0 where
    pub counts : count_of (Dated layout status weekday date time) ≡ done (as_marked status.utc (86400 * day_of date + seconds_of time))
    pub within : 86400 * day_of date + seconds_of time < calendar_seconds

  -- its own number
  plain_counted : is_sixty time ≡ false → Counted
  plain_counted plain =
      let g = good layout status weekday date time none in
      let range : time_in_range time ≡ true = rw (plain_time time plain) at (good_up_to_59 layout status weekday date time g) in
      record {
        counts = own_number (Dated layout status weekday date time) none plain ∙ moment_is status.utc date time g.date_good range;
        within = omega (arith, seconds_within time (good_range time range), day_within date (date_good date g.date_good));
      }

  -- that of the second that follows
  sixty_counted : is_sixty time ≡ true → (next : Record) → next_second_of (Dated layout status weekday date time) ≡ done next → Counted
  sixty_counted sixty next e =
      let a = dated_follows layout status weekday date time next e in
      let same : 86400 * day_of date + seconds_of (up_to59 time) + 1 ≡ 86400 * day_of date + seconds_of time = omega (arith, sixty_second time sixty) in
      record {
        counts = followers_number (Dated layout status weekday date time) (done next) sixty e ∙ a.second ∙ ap (λ n. done (as_marked status.utc n)) same;
        within = omega (arith, same, a.within);
      }

  pub has_number : none_follows (Dated layout status weekday date time) ≡ false → Counted
  unfolding next_second_of
  has_number more = go (is_sixty time) refl more
    where
      go : (sixty : Bool) → is_sixty time ≡ sixty → (sixty && is_last_of_calendar (Dated layout status weekday date time)) ≡ false → Counted
      go true sixty more = sixty_counted sixty _ (does _ (rw (none, more)))
      go false sixty more = plain_counted sixty

  pub has_no_number : none_follows (Dated layout status weekday date time) ≡ true → count_of (Dated layout status weekday date time) ≡ refused 12
  unfolding next_second_of unless
  has_no_number last =
      let parts = both (is_sixty time) _ last in
      followers_number (Dated layout status weekday date time) (refused 12) parts.0 (rw (none, parts.1))

-- A record that has a count carries a date and is good, and counts the seconds of its day and its time.
pub record Placed (rec : Record) (count : Count) : Type 0 where
  pub layout : DatedLayout
  pub status : Status
  pub weekday : ℕ
  pub date : Date
  pub time : Time
  pub is : rec ≡ Dated layout status weekday date time
  pub none : dated_refusal layout status weekday date time ≡ 0
  pub counted : as_marked status.utc (86400 * day_of date + seconds_of time) ≡ count
  pub within : 86400 * day_of date + seconds_of time < calendar_seconds

-- a record that has a number is good
numbered_good : (rec own : Record) → numbered_as rec ≡ done own → refusal_of rec ≡ 0
unfolding numbered_as
numbered_good rec own e = go (is60 rec) e
  where
    go : (sixty : Bool) → cond sixty (next_second_of rec) (unless (refusal_of rec) rec) ≡ done own → refusal_of rec ≡ 0
    go true e = (followed rec own e).0
    go false e = (was_done (refusal_of rec) rec own e).0

pub counted_good : (rec : Record) (count : Count) → count_of rec ≡ done count → refusal_of rec ≡ 0
counted_good rec count e = let n = done_after (numbered_as rec) own_seconds count e in numbered_good rec n.0 n.1

pub placed : (rec : Record) (count : Count) → count_of rec ≡ done count → Placed rec count
placed (Dated layout status weekday date time) count e = go (none_follows (Dated layout status weekday date time)) refl
  where
    none : dated_refusal layout status weekday date time ≡ 0
    none = counted_good (Dated layout status weekday date time) count e

    go : (last : Bool) → none_follows (Dated layout status weekday date time) ≡ last → Placed (Dated layout status weekday date time) count
    go true last =
        let twelve = sym (has_no_number layout status weekday date time none last) ∙ e in
        let z : ◌≡◌ {A = ℕ} 0 1 = cc in absurd (omega arith)
    go false more =
        let c = has_number layout status weekday date time none more in
        let here = sym c.counts ∙ e in
        record {
          layout = layout;
          status = status;
          weekday = weekday;
          date = date;
          time = time;
          is = refl;
          none = none;
          counted = cc;
          within = c.within;
        }
placed (TimeOnly layout time) count e = absurd (time_has_no_count layout time count e)

pub placed_seconds : {rec : Record} {count : Count} (p : Placed rec count) → 86400 * day_of p.date + seconds_of p.time ≡ seconds_in count
placed_seconds p = sym (marked_in p.status.utc _) ∙ ap seconds_in p.counted

-- it lies in the calendar
pub count_within : (rec : Record) (count : Count) → count_of rec ≡ done count → seconds_in count < calendar_seconds
count_within rec count e = let p = placed rec count e in omega (arith, placed_seconds p, p.within)

-- UTC seconds go by the count
pub utc_refused : (rec : Record) (number : ℕ) → count_of rec ≡ refused number → refused number ≡ utc_seconds rec
utc_refused (Dated layout status weekday date time) number e = rw e
utc_refused (TimeOnly layout time) number e =
    let same = sym e ∙ time_count layout time in
    let number_is : number ≡ (time_alone_refusal time else 14) = cc in ap refused number_is

pub utc_of_count : (layout : DatedLayout) (status : Status) (weekday : ℕ) (date : Date) (time : Time) (count : Count)
    → count_of (Dated layout status weekday date time) ≡ done count
    → in_utc status.daylight count ≡ utc_seconds (Dated layout status weekday date time)
utc_of_count layout status weekday date time count e = rw e

-- a record that has UTC seconds has a count
pub had_count : (rec : Record) (utc : UtcSeconds) → utc_seconds rec ≡ done utc → (count : Count) × (count_of rec ≡ done count)
had_count (Dated layout status weekday date time) utc e =
    let had = done_after (count_of (Dated layout status weekday date time)) (λ counted. in_utc status.daylight counted) utc e in
    (had.0, had.1)
had_count (TimeOnly layout time) utc e = let z : ◌≡◌ {A = ℕ} 0 1 = cc in absurd (omega arith)

-- the next second of a record with a date, but a second 60, is one second later, local or UTC as it was
pub plain_later : (rec next : Record) (count : Count) → is60 rec ≡ false → next_second_of rec ≡ done next → count_of rec ≡ done count
    → count_of next ≡ done (seconds_later 1 count)
plain_later (Dated layout status weekday date time) next count plain e f =
    let a = dated_follows layout status weekday date time next e in
    let c = plain_counted layout status weekday date time (followed _ next e).0 plain in
    let here : as_marked status.utc (86400 * day_of date + seconds_of time) ≡ count = let same = sym c.counts ∙ f in cc in
    next_number (Dated layout status weekday date time) next e
    ∙ (rw (plain_time time plain) at a.second)
    ∙ ap done (marked_later status.utc (86400 * day_of date + seconds_of time) 1 ∙ ap (seconds_later 1) here)
plain_later (TimeOnly layout time) next count plain e f = absurd (time_has_no_count layout time count f)

pub neither : (a b : Bool) → (a || b) ≡ false → (a ≡ false) × (b ≡ false)
neither true b e = let z : ◌≡◌ {A = ℕ} 0 1 = cc in absurd (omega arith)
neither false b e = (refl, e)

-- so many seconds later, while the count stays in the calendar, UTC is as many seconds later
pub utc_later : (daylight : Bool) (count : Count) (utc : UtcSeconds) (n : ℕ) → seconds_in count + n < calendar_seconds
    → in_utc daylight count ≡ done utc → in_utc daylight (seconds_later n count) ≡ done (record { 0 = utc.0 + n })
unfolding to_utc
utc_later daylight (Local local) utc n within e =
    let told = was_done (12 when is_outside local daylight) (record { 0 = local.0 - season_shift daylight }) utc e in
    let inside = neither (ltb local.0 (season_shift daylight)) _ (when_none 11 _ told.0) in
    let from : season_shift daylight ≤ local.0 = ltb-false _ _ inside.0 in
    let at : local.0 - season_shift daylight ≡ utc.0 = ap (λ s. s.0) told.1 in
    let later : local.0 + n - season_shift daylight ≡ utc.0 + n = omega arith in
    does _ (rw (le-ltb (local.0 + n) (season_shift daylight) (omega arith), lt-leb calendar_seconds (local.0 + n - season_shift daylight) (omega arith)))
    ∙ ap done (λ i. record { 0 = later i })
utc_later daylight (Utc here) utc n within e = let same : here ≡ utc = cc in ap (λ (s : UtcSeconds). done (record { 0 = s.0 + n })) same

-- a record that the rule refuses is refused with the same number in its count
pub refused_count : (rec : Record) (n : ℕ) → refusal_of rec ≡ suc n → count_of rec ≡ refused (suc n)
unfolding numbered_as next_second_of unless
refused_count rec n e = go (is60 rec)
  where
    go : (sixty : Bool) → after (cond sixty (unless (refusal_of rec else 12 when is_last_of_calendar rec) (record_after rec)) (unless (refusal_of rec) rec)) own_seconds ≡ refused (suc n)
    go true = rw e
    go false = rw e

-- The number is the lowest that holds: 5 to 8 by the record's own rule, then 12.
module _ (layout : DatedLayout) (status : Status) (weekday : ℕ) (date : Date) (time : Time) where
  abbrev seconds : ℕ
  seconds = 86400 * day_of date + seconds_of time

  abbrev shift : ℕ
  shift = season_shift status.daylight

  pub count_lowest_first : count_of (Dated layout status weekday date time)
      ≡ unless (dated_refusal layout status weekday date time else 12 when none_follows (Dated layout status weekday date time))
      (as_marked status.utc (86400 * day_of date + seconds_of time))
  unfolding unless
  count_lowest_first = go (dated_refusal layout status weekday date time) refl (none_follows (Dated layout status weekday date time)) refl
    where
      go : (n : ℕ) → dated_refusal layout status weekday date time ≡ n → (last : Bool) → none_follows (Dated layout status weekday date time) ≡ last
          → count_of (Dated layout status weekday date time) ≡ unless (n else 12 when last) (as_marked status.utc seconds)
      go zero none true last = has_no_number layout status weekday date time none last
      go zero none false more = (has_number layout status weekday date time none more).counts
      go (suc n) some last is = refused_count (Dated layout status weekday date time) n some

  pub utc_lowest_first : after (utc_seconds (Dated layout status weekday date time)) (λ _. done tt)
      ≡ unless {A = Unit {0}}
      (dated_refusal layout status weekday date time
      else 12 when (none_follows (Dated layout status weekday date time)
      || not status.utc && ltb (86400 * day_of date + seconds_of time) (season_shift status.daylight))) tt
  unfolding unless to_utc
  utc_lowest_first =
      ap (λ o. after {B = Unit {0}} (after o (λ count. in_utc status.daylight count)) (λ _. done tt)) count_lowest_first
      ∙ go (dated_refusal layout status weekday date time) refl (none_follows (Dated layout status weekday date time)) refl
    where
      early : (before : Bool) → after (unless (12 when (before || false)) (record { 0 = seconds - shift })) (λ (utc : UtcSeconds). done tt) ≡ unless {A = Unit {0}} (12 when before) tt
      early true = refl
      early false = refl

      shifted : (utc : Bool) → seconds < calendar_seconds
          → after (in_utc status.daylight (as_marked utc seconds)) (λ _. done tt) ≡ unless {A = Unit {0}} (12 when (not utc && ltb seconds shift)) tt
      shifted true within = refl
      shifted false within = rw (lt-leb calendar_seconds (seconds - shift) (omega arith)) (early (ltb seconds shift))

      go : (n : ℕ) → dated_refusal layout status weekday date time ≡ n → (last : Bool) → none_follows (Dated layout status weekday date time) ≡ last
          → after (after (unless (n else 12 when last) (as_marked status.utc seconds)) (λ count. in_utc status.daylight count)) (λ _. done tt)
          ≡ unless {A = Unit {0}} (n else 12 when (last || not status.utc && ltb seconds shift)) tt
      go zero none true last = refl
      go zero none false more = shifted status.utc (has_number layout status weekday date time none more).within
      go (suc n) some last is = refl
