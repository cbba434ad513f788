-- Laws of the time of day: the next second. Assumes nothing.
use mathlib.Core.Path.{◌≡◌, refl}
use mathlib.Core.Bool.{Bool, true, false, cond, and-false}
use Prim.Native.Nat.{ℕ, ◌+◌, ◌*◌, ◌≤◌, ◌<◌}
use native.Mathlib.Omega.{arith}
use lib.Dec.{ltb}
use borrow.Author.Tests.{le-leb, ltb-true, ltb-false, eq-eqb, ne_eqb, not-false}
use Rattle.refusals.proofs.Laws.{both, when_none}
use Rattle.calendar_rules.specs.TimeOfDay.{time_in_range, time_refusal, seconds_of, time_after, is_last_second}
use Rattle.calendar_rules.specs.declared.time.Time.{Time}
use Rattle.calendar_rules.proofs.Dates.{inside_both}

-- a time that the day has
pub record Good (time : Time) : Type 0 where
  pub to_hour : time.hour ≤ 23
  pub to_minute : time.minute ≤ 59
  pub to_second : time.second ≤ 59

pub good_range : (time : Time) → time_in_range time ≡ true → Good time
unfolding time_in_range
good_range time e =
    let hour = both _ _ e in
    let minute = both _ _ hour.1 in
    record {
      to_hour = (inside_both 0 _ _ hour.0).1;
      to_minute = (inside_both 0 _ _ minute.0).1;
      to_second = (inside_both 0 _ _ minute.1).1;
    }

pub good : (time : Time) → time_refusal time ≡ 0 → Good time
unfolding time_refusal
good time e = good_range time (not-false _ (when_none 5 _ e))

pub in_range : (time : Time) → Good time → time_in_range time ≡ true
unfolding time_in_range
in_range time g =
    simp (
      le-leb 0 time.hour (omega arith),
      le-leb 0 time.minute (omega arith),
      le-leb 0 time.second (omega arith),
      le-leb _ _ g.to_hour,
      le-leb _ _ g.to_minute,
      le-leb _ _ g.to_second,
    )

pub not_refused : (time : Time) → Good time → time_refusal time ≡ 0
unfolding time_refusal
not_refused time g = rw (in_range time g)

pub range_not_refused : (time : Time) → time_in_range time ≡ true → time_refusal time ≡ 0
unfolding time_refusal
range_not_refused time e = rw e

pub seconds_within : (time : Time) → Good time → seconds_of time < 86400
unfolding seconds_of
seconds_within time g = omega (arith, g)

-- The last second of a day, told by the tests that the next second goes by.
module _ (time : Time) where
  pub not_last_hour : time.hour < 23 → is_last_second time ≡ false
  unfolding is_last_second
  not_last_hour h = simp (ne_eqb time.hour 23 (omega arith))

  pub not_last_minute : time.minute < 59 → is_last_second time ≡ false
  unfolding is_last_second
  not_last_minute h = simp (ne_eqb time.minute 59 (omega arith), and-false)

  pub not_last_second : time.second < 59 → is_last_second time ≡ false
  unfolding is_last_second
  not_last_second h = simp (ne_eqb time.second 59 (omega arith), and-false)

  pub last_second : Good time → 23 ≤ time.hour → 59 ≤ time.minute → 59 ≤ time.second → is_last_second time ≡ true
  unfolding is_last_second
  last_second g h m s =
      simp
      (eq-eqb time.hour 23 (omega (arith, g)), eq-eqb time.minute 59 (omega (arith, g)), eq-eqb time.second 59 (omega (arith, g)))

-- The next second of a good time is good. It is one second on, or the first of the next day behind the last of this one.
abbrev pub days_carried : Bool → ℕ
days_carried carry = cond carry 1 0

pub record Follows (time next : Time) (carry : Bool) : Type 0 where
  pub good : Good next
  pub second : seconds_of next + 86400 * days_carried carry ≡ seconds_of time + 1

module _ (time : Time) (g : Good time) where
  pub time_after_law : Follows time (time_after time) (is_last_second time)
  unfolding time_after seconds_of
  time_after_law = seconds (ltb time.second 59) refl
    where
      hours : (t : Bool) → ltb time.hour 23 ≡ t → 59 ≤ time.minute → 59 ≤ time.second
          → Follows time (cond t (record { hour = time.hour + 1; minute = 0; second = 0 }) (record { hour = 0; minute = 0; second = 0 })) (is_last_second time)
      hours true e m s =
          let h = ltb-true time.hour 23 e in
          rw (not_last_hour time h)
          (record { good = record { to_hour = omega arith; to_minute = omega arith; to_second = omega arith }; second = omega (arith, g) })
      hours false e m s =
          let h = ltb-false time.hour 23 e in
          rw (last_second time g h m s)
          (record { good = record { to_hour = omega arith; to_minute = omega arith; to_second = omega arith }; second = omega (arith, g) })

      minutes : (t : Bool) → ltb time.minute 59 ≡ t → 59 ≤ time.second
          → Follows time
          (cond t (record { hour = time.hour; minute = time.minute + 1; second = 0 })
          (cond (ltb time.hour 23) (record { hour = time.hour + 1; minute = 0; second = 0 }) (record { hour = 0; minute = 0; second = 0 })))
          (is_last_second time)
      minutes true e s =
          let m = ltb-true time.minute 59 e in
          rw (not_last_minute time m)
          (record { good = record { to_hour = g.to_hour; to_minute = omega arith; to_second = omega arith }; second = omega (arith, g) })
      minutes false e s = hours (ltb time.hour 23) refl (ltb-false _ _ e) s

      seconds : (t : Bool) → ltb time.second 59 ≡ t
          → Follows time
          (cond t (record { hour = time.hour; minute = time.minute; second = time.second + 1 })
          (cond (ltb time.minute 59) (record { hour = time.hour; minute = time.minute + 1; second = 0 })
          (cond (ltb time.hour 23) (record { hour = time.hour + 1; minute = 0; second = 0 }) (record { hour = 0; minute = 0; second = 0 }))))
          (is_last_second time)
      seconds true e =
          let s = ltb-true time.second 59 e in
          rw (not_last_second time s)
          (record { good = record { to_hour = g.to_hour; to_minute = g.to_minute; to_second = omega arith }; second = omega (arith, g) })
      seconds false e = minutes (ltb time.minute 59) refl (ltb-false _ _ e)
