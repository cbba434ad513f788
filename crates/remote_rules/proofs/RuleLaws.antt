-- Laws of the rules for a command: what the fields of a good one are. Assumes nothing.
use mathlib.Core.Path.{◌≡◌, refl}
use mathlib.Core.Bool.{Bool, true, false, not, ◌&&◌, ◌||◌}
use Prim.Native.Nat.{ℕ, ◌≤◌}
use native.Mathlib.Omega.{arith}
use lib.Dec.{leb, ltb, eqb}
use lib.IntN.{ℤ}
use borrow.Author.Tests.{not-false, leb-true, ltb-true, ltb-false, eqb-true}
use Rattle.refusals.specs.Refusals.{◌when◌}
use Rattle.refusals.proofs.Laws.{both, when_none, else_none}
use Rattle.calendar_rules.specs.Calendar.{date_in_range, day_exists, date_refusal}
use Rattle.calendar_rules.specs.TimeOfDay.{time_in_range}
use Rattle.calendar_rules.proofs.Dates as dates
use Rattle.calendar_rules.proofs.Months.{month_28_to_31}
use Rattle.calendar_rules.proofs.Times as times
use Rattle.record_rules.specs.Rule.{weekday_allowed}
use Rattle.minutes.specs.Minutes.{size_of, within12_hours}
use Rattle.remote_rules.specs.declared.Moment.{Moment}
use Rattle.remote_rules.specs.declared.Angle.{Angle}
use Rattle.remote_rules.specs.declared.Position.{Position}
use Rattle.remote_rules.specs.Rule.{status_refusal, moment_refusal, angle_in_range, position_in_range}

pub status_small : (status : ℕ) → status_refusal status ≡ 0 → status ≤ 255
unfolding status_refusal
status_small status none = ltb-false 255 status (when_none 4 _ none)

pub record GoodMoment (moment : Moment) : Type 0 where
  pub from_weekday : 1 ≤ moment.weekday
  pub to_weekday : moment.weekday ≤ 7
  pub time_good : times.Good moment.time
  pub date_good : dates.Good moment.date

pub good_moment : (moment : Moment) → moment_refusal moment ≡ 0 → GoodMoment moment
unfolding moment_refusal weekday_allowed date_refusal
good_moment moment none =
    let five = else_none (5 when not (weekday_allowed moment.weekday)) _ none in
    let six = else_none (6 when not (time_in_range moment.time && date_in_range moment.date)) _ five.1 in
    let seven = else_none (7 when not (day_exists moment.date)) _ six.1 in
    let weekday = dates.inside_both 1 moment.weekday 7 (not-false _ (when_none 4 _ five.0)) in
    let range = both (time_in_range moment.time) (date_in_range moment.date) (not-false _ (when_none 5 _ six.0)) in
    let exists : day_exists moment.date ≡ true = not-false _ (when_none 6 _ seven.0) in
    record {
      from_weekday = weekday.0;
      to_weekday = weekday.1;
      time_good = times.good_range moment.time range.0;
      date_good = dates.good moment.date (rw (range.1, exists));
    }

pub day_of_month : (moment : Moment) → GoodMoment moment → moment.date.day ≤ 31
day_of_month moment g = omega (arith, g.date_good.to_day, (month_28_to_31 moment.date.year moment.date.month).1)

pub record GoodAngle (top : ℕ) (angle : Angle) : Type 0 where
  pub to_degrees : angle.degrees ≤ top
  pub to_minutes : angle.minutes ≤ 59
  pub to_fraction : angle.fraction ≤ 99

pub good_angle : (top : ℕ) (angle : Angle) → angle_in_range top angle ≡ true → GoodAngle top angle
unfolding angle_in_range
good_angle top angle = go (ltb angle.degrees top && (leb angle.minutes 59 && leb angle.fraction 99)) refl
  where
    go : (t : Bool) → (ltb angle.degrees top && (leb angle.minutes 59 && leb angle.fraction 99)) ≡ t
        → (t || (eqb angle.degrees top && (eqb angle.minutes 0 && eqb angle.fraction 0))) ≡ true → GoodAngle top angle
    go true inside e =
        let parts = both _ _ inside in
        let smaller = both _ _ parts.1 in
        let degrees = ltb-true angle.degrees top parts.0 in
        record { to_degrees = omega arith; to_minutes = leb-true _ _ smaller.0; to_fraction = leb-true _ _ smaller.1 }
    go false inside e =
        let parts = both _ _ e in
        let smaller = both _ _ parts.1 in
        let degrees = eqb-true angle.degrees top parts.0 in
        let minutes = eqb-true angle.minutes 0 smaller.0 in
        let fraction = eqb-true angle.fraction 0 smaller.1 in
        record { to_degrees = omega arith; to_minutes = omega arith; to_fraction = omega arith }

pub record GoodPosition (position : Position) : Type 0 where
  pub longitude : GoodAngle 180 position.longitude
  pub latitude : GoodAngle 90 position.latitude

pub good_position : (position : Position) → 6 when not (position_in_range position) ≡ 0 → GoodPosition position
unfolding position_in_range
good_position position none =
    let parts = both _ _ (not-false _ (when_none 5 _ none)) in
    record { longitude = good_angle 180 position.longitude parts.0; latitude = good_angle 90 position.latitude parts.1 }

pub difference_small : (difference : ℤ) → 6 when not (within12_hours difference) ≡ 0 → size_of difference ≤ 720
difference_small difference none = leb-true (size_of difference) 720 (not-false _ (when_none 5 _ none))
