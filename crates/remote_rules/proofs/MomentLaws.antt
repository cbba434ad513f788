-- What the rule for a record says of the time that a TIM carries. Assumes nothing.
use mathlib.Core.Path.{◌≡◌, refl}
use mathlib.Core.Bool.{Bool, true, false, not, ◌&&◌, or-false, and-false}
use Prim.Native.Nat.{ℕ, ◌≤◌, ◌<◌}
use native.Mathlib.Omega.{arith}
use borrow.Author.Tests.{lt-leb, ne_eqb}
use Rattle.refusals.specs.Refusals.{◌when◌, ◌else◌, lower}
use Rattle.calendar_rules.specs.Calendar.{date_in_range, day_exists}
use Rattle.calendar_rules.specs.TimeOfDay.{time_in_range}
use Rattle.record_rules.specs.declared.DatedLayout.TheVariants.{L6021}
use Rattle.record_rules.specs.declared.Reception.TheVariants.{Radio}
use Rattle.record_rules.specs.declared.Status.{Status}
use Rattle.record_rules.specs.Sixty.{sixty_behind59, takes_sixty}
use Rattle.record_rules.specs.Rule.{status_allowed, weekday_allowed, weekday_agrees, time_allowed, dated_refusal}
use Rattle.remote_rules.specs.declared.Moment.{Moment}
use Rattle.remote_rules.specs.Rule.{moment_refusal}

-- a status that a 6021 may have: it may have any
abbrev pub standard : Status
standard = record { reception = Radio; daylight = false; utc = false; announced = false }

-- the same time in a 6021
abbrev pub as6021 : Moment → ℕ
as6021 moment = dated_refusal L6021 standard moment.weekday moment.date moment.time

module _ (moment : Moment) where
  -- to 59 no second is 60, and the rules are one
  pub to_59 : moment.time.second ≤ 59 → as6021 moment ≡ moment_refusal moment
  unfolding dated_refusal moment_refusal status_allowed time_allowed takes_sixty sixty_behind59
  to_59 h = rw (ne_eqb moment.time.second 60 (λ e. omega arith), or-false (time_in_range moment.time))

  late : 59 < moment.time.second → time_in_range moment.time ≡ false
  unfolding time_in_range
  late h = simp (lt-leb moment.time.second 59 h, and-false)

  -- above it 6 is given but for a 5, whether a 6021 may have this second 60 or not
  pub above_59 : 59 < moment.time.second → lower (as6021 moment) 6 ≡ moment_refusal moment
  unfolding dated_refusal moment_refusal status_allowed
  above_59 h =
      let range = time_allowed standard moment.date moment.time && date_in_range moment.date in
      rw (late h)
      (lowest (weekday_allowed moment.weekday) range (day_exists moment.date) (weekday_agrees moment.weekday moment.date))
    where
      lowest : (weekday range day agrees : Bool)
          → lower (5 when not weekday else 6 when not range else 7 when not day else 8 when not agrees) 6 ≡ (5 when not weekday else 6)
      lowest false range day agrees = refl
      lowest true false day agrees = refl
      lowest true true false agrees = refl
      lowest true true true false = refl
      lowest true true true true = refl
