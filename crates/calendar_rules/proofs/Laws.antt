-- The laws of the calendar that document 01 implies, over the definitions that the contracts cite. Assumes nothing.
use mathlib.Core.Path.{◌≡◌, ap, sym, ◌∙◌}
use Prim.Native.Nat.{ℕ, ◌+◌, ◌%◌, ◌≤◌, ◌<◌}
use native.Mathlib.Omega.{arith}
use lib.Dec.{leb}
use borrow.Author.Tests.{lt-leb, leb-false}
use Rattle.refusals.proofs.Laws.{was_done, does, when_none, else_none}
use Rattle.refusals.specs.Refusals.{◌when◌, ◌else◌, done}
use Rattle.calendar_rules.specs.Calendar.{date_refusal, day_of, day_number, date_at, date_of, weekday_of, is_last_day, day_after, next_day}
use Rattle.calendar_rules.specs.RoundTrip.{ADateComesBackFromItsDayNumber, ADayNumberComesBackFromItsDate, TheNextDayHasTheNextNumber}
use Rattle.calendar_rules.specs.TimeOfDay.{time_refusal, seconds_of, second_of_day}
use Rattle.calendar_rules.specs.declared.date.Date.{Date}
use Rattle.calendar_rules.specs.declared.time.Time.{Time}
use Rattle.calendar_rules.proofs.Months.{held}
use Rattle.calendar_rules.proofs.Dates.{good, not_refused, day_within, date_at_day, good_at, day_of_date_at, day_after_law}
use Rattle.calendar_rules.proofs.Times.{good as time_good, seconds_within}

pub date_of_day_number : ADateComesBackFromItsDayNumber
unfolding day_number date_of
date_of_day_number date day e =
    let told = was_done (date_refusal date) (day_of date) day e in
    let g = good date told.0 in
    let within : day < 36525 = rw told.1 at (day_within date g) in
    does (date_at day) (rw (lt-leb 36525 day within)) ∙ ap done (ap date_at (sym told.1) ∙ date_at_day date g)

pub day_number_of_date : ADayNumberComesBackFromItsDate
unfolding day_number date_of
day_number_of_date day date e =
    let told = was_done (12 when leb 36525 day) (date_at day) date e in
    let h = held day (leb-false 36525 day (when_none 11 _ told.0)) in
    rw (← told.1) (does (day_of (date_at day)) (not_refused (date_at day) (good_at day h)) ∙ ap done (day_of_date_at day h))

-- a day number lies within the calendar, and the second of the day within the day
pub day_number_bound : (date : Date) (day : ℕ) → day_number date ≡ done day → day < 36525
unfolding day_number
day_number_bound date day e =
    let told = was_done (date_refusal date) (day_of date) day e in
    rw told.1 at (day_within date (good date told.0))

pub second_bound : (time : Time) (second : ℕ) → second_of_day time ≡ done second → second < 86400
unfolding second_of_day
second_bound time second e =
    let told = was_done (time_refusal time) (seconds_of time) second e in
    rw told.1 at (seconds_within time (time_good time told.0))

-- every day of the calendar has a date, and no other day has one
pub in_calendar : (day : ℕ) → day < 36525 → date_of day ≡ done (date_at day)
unfolding date_of
in_calendar day within = does (date_at day) (rw (lt-leb 36525 day within))

pub next_day_is_next : TheNextDayHasTheNextNumber
unfolding day_number next_day
next_day_is_next date next day e f =
    let told = was_done (date_refusal date else 12 when is_last_day date) (day_after date) next e in
    let parts = else_none (date_refusal date) (12 when is_last_day date) told.0 in
    let after = day_after_law date (good date parts.0) (when_none 11 _ parts.1) in
    let here = (was_done (date_refusal date) (day_of date) day f).1 in
    rw (← told.1)
    (does (day_of (day_after date)) (not_refused (day_after date) after.good) ∙ ap done (after.number ∙ ap (λ n. n + 1) here))

-- weekdays go round
pub weekday_next : (day : ℕ) → weekday_of (day + 1) ≡ weekday_of day % 7 + 1
weekday_next day = omega arith

pub weekday_after_a_week : (day : ℕ) → weekday_of (day + 7) ≡ weekday_of day
weekday_after_a_week day = omega arith

pub weekday_1_to_7 : (day : ℕ) → (1 ≤ weekday_of day) × (weekday_of day ≤ 7)
weekday_1_to_7 day = omega arith
