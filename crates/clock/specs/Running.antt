-- Document 01, "Calendar, UTC and the station clock", and document 02, b: a clock that runs, what its steps add, and what they keep.
use Rattle.std.specs.Prelude.{◌≡◌, true, false, ℕ, zero, suc, ◌+◌, ◌<◌}
use Rattle.refusals.specs.Refusals.{done, refused}
use Rattle.calendar_rules.specs.Literals.{date, time}
use Rattle.record_rules.specs.declared.DatedLayout.{DatedLayout}
use Rattle.record_rules.specs.declared.TimeLayout.{TimeLayout}
use Rattle.record_rules.specs.declared.Status.{Status}
use Rattle.record_rules.specs.declared.Record.{Record}
use Rattle.record_rules.specs.declared.Record.TheVariants.{Dated, TimeOnly}
use Rattle.record_rules.specs.declared.season.UtcSeconds.{UtcSeconds}
use Rattle.record_rules.specs.declared.season.Count.{Count}
use Rattle.record_rules.specs.Season.{seconds_later, seconds_in, calendar_seconds}
use Rattle.record_rules.specs.Rule.{status_allowed, is60}
use Rattle.record_rules.specs.Utc.{count_of, utc_seconds}
use Rattle.record_rules.specs.Following.{seconds_on}
use Rattle.clock.specs.declared.Clock.{Clock}
use Rattle.clock.specs.Stepping.{made, step_of}

-- "the station clock is stepped by one second": up to the calendar's last second the step is made, and adds one second to the count,
-- but from a second 60 none, whose number its follower shares
abbrev pub AStepAddsOneSecond : Type 0
AStepAddsOneSecond =
    (clock : Clock) (count : Count) → count_of clock.rec ≡ done count → seconds_in count + seconds_on clock.rec < calendar_seconds
    → ((step_of clock).answer ≡ made) × (count_of (step_of clock).clock.rec ≡ done (seconds_later (seconds_on clock.rec) count))

-- "12 after 31.12.2079 23:59:59"
abbrev pub TheLastSecondGives12 : Type 0
TheLastSecondGives12 =
    (clock : Clock) (count : Count) → count_of clock.rec ≡ done count → seconds_in count + seconds_on clock.rec ≡ calendar_seconds
    → (step_of clock).answer ≡ refused 12

-- "with 12 after 31.12.2079 23:59:60 too"
abbrev pub TheLastSixtyGives12 : Type 0
TheLastSixtyGives12 =
    (clock : Clock) (layout : DatedLayout) (status : Status) → status.utc ≡ true → status_allowed layout status ≡ true
    → clock.rec ≡ Dated layout status 7 (date 2079 12 31) (time 23 59 60) → (step_of clock).answer ≡ refused 12

-- "neither makes a 60 by itself": a clock that a step has moved
abbrev pub NoStepMakesASixty : Type 0
NoStepMakesASixty = (clock : Clock) → (step_of clock).answer ≡ made → is60 (step_of clock).clock.rec ≡ false

-- "refused with 5 to 8, 12 or 14 it is unchanged"
abbrev pub ARefusedClockIsUnchanged : Type 0
ARefusedClockIsUnchanged =
    (clock : Clock) (n : ℕ) → (step_of clock).answer ≡ refused n → (step_of clock).clock ≡ clock

-- a clock that was stepped so many times
unfoldable pub stepped : ℕ → Clock → Clock
stepped zero clock = clock
stepped (suc n) clock = (step_of (stepped n clock)).clock

-- so many steps, each of which is made
abbrev pub EachIsMade : ℕ → Clock → Type 0
EachIsMade n clock = (k : ℕ) → k < n → (step_of (stepped k clock)).answer ≡ made

-- how many seconds so many steps add: the first what its record goes on by, each other one, as no step makes a 60
abbrev pub seconds_of_steps : ℕ → Record → ℕ
seconds_of_steps zero rec = 0
seconds_of_steps (suc n) rec = seconds_on rec + n

-- n steps that end in the calendar are made, each of them, and add their seconds to the count
abbrev pub StepsAddAsManySeconds : Type 0
StepsAddAsManySeconds =
    (clock : Clock) (count : Count) (n : ℕ) → count_of clock.rec ≡ done count → seconds_in count + seconds_of_steps n clock.rec < calendar_seconds
    → EachIsMade n clock × (count_of (stepped n clock).rec ≡ done (seconds_later (seconds_of_steps n clock.rec) count))

-- n steps that are made add their UTC seconds
abbrev pub StepsAddAsManyUtcSeconds : Type 0
StepsAddAsManyUtcSeconds =
    (clock : Clock) (utc : UtcSeconds) (n : ℕ) → utc_seconds clock.rec ≡ done utc → EachIsMade n clock
    → utc_seconds (stepped n clock).rec ≡ done (record { 0 = utc.0 + seconds_of_steps n clock.rec })

-- what a record says beside its time, date and weekday. The season stands in the status
pub data Lasting : Type 0 where
  dated : DatedLayout → Status → Lasting
  time_only : TimeLayout → Lasting

abbrev pub lasting : Record → Lasting
lasting (Dated layout status weekday date time) = dated layout status
lasting (TimeOnly layout time) = time_only layout

-- "stepping does not change the season", however often, nor anything else that lasts
abbrev pub SteppingDoesNotChangeTheSeason : Type 0
SteppingDoesNotChangeTheSeason = (clock : Clock) (n : ℕ) → lasting (stepped n clock).rec ≡ lasting clock.rec
