-- Document 01, "Calendar, UTC and the station clock": one step of the station clock.
use Rattle.std.specs.Prelude.{not}
use Rattle.refusals.specs.Refusals.{◌when◌, Outcome, done, refused, unless, after}
use Rattle.record_rules.specs.declared.Record.{Record}
use Rattle.record_rules.specs.Rule.{carries_date}
use Rattle.record_rules.specs.Next.{next_second_of}
use Rattle.clock.specs.declared.Clock.{Clock}

-- "a time-only record gives 14 here": behind 5 to 8 and 12, which the next second gives, as the lowest number is given
unfoldable pub clock_second : Record → Outcome Record
clock_second rec = after (next_second_of rec) (λ next. unless (14 when not (carries_date rec)) next)

-- a clock whose record has moved on; whatever else it holds stays
abbrev pub with_record : Clock → Record → Clock
with_record clock rec = record { rec = rec }

-- the clock after a step, and what the step tells: that it was made, or the number that refuses it
pub record Step : Type 0 where
  pub clock : Clock
  pub answer : Outcome (Unit {0})

abbrev pub made : Outcome (Unit {0})
made = done tt

-- "the station clock is stepped by one second"; "refused with 5 to 8, 12 or 14 it is unchanged"
abbrev pub stepped_by : Clock → Outcome Record → Step
stepped_by clock (done next) = record { clock = with_record clock next; answer = made }
stepped_by clock (refused number) = record { clock = clock; answer = refused number }

unfoldable pub step_of : Clock → Step
step_of clock = stepped_by clock (clock_second clock.rec)
