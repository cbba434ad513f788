-- What document 01, and document 02 in b, say of the station clock, in literal records, and the one statement over them.
use Rattle.std.specs.Prelude.{true, false, List, [], ◌∷◌, ◌≡◌}
use Rattle.refusals.specs.Tables.{EachHolds}
use Rattle.calendar_rules.specs.Literals.{date, time}
use Rattle.record_rules.specs.declared.DatedLayout.TheVariants.{L6021}
use Rattle.record_rules.specs.declared.TimeLayout.TheVariants.{T6021}
use Rattle.record_rules.specs.declared.Reception.TheVariants.{Radio}
use Rattle.record_rules.specs.declared.Status.{Status}
use Rattle.record_rules.specs.declared.Record.{Record}
use Rattle.record_rules.specs.declared.Record.TheVariants.{Dated, TimeOnly}
use Rattle.record_rules.specs.Literals.{status_of, standard_time, marked_utc}
use Rattle.refusals.specs.Refusals.{Outcome, refused}
use Rattle.clock.specs.Stepping.{made, step_of}

-- a row: the clock's record, the record after one step, and what the step tells
pub data StepRow : Type 0 where
  step_is : Record → Record → Outcome (Unit {0}) → StepRow

abbrev pub StepRowHolds : StepRow → Type 0
StepRowHolds (step_is rec next answer) = step_of (record { rec = rec }) ≡ record { clock = record { rec = next }; answer = answer }

abbrev pub daylight_announced : Status
daylight_announced = status_of Radio true false true

-- A record: layout, status, weekday, date, time
abbrev pub printed_steps : List StepRow
printed_steps =
    -- "stepped by one second", "date and weekday included"
    step_is (Dated L6021 standard_time 5 (date 1999 12 31) (time 23 59 59)) (Dated L6021 standard_time 6 (date 2000 1 1) (time 0 0 0)) made
    -- "stepping does not change the season": nor where summer ends
    ∷ step_is (Dated L6021 daylight_announced 7 (date 1996 10 27) (time 2 59 59)) (Dated L6021 daylight_announced 7 (date 1996 10 27) (time 3 0 0)) made
    ∷ step_is (Dated L6021 standard_time 7 (date 1996 10 27) (time 2 59 59)) (Dated L6021 standard_time 7 (date 1996 10 27) (time 3 0 0)) made
    -- "refused with 5 to 8, 12 or 14 it is unchanged": a Wednesday told as a Thursday, the calendar's last second, a time-only record
    ∷ step_is (Dated L6021 standard_time 4 (date 1996 1 3) (time 12 34 56)) (Dated L6021 standard_time 4 (date 1996 1 3) (time 12 34 56)) (refused 8)
    ∷ step_is (Dated L6021 standard_time 7 (date 2079 12 31) (time 23 59 59)) (Dated L6021 standard_time 7 (date 2079 12 31) (time 23 59 59)) (refused 12)
    ∷ step_is (TimeOnly T6021 (time 12 34 56)) (TimeOnly T6021 (time 12 34 56)) (refused 14)
    -- "stepping goes from 60 to 00": minute, hour, date and weekday
    ∷ step_is (Dated L6021 standard_time 3 (date 1981 7 1) (time 0 59 60)) (Dated L6021 standard_time 3 (date 1981 7 1) (time 1 0 0)) made
    ∷ step_is (Dated L6021 marked_utc 2 (date 1981 6 30) (time 23 59 60)) (Dated L6021 marked_utc 3 (date 1981 7 1) (time 0 0 0)) made
    -- "neither makes a 60 by itself"
    ∷ step_is (Dated L6021 marked_utc 2 (date 1981 6 30) (time 23 59 59)) (Dated L6021 marked_utc 3 (date 1981 7 1) (time 0 0 0)) made
    -- "6 is still given for every other 60"; a time-only one is good, and carries no date
    ∷ step_is (Dated L6021 standard_time 4 (date 1981 7 2) (time 0 59 60)) (Dated L6021 standard_time 4 (date 1981 7 2) (time 0 59 60)) (refused 6)
    ∷ step_is (TimeOnly T6021 (time 12 59 60)) (TimeOnly T6021 (time 12 59 60)) (refused 14)
    ∷ []

-- one statement over the table
abbrev pub StepsAreAsPrinted : Type 0
StepsAreAsPrinted = EachHolds StepRowHolds printed_steps

-- "with 12 after 31.12.2079 23:59:60 too"
abbrev pub TheLastSixtyIsAsPrinted : Type 0
TheLastSixtyIsAsPrinted =
    StepRowHolds (step_is (Dated L6021 marked_utc 7 (date 2079 12 31) (time 23 59 60)) (Dated L6021 marked_utc 7 (date 2079 12 31) (time 23 59 60)) (refused 12))
