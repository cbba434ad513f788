-- What document 01, and document 02 in b, say of records, in literal records and numbers, and the one statement over them. The numbers are not taken from any definition.
use Rattle.std.specs.Prelude.{Bool, true, false, List, [], ◌∷◌, ◌≡◌, ℕ}
use Rattle.refusals.specs.Refusals.{Outcome, done, refused}
use Rattle.refusals.specs.Tables.{EachHolds}
use Rattle.calendar_rules.specs.Literals.{date, time}
use Rattle.record_rules.specs.declared.DatedLayout.TheVariants.{L6021, L2000, L5500, L5050}
use Rattle.record_rules.specs.declared.TimeLayout.TheVariants.{T6021}
use Rattle.record_rules.specs.declared.Reception.TheVariants.{Invalid, Crystal, Radio, High}
use Rattle.record_rules.specs.declared.Record.{Record}
use Rattle.record_rules.specs.declared.Record.TheVariants.{Dated, TimeOnly}
use Rattle.record_rules.specs.declared.season.LocalSeconds.{LocalSeconds}
use Rattle.record_rules.specs.declared.season.UtcSeconds.{UtcSeconds}
use Rattle.record_rules.specs.declared.season.Count.{Count}
use Rattle.record_rules.specs.declared.season.Count.TheVariants.{Local, Utc}
use Rattle.record_rules.specs.Literals.{status_of, standard_time, daylight_time, marked_utc}
use Rattle.record_rules.specs.Season.{to_utc}
use Rattle.record_rules.specs.Rule.{refusal_of}
use Rattle.record_rules.specs.Next.{next_second_of}
use Rattle.record_rules.specs.Utc.{count_of, utc_seconds}

-- a row: a record and the number that refuses it, its count, its UTC seconds, or its next second; or a local second and a season, and the UTC second
pub data RecordRow : Type 0 where
  refusal_is : Record → ℕ → RecordRow
  count_is : Record → Outcome Count → RecordRow
  utc_is : Record → Outcome UtcSeconds → RecordRow
  next_is : Record → Outcome Record → RecordRow
  shift_is : LocalSeconds → Bool → Outcome UtcSeconds → RecordRow

abbrev pub RecordRowHolds : RecordRow → Type 0
RecordRowHolds (refusal_is rec number) = refusal_of rec ≡ number
RecordRowHolds (count_is rec outcome) = count_of rec ≡ outcome
RecordRowHolds (utc_is rec outcome) = utc_seconds rec ≡ outcome
RecordRowHolds (next_is rec outcome) = next_second_of rec ≡ outcome
RecordRowHolds (shift_is local daylight outcome) = to_utc local daylight ≡ outcome

-- A record: layout, status, weekday, date, time
abbrev pub printed_records : List RecordRow
printed_records =
    -- "local is UTC plus 3,600 in standard time, plus 7,200 in daylight time; a record marked UTC is not shifted"
    utc_is (Dated L6021 standard_time 3 (date 1996 1 3) (time 12 34 56)) (done (record { 0 = 505136096 }))
    ∷ utc_is (Dated L6021 daylight_time 3 (date 1996 4 17) (time 12 34 56)) (done (record { 0 = 514204496 }))
    ∷ utc_is (Dated L6021 marked_utc 3 (date 1996 1 3) (time 12 34 56)) (done (record { 0 = 505139696 }))
    ∷ utc_is (Dated L6021 (status_of Radio true true false) 3 (date 1996 1 3) (time 12 34 56)) (done (record { 0 = 505139696 }))
    -- "before 1.1.1980 00:00 UTC: 12"
    ∷ utc_is (Dated L6021 standard_time 2 (date 1980 1 1) (time 1 0 0)) (done (record { 0 = 0 }))
    ∷ utc_is (Dated L6021 standard_time 2 (date 1980 1 1) (time 0 59 59)) (refused 12)
    ∷ utc_is (Dated L6021 daylight_time 2 (date 1980 1 1) (time 2 0 0)) (done (record { 0 = 0 }))
    ∷ utc_is (Dated L6021 daylight_time 2 (date 1980 1 1) (time 1 59 59)) (refused 12)
    -- "the result lies outside the calendar", whose last second is 3,155,759,999
    ∷ shift_is (record { 0 = 3155763599 }) false (done (record { 0 = 3155759999 }))
    ∷ shift_is (record { 0 = 3155763600 }) false (refused 12)
    ∷ shift_is (record { 0 = 3155767199 }) true (done (record { 0 = 3155759999 }))
    ∷ shift_is (record { 0 = 3155767200 }) true (refused 12)
    ∷ shift_is (record { 0 = 4294967295 }) false (refused 12)
    -- "a count of local seconds and a count of UTC seconds are kept apart"
    ∷ count_is (Dated L6021 standard_time 2 (date 1980 1 1) (time 12 0 0)) (done (Local (record { 0 = 43200 })))
    ∷ count_is (Dated L6021 marked_utc 2 (date 1980 1 1) (time 12 0 0)) (done (Utc (record { 0 = 43200 })))
    -- "a date is needed and the layout carries none"
    ∷ count_is (TimeOnly T6021 (time 12 0 0)) (refused 14)
    ∷ utc_is (TimeOnly T6021 (time 12 0 0)) (refused 14)
    -- "a 5500 or 5050 record with reception invalid or high accuracy, or UTC with summer or announced": 5
    ∷ refusal_is (Dated L5500 (status_of Invalid false false false) 3 (date 1996 1 3) (time 12 34 56)) 5
    ∷ refusal_is (Dated L5050 (status_of High false false false) 3 (date 1996 1 3) (time 12 34 56)) 5
    ∷ refusal_is (Dated L5500 (status_of Radio true true false) 3 (date 1996 1 3) (time 12 34 56)) 5
    ∷ refusal_is (Dated L5050 (status_of Crystal false true true) 3 (date 1996 1 3) (time 12 34 56)) 5
    ∷ refusal_is (Dated L5500 (status_of Crystal true false true) 3 (date 1996 1 3) (time 12 34 56)) 0
    -- of 6021 and 2000 "all sixteen are legal"; "with UTC the daylight bit is still carried as it stands"
    ∷ refusal_is (Dated L6021 (status_of High true true true) 3 (date 1996 1 3) (time 12 34 56)) 0
    ∷ refusal_is (Dated L2000 (status_of Invalid true true true) 3 (date 1996 1 3) (time 12 34 56)) 0
    -- "1 Monday to 7 Sunday", and 3 January 1996 a Wednesday
    ∷ refusal_is (Dated L6021 standard_time 0 (date 1996 1 3) (time 12 34 56)) 5
    ∷ refusal_is (Dated L6021 standard_time 8 (date 1996 1 3) (time 12 34 56)) 5
    ∷ refusal_is (Dated L6021 standard_time 7 (date 1996 1 3) (time 12 34 56)) 8
    ∷ []

-- Second 60, at the leap seconds that ended June 1981 and December 1987 in UTC, and beside them
abbrev pub printed_sixties : List RecordRow
printed_sixties =
    -- "accept 60 when the minute is 59 and the same record with second 59 is the last second of a UTC month"
    refusal_is (Dated L6021 standard_time 5 (date 1988 1 1) (time 0 59 60)) 0
    ∷ refusal_is (Dated L2000 daylight_time 3 (date 1981 7 1) (time 1 59 60)) 0
    ∷ refusal_is (Dated L5050 marked_utc 2 (date 1981 6 30) (time 23 59 60)) 0
    ∷ refusal_is (Dated L6021 (status_of Radio true true false) 2 (date 1981 6 30) (time 23 59 60)) 0
    ∷ refusal_is (Dated L5500 marked_utc 5 (date 1980 2 29) (time 23 59 60)) 0
    -- by the record's own season bit and mark
    ∷ refusal_is (Dated L6021 standard_time 3 (date 1981 7 1) (time 1 59 60)) 6
    ∷ refusal_is (Dated L6021 daylight_time 3 (date 1981 7 1) (time 0 59 60)) 6
    ∷ refusal_is (Dated L6021 marked_utc 3 (date 1981 7 1) (time 0 59 60)) 6
    ∷ refusal_is (Dated L6021 standard_time 2 (date 1981 6 30) (time 23 59 60)) 6
    -- "6 is still given for every other 60 and above"
    ∷ refusal_is (Dated L6021 standard_time 3 (date 1981 7 1) (time 0 58 60)) 6
    ∷ refusal_is (Dated L6021 standard_time 3 (date 1981 7 1) (time 0 59 61)) 6
    ∷ refusal_is (Dated L6021 standard_time 4 (date 1981 7 2) (time 0 59 60)) 6
    ∷ refusal_is (Dated L6021 marked_utc 4 (date 1980 2 28) (time 23 59 60)) 6
    -- "where that UTC moment lies before the calendar, 60 stays refused"
    ∷ refusal_is (Dated L6021 standard_time 2 (date 1980 1 1) (time 0 59 60)) 6
    ∷ refusal_is (Dated L6021 daylight_time 2 (date 1980 1 1) (time 1 59 60)) 6
    -- 6 before 7, 5 before 6, and "its weekday aside": 8
    ∷ refusal_is (Dated L6021 marked_utc 3 (date 1981 6 31) (time 23 59 60)) 6
    ∷ refusal_is (Dated L5500 (status_of High false false false) 3 (date 1981 7 1) (time 0 59 60)) 5
    ∷ refusal_is (Dated L6021 standard_time 4 (date 1981 7 1) (time 0 59 60)) 8
    -- "in time-only layouts when the minute is 59"
    ∷ refusal_is (TimeOnly T6021 (time 12 59 60)) 0
    ∷ refusal_is (TimeOnly T6021 (time 12 58 60)) 6
    ∷ refusal_is (TimeOnly T6021 (time 12 59 61)) 6
    ∷ refusal_is (TimeOnly T6021 (time 24 59 60)) 6
    -- "the number of the second that follows it"
    ∷ utc_is (Dated L6021 standard_time 5 (date 1988 1 1) (time 0 59 60)) (done (record { 0 = 252460800 }))
    ∷ utc_is (Dated L6021 daylight_time 3 (date 1981 7 1) (time 1 59 60)) (done (record { 0 = 47260800 }))
    ∷ utc_is (Dated L6021 marked_utc 2 (date 1981 6 30) (time 23 59 60)) (done (record { 0 = 47260800 }))
    ∷ count_is (Dated L6021 daylight_time 3 (date 1981 7 1) (time 1 59 60)) (done (Local (record { 0 = 47268000 })))
    ∷ utc_is (TimeOnly T6021 (time 12 59 60)) (refused 14)
    -- "go from 60 to 00"
    ∷ next_is (Dated L6021 daylight_time 3 (date 1981 7 1) (time 1 59 60)) (done (Dated L6021 daylight_time 3 (date 1981 7 1) (time 2 0 0)))
    ∷ next_is (Dated L6021 marked_utc 2 (date 1981 6 30) (time 23 59 60)) (done (Dated L6021 marked_utc 3 (date 1981 7 1) (time 0 0 0)))
    ∷ next_is (TimeOnly T6021 (time 23 59 60)) (done (TimeOnly T6021 (time 0 0 0)))
    -- "neither makes a 60 by itself"
    ∷ next_is (Dated L6021 marked_utc 2 (date 1981 6 30) (time 23 59 59)) (done (Dated L6021 marked_utc 3 (date 1981 7 1) (time 0 0 0)))
    ∷ []

-- "12 if there is none", "with 12 after 31.12.2079 23:59:60 too": it is read and written
abbrev pub printed_last_sixty : List RecordRow
printed_last_sixty =
    refusal_is (Dated L6021 marked_utc 7 (date 2079 12 31) (time 23 59 60)) 0
    ∷ utc_is (Dated L6021 marked_utc 7 (date 2079 12 31) (time 23 59 60)) (refused 12)
    ∷ count_is (Dated L6021 marked_utc 7 (date 2079 12 31) (time 23 59 60)) (refused 12)
    ∷ next_is (Dated L6021 marked_utc 7 (date 2079 12 31) (time 23 59 60)) (refused 12)
    ∷ []

-- one statement over each table
abbrev pub RecordsAreAsPrinted : Type 0
RecordsAreAsPrinted = EachHolds RecordRowHolds printed_records

abbrev pub SixtiesAreAsPrinted : Type 0
SixtiesAreAsPrinted = EachHolds RecordRowHolds printed_sixties

abbrev pub TheLastSixtyIsAsPrinted : Type 0
TheLastSixtyIsAsPrinted = EachHolds RecordRowHolds printed_last_sixty
