-- Document 02, b, "Second 60", sentence by sentence. Which records are accepted stands in the rules of demand 1; that demands 2 and 3
-- hold of those with second 60 too is said by the demands themselves, as they speak of every record that no rule refuses.
use Rattle.std.specs.Prelude.{Bool, true, List, [], ◌∷◌, ◌++◌, ◌≡◌, ℕ, ◌≤◌}
use Rattle.refusals.specs.Refusals.{done, refused}
use Rattle.refusals.specs.Tables.{EachHolds}
use Rattle.ascii.specs.Ascii.{ascii}
use Rattle.ascii.specs.Control.{lf_cr, cr_lf}
use Rattle.calendar_rules.specs.Literals.{date, time}
use Rattle.record_rules.specs.declared.DatedLayout.{DatedLayout}
use Rattle.record_rules.specs.declared.DatedLayout.TheVariants.{L6021, L2000, L5500, L5050}
use Rattle.record_rules.specs.declared.TimeLayout.TheVariants.{T6021}
use Rattle.record_rules.specs.declared.Status.{Status}
use Rattle.record_rules.specs.declared.Record.TheVariants.{Dated, TimeOnly}
use Rattle.record_rules.specs.Literals.{standard_time, daylight_time, marked_utc}
use Rattle.record_rules.specs.Rule.{status_allowed}
use Rattle.record_rules.specs.SixtyByFields.{TheFieldsSayTheSame}
use Rattle.record_rules.specs.Following.{ASixtyIsAcceptedExactlyThen, TheSameRecordWith59Decides, ASixtyGoesTo00, ASixtySharesItsFollowersNumber}
use Rattle.record_rules.specs.Following.{OneSixtyHasNoFollower, TheLastSixtyIsGoodAndNoneFollows, WithoutAFollowerItHasNoNumber, NoCountIsBehindTheCalendar}
use Rattle.clock.specs.Running.{TheLastSixtyGives12}
use Rattle.trailer_rules.specs.declared.Order.{Order}
use Rattle.leitch_rules.specs.declared.Reply.{Reply}
use Rattle.leitch_rules.specs.Rule.{fields_refusal}
use Rattle.demands.specs.Demand2.{advanced, NeitherMakesASixty}
use Rattle.demands.specs.Programs.{writes}
use Rattle.demands.specs.Boundary.{BoundaryRow, telegram, BoundaryRowHolds}

-- "On a leap second night the reader refused our second 60": the telegrams of such a night, and telegrams beside them
abbrev pub sixty_telegrams : List BoundaryRow
sixty_telegrams =
    -- the leap second of June 1981 in standard time, in each layout
    telegram (ascii "83005960010781" ++ lf_cr) (done (Dated L6021 standard_time 3 (date 1981 7 1) (time 0 59 60)))
    ∷ telegram (ascii "8300596001071981" ++ lf_cr) (done (Dated L2000 standard_time 3 (date 1981 7 1) (time 0 59 60)))
    ∷ telegram (ascii "0 005960 010781 3" ++ cr_lf) (done (Dated L5500 standard_time 3 (date 1981 7 1) (time 0 59 60)))
    ∷ telegram (ascii "00 59 60 01 07 81 03 " ++ cr_lf) (done (Dated L5050 standard_time 3 (date 1981 7 1) (time 0 59 60)))
    -- in daylight time, and marked UTC
    ∷ telegram (ascii "A3015960010781" ++ lf_cr) (done (Dated L6021 daylight_time 3 (date 1981 7 1) (time 1 59 60)))
    ∷ telegram (ascii "8A235960300681" ++ lf_cr) (done (Dated L6021 marked_utc 2 (date 1981 6 30) (time 23 59 60)))
    -- the time alone
    ∷ telegram (ascii "125960" ++ lf_cr) (done (TimeOnly T6021 (time 12 59 60)))
    -- "6 is still given for every other 60 and above"
    ∷ telegram (ascii "83015960010781" ++ lf_cr) (refused 6)
    ∷ telegram (ascii "A4015960020781" ++ lf_cr) (refused 6)
    ∷ telegram (ascii "A3015961010781" ++ lf_cr) (refused 6)
    ∷ telegram (ascii "125860" ++ lf_cr) (refused 6)
    ∷ telegram (ascii "245960" ++ lf_cr) (refused 6)
    -- 6 before 7, on 31 June in UTC; 5 before 6; another weekday is 8
    ∷ telegram (ascii "8B235960310681" ++ lf_cr) (refused 6)
    ∷ telegram (ascii "A0015960010781" ++ lf_cr) (refused 5)
    ∷ telegram (ascii "A4015960010781" ++ lf_cr) (refused 8)
    ∷ []

abbrev pub TheSixtyTelegramsAreRead : Type 0
TheSixtyTelegramsAreRead = EachHolds BoundaryRowHolds sixty_telegrams

-- "Leitch answers stay at 59"
abbrev pub LeitchAnswersStayAt59 : Type 0
LeitchAnswersStayAt59 = (reply : Reply) → fields_refusal reply ≡ 0 → reply.time.second ≤ 59

-- "with 12 after 31.12.2079 23:59:60 too", of second advance: whatever the layout and the status that can say it, and whatever the buffer
abbrev pub TheLastSixtyIsNotAdvanced : Type 0
TheLastSixtyIsNotAdvanced =
    (order : Order) (control : Bool) (layout : DatedLayout) (status : Status) (room : ℕ) → status.utc ≡ true → status_allowed layout status ≡ true
    → writes (advanced order control) (Dated layout status 7 (date 2079 12 31) (time 23 59 60)) room ≡ refused 12

abbrev pub SecondSixtyIsAsAskedFor : Type 0
SecondSixtyIsAsAskedFor =
    TheSixtyTelegramsAreRead
    -- "accept 60 when the minute is 59 and the same record with second 59, its weekday aside, is the last second of a UTC month"; the fields say the same
    × ASixtyIsAcceptedExactlyThen
    × TheSameRecordWith59Decides
    × TheFieldsSayTheSame
    -- "in UTC seconds a second 60 has the number of the second that follows it"
    × ASixtySharesItsFollowersNumber
    -- "12 if there is none": that is one moment, marked UTC, read and written in each layout
    × OneSixtyHasNoFollower
    × TheLastSixtyIsGoodAndNoneFollows
    × WithoutAFollowerItHasNoNumber
    -- the calendar's last second is 3,155,759,999
    × NoCountIsBehindTheCalendar
    -- "stepping and second advance go from 60 to 00"
    × ASixtyGoesTo00
    -- "with 12 after 31.12.2079 23:59:60 too"
    × TheLastSixtyGives12
    × TheLastSixtyIsNotAdvanced
    -- "neither makes a 60 by itself"
    × NeitherMakesASixty
    × LeitchAnswersStayAt59
