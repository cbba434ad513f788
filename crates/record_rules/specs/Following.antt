-- Document 02, b, "Second 60": what is said of a second 60 and of what follows it, for every record.
use Rattle.std.specs.Prelude.{Bool, true, false, cond, ◌&&◌, ◌↔◌, ◌≡◌, ℕ, ◌≤◌, eqb}
use Rattle.refusals.specs.Refusals.{done, refused}
use Rattle.calendar_rules.specs.Calendar.{day_of, weekday_of}
use Rattle.calendar_rules.specs.Literals.{date, time}
use Rattle.calendar_rules.specs.declared.date.Date.{Date}
use Rattle.calendar_rules.specs.declared.time.Time.{Time}
use Rattle.record_rules.specs.declared.DatedLayout.{DatedLayout}
use Rattle.record_rules.specs.declared.Status.{Status}
use Rattle.record_rules.specs.declared.Record.{Record}
use Rattle.record_rules.specs.declared.Record.TheVariants.{Dated, TimeOnly}
use Rattle.record_rules.specs.declared.season.LocalSeconds.{LocalSeconds}
use Rattle.record_rules.specs.declared.season.UtcSeconds.{UtcSeconds}
use Rattle.record_rules.specs.declared.season.Count.{Count}
use Rattle.record_rules.specs.Season.{seconds_in, to_utc}
use Rattle.record_rules.specs.Sixty.{is_sixty, at59, ends_utc_month, takes_sixty}
use Rattle.record_rules.specs.Rule.{status_allowed, refusal_of, is60}
use Rattle.record_rules.specs.Next.{next_second_of}
use Rattle.record_rules.specs.Utc.{count_of, utc_seconds}

-- the same record with second 59, and the time of a record
abbrev pub with59 : Record → Record
with59 (Dated layout status weekday on at) = Dated layout status weekday on (at59 at)
with59 (TimeOnly layout at) = TimeOnly layout (at59 at)

abbrev pub time_of : Record → Time
time_of (Dated layout status weekday on at) = at
time_of (TimeOnly layout at) = at

-- "accept 60 when the minute is 59 and the same record with second 59 is the last second of a UTC month": no rule refuses it exactly then
abbrev pub ASixtyIsAcceptedExactlyThen : Type 0
ASixtyIsAcceptedExactlyThen =
    (layout : DatedLayout) (status : Status) (weekday : ℕ) (on : Date) (at : Time) → is_sixty at ≡ true
    → refusal_of (Dated layout status weekday on at) ≡ 0
    ↔ ((at.minute ≡ 59) × (ends_utc_month (utc_seconds (with59 (Dated layout status weekday on at))) ≡ true))

-- "its weekday aside": given the weekday that its date has, its UTC second is the moment that is asked about
abbrev pub TheSameRecordWith59Decides : Type 0
TheSameRecordWith59Decides =
    (layout : DatedLayout) (status : Status) (on : Date) (at : Time) → status_allowed layout status ≡ true → is_sixty at ≡ true
    → takes_sixty status on at ≡ (eqb at.minute 59 && ends_utc_month (utc_seconds (Dated layout status (weekday_of (day_of on)) on (at59 at))))

-- "stepping and second advance go from 60 to 00": to what follows the 59 before it, date and weekday carried, at a full hour
abbrev pub ASixtyGoesTo00 : Type 0
ASixtyGoesTo00 =
    (rec : Record) → refusal_of rec ≡ 0 → is60 rec ≡ true
    → (next_second_of rec ≡ next_second_of (with59 rec))
    × ((next : Record) → next_second_of rec ≡ done next → ((time_of next).minute ≡ 0) × ((time_of next).second ≡ 0))

-- "neither makes a 60 by itself": stepping and second advance go by the next second
abbrev pub NothingMakesASixty : Type 0
NothingMakesASixty = (rec next : Record) → next_second_of rec ≡ done next → is60 next ≡ false

-- how many seconds on the next second is: one, but from a 60 none, whose number its follower shares
abbrev pub seconds_on : Record → ℕ
seconds_on rec = cond (is60 rec) 0 1

-- "a second 60 has the number of the second that follows it"
abbrev pub ASixtySharesItsFollowersNumber : Type 0
ASixtySharesItsFollowersNumber =
    (rec next : Record) → is60 rec ≡ true → next_second_of rec ≡ done next → (count_of rec ≡ count_of next) × (utc_seconds rec ≡ utc_seconds next)

-- the only good 60 that none follows is marked UTC, 31.12.2079 23:59:60, a Sunday
abbrev pub OneSixtyHasNoFollower : Type 0
OneSixtyHasNoFollower =
    (rec : Record) → refusal_of rec ≡ 0 → is60 rec ≡ true → next_second_of rec ≡ refused 12
    → (layout : DatedLayout) × (status : Status) × (rec ≡ Dated layout status 7 (date 2079 12 31) (time 23 59 60)) × (status.utc ≡ true)

-- and that one is good in each layout and status that can say it
abbrev pub TheLastSixtyIsGoodAndNoneFollows : Type 0
TheLastSixtyIsGoodAndNoneFollows =
    (layout : DatedLayout) (status : Status) → status.utc ≡ true → status_allowed layout status ≡ true
    → (refusal_of (Dated layout status 7 (date 2079 12 31) (time 23 59 60)) ≡ 0)
    × (next_second_of (Dated layout status 7 (date 2079 12 31) (time 23 59 60)) ≡ refused 12)

-- "12 if there is none"
abbrev pub WithoutAFollowerItHasNoNumber : Type 0
WithoutAFollowerItHasNoNumber =
    (rec : Record) → is60 rec ≡ true → next_second_of rec ≡ refused 12 → (count_of rec ≡ refused 12) × (utc_seconds rec ≡ refused 12)

-- nothing behind the calendar's last second is handed out
abbrev pub NoCountIsBehindTheCalendar : Type 0
NoCountIsBehindTheCalendar =
    ((rec : Record) (count : Count) → count_of rec ≡ done count → seconds_in count ≤ 3155759999)
    × ((rec : Record) (utc : UtcSeconds) → utc_seconds rec ≡ done utc → utc.0 ≤ 3155759999)
    × ((local : LocalSeconds) (daylight : Bool) (utc : UtcSeconds) → to_utc local daylight ≡ done utc → utc.0 ≤ 3155759999)
