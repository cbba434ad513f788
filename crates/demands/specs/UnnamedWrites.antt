-- Document 02, e, "Writes carry STX and ETX unless told otherwise", sentence by sentence. All refusals of a write together stand in the
-- rules of demand 1, that an unnamed one reads back with control characters in demand 2, and its printed rows in
-- telegram_rules/specs/AsPrinted.antt.
use Rattle.std.specs.Prelude.{Bool, true, false, List, [], ◌∷◌, ◌++◌, ◌≡◌, ℕ, ◌+◌, ◌-◌, ◌*◌, ◌%◌, ◌^◌, ◌≤◌, ◌<◌, length, take}
use Rattle.refusals.specs.Refusals.{Outcome, done, refused, after}
use Rattle.refusals.specs.Tables.{EachHolds}
use Rattle.lent_buffer.specs.Endings.{Whole}
use Rattle.lent_buffer.specs.Laying.{within, laid}
use Rattle.lent_buffer.specs.OneBehindAnother.{Next, nothing, part, one_behind_another}
use Rattle.ascii.specs.Ascii.{ascii}
use Rattle.ascii.specs.Control.{stx, etx, lf_cr}
use Rattle.calendar_rules.specs.Literals.{date, time}
use Rattle.calendar_rules.specs.declared.time.Time.{Time}
use Rattle.record_rules.specs.declared.DatedLayout.TheVariants.{L6021}
use Rattle.record_rules.specs.declared.TimeLayout.{TimeLayout}
use Rattle.record_rules.specs.declared.Record.{Record}
use Rattle.record_rules.specs.declared.Record.TheVariants.{Dated, TimeOnly}
use Rattle.record_rules.specs.Rule.{refusal_of, carries_date}
use Rattle.layouts_rules.specs.declared.Layout.TheVariants as layouts
use Rattle.layouts_rules.specs.Layouts.{own_layout}
use Rattle.trailer_rules.specs.declared.Order.{Order}
use Rattle.trailer_rules.specs.declared.Order.TheVariants.{AsPrinted}
use Rattle.telegram_rules.specs.declared.write.Choice.{Choice}
use Rattle.telegram_rules.specs.declared.write.Choice.TheVariants.{Named, Unnamed}
use Rattle.telegram.specs.SeveralTelegrams.{Several, none_yet, with_more, unless_ended, several_after, several_all}
use Rattle.telegram_rules.specs.Writing.{telegram_in, telegram_of, as6021, judged_of, telegram_for}
use Rattle.line.specs.declared.Reader.{Reader}
use Rattle.line_rules.specs.Hearing.{Heard, Event}
use Rattle.line.specs.Cuts.{Calls, feeding}
use Rattle.line.specs.Pieces.{using_up}
use Rattle.demands.specs.Programs.{writes, feeds}
use Rattle.demands.specs.Boundary.{high_daylight, high_utc}
use Rattle.demands.specs.Demand2.{Good}
use Rattle.demands.specs.Demand3.{GivesBack}

-- a setting by name, as the meter programs write it: control characters or not, no second advance, and no order
abbrev pub named : Bool → Choice
named control = Named (record { control = control; advance = false })

-- What an unnamed write was before this request, and several of them: document 01, "a write is 6021 whatever layout the record has,
-- without control characters, without second advance; a time-only record then gives 14". For this page alone.
abbrev pub unnamed_before : Record → Outcome (List ℕ)
unnamed_before rec = after (after (judged_of rec) as6021) (λ r. done (telegram_of false r))

abbrev pub next_before : List Record → Next (List Record)
next_before [] = nothing
next_before (rec ∷ recs) = part (unnamed_before rec) recs

abbrev pub several_before : Several → List Record → List ℕ → Several × List ℕ
several_before several recs buffer =
    unless_ended several.ending
    (with_more several buffer (one_behind_another next_before (length recs) (length buffer - several.used) recs)) (several, buffer)

-- "Writes carry STX and ETX": of every record, in every buffer, the bytes of before are written between them. So its refusals are those of
-- before, but that two bytes more need room; and the bytes of before are had by leaving the two out.
abbrev pub TheBytesOfBeforeBetweenStxAndEtx : Type 0
TheBytesOfBeforeBetweenStxAndEtx =
    (rec : Record) (room : ℕ) → writes Unnamed rec room ≡ within room (after (unnamed_before rec) (λ body. done (stx ∷ body ++ etx ∷ [])))

-- "New staff forget to ask, and the line reader sees only stray bytes": so it was with the bytes of before
abbrev pub BeforeAllBytesWereStray : (Reader → List ℕ → Calls) → Type 0
BeforeAllBytesWereStray call = (rec : Record) (bytes : List ℕ) → unnamed_before rec ≡ done bytes → GivesBack call AsPrinted bytes [] 16

-- a good record with a date, and its 6021 form, which has the same fields; a time-only record has none, and is left
abbrev pub GoodDated : Record → Type 0
GoodDated rec = Good rec × (carries_date rec ≡ true)

abbrev pub form6021 : Record → Record
form6021 (Dated layout status weekday date time) = Dated L6021 status weekday date time
form6021 (TimeOnly layout time) = TimeOnly layout time

-- the reason for the request: what an unnamed write makes of such a record, the line reader hands back as its 6021 form, and no byte is
-- stray
abbrev pub TheLineReaderSeesIt : (Reader → List ℕ → Calls) → Type 0
TheLineReaderSeesIt call =
    (rec : Record) (room : ℕ) (bytes : List ℕ) → GoodDated rec → writes Unnamed rec room ≡ done bytes
    → GivesBack call AsPrinted bytes (Event (done (form6021 rec)) 0 18 ∷ []) 0

-- "An unnamed setting now means 6021 with control characters", without second advance: into every buffer it writes, or refuses, as that
-- setting does by name of the 6021 form
abbrev pub UnnamedMeans6021WithControlCharacters : Type 0
UnnamedMeans6021WithControlCharacters = (rec : Record) (room : ℕ) → GoodDated rec → writes Unnamed rec room ≡ writes (named true) (form6021 rec) room

-- "a buffer of 16 bytes is then too short, with 13", as is one of 17: it has 18 bytes
abbrev pub ItHas18Bytes : Type 0
ItHas18Bytes =
    (rec : Record) (room : ℕ) → GoodDated rec
    → (length (telegram_of true (form6021 rec)) ≡ 18)
    × (18 ≤ room → writes Unnamed rec room ≡ done (telegram_of true (form6021 rec)))
    × (room < 18 → writes Unnamed rec room ≡ refused 13)

-- a time-only record is still 14, whatever the buffer's length; 5 to 8 come first
abbrev pub TimeAloneIsStill14 : Type 0
TimeAloneIsStill14 =
    (layout : TimeLayout) (time : Time) (room : ℕ) → Good (TimeOnly layout time) → writes Unnamed (TimeOnly layout time) room ≡ refused 14

abbrev pub TheRecordsOwnComesFirst : Type 0
TheRecordsOwnComesFirst = (rec : Record) (room : ℕ) → (Good rec → ⊥) → writes Unnamed rec room ≡ refused (refusal_of rec)

-- Several telegrams follow: of good records with a date, written one behind another where there is room, all stand, and the line reader
-- hands back their 6021 forms, one every 18 bytes
abbrev pub every_eighteen : ℕ → List Record → List Heard
every_eighteen from [] = []
every_eighteen from (rec ∷ recs) = Event (done (form6021 rec)) (from % 2 ^ 32) 18 ∷ every_eighteen (from + 18) recs

abbrev pub SeveralFollow : (Reader → List ℕ → Calls) → Type 0
SeveralFollow call =
    (recs : List Record) (buffer : List ℕ) → EachHolds GoodDated recs → 18 * length recs ≤ length buffer
    → ((several_all Unnamed recs none_yet buffer).0 ≡ record { count = length recs % 2 ^ 64; used = 18 * length recs; ending = Whole })
    × GivesBack call AsPrinted (take (18 * length recs) (several_all Unnamed recs none_yet buffer).1) (every_eighteen 0 recs) 0

-- "Two of our meter programs rely on bare output: they hand over 6021 records, must now name it and produce the same bytes as before": of
-- every 6021 record and with every buffer the named bare write answers and leaves what the unnamed one did; and so several do
abbrev pub Is6021 : Record → Type 0
Is6021 rec = own_layout rec ≡ layouts.Dated L6021

abbrev pub NamedBareDoesWhatUnnamedDid : Type 0
NamedBareDoesWhatUnnamedDid =
    (rec : Record) (buffer : List ℕ) → Is6021 rec → laid (telegram_for (named false) rec) buffer ≡ laid (unnamed_before rec) buffer

abbrev pub SeveralNamedBareDoSo : Type 0
SeveralNamedBareDoSo =
    (several : Several) (recs : List Record) (buffer : List ℕ) → EachHolds Is6021 recs
    → several_after (named false) several recs buffer ≡ several_before several recs buffer

-- but of a record of another layout no choice makes the bare 6021, in either order
abbrev pub NoChoiceMakesAnothersBare6021 : Type 0
NoChoiceMakesAnothersBare6021 =
    (choice : Choice) (order : Order) (rec : Record) → GoodDated rec → (Is6021 rec → ⊥) → telegram_for choice rec ≡ done (telegram_in order false (form6021 rec)) → ⊥

-- two short cases, P1 and P11 of the boundary table, in the 16 bytes that were enough
abbrev pub meter_cases : List (Record × List ℕ)
meter_cases =
    (Dated L6021 high_daylight 3 (date 1996 4 17) (time 12 34 56), ascii "E3123456170496" ++ lf_cr)
    ∷ (Dated L6021 high_utc 3 (date 1996 1 3) (time 12 34 56), ascii "CB123456030196" ++ lf_cr)
    ∷ []

abbrev pub MeterCaseHolds : Record × List ℕ → Type 0
MeterCaseHolds row = (writes (named false) row.0 16 ≡ done row.1) × (within 16 (unnamed_before row.0) ≡ done row.1)

abbrev pub UnnamedWritesAreAsAskedFor : Type 0
UnnamedWritesAreAsAskedFor =
    TheBytesOfBeforeBetweenStxAndEtx
    -- by calls of feed, and by those that use a piece up
    × BeforeAllBytesWereStray (feeding feeds)
    × BeforeAllBytesWereStray using_up
    × TheLineReaderSeesIt (feeding feeds)
    × TheLineReaderSeesIt using_up
    × UnnamedMeans6021WithControlCharacters
    × ItHas18Bytes
    × TimeAloneIsStill14
    × TheRecordsOwnComesFirst
    × SeveralFollow (feeding feeds)
    × SeveralFollow using_up
    × NamedBareDoesWhatUnnamedDid
    × SeveralNamedBareDoSo
    × NoChoiceMakesAnothersBare6021
    × EachHolds MeterCaseHolds meter_cases
