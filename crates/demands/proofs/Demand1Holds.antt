-- Demand 1 holds. Assumes nothing.
use mathlib.Core.Path.{◌≡◌, refl, ap, sym, ◌∙◌}
use mathlib.Core.Bool.{Bool, true, false, not, ◌&&◌, ◌||◌}
use mathlib.Core.List.{List, [], ◌∷◌, ◌++◌, map}
use Prim.Native.Nat.{ℕ, ◌+◌, ◌-◌, ◌≤◌}
use native.Mathlib.Omega.{arith}
use lib.Dec.{leb, ltb}
use lib.ListN.{length, take, drop, length-drop, take-append-drop}
use borrow.Author.Tests.{ltb-true, ltb-false, leb-true, leb-false, le-leb, lt-leb}
use Rattle.refusals.specs.Refusals.{◌when◌, ◌else◌, Outcome, done, refused, unless, after}
use Rattle.refusals.proofs.Laws.{else_assoc}
use Rattle.lent_buffer.specs.Endings.{Ending, ending_answer}
use Rattle.lent_buffer.specs.Endings as ending
use Rattle.lent_buffer.specs.Laying.{size_of, laid}
use Rattle.lent_buffer.proofs.LayingLaws.{laid_answer, stops, refused_is_untouched}
use Rattle.calendar_rules.specs.Ranges.{inside}
use Rattle.calendar_rules.specs.Calendar.{date_in_range, day_exists, date_refusal, month_in_range, month_length, day_of, date_at, day_after, is_last_day, day_number, date_of, next_day}
use Rattle.calendar_rules.specs.TimeOfDay.{time_in_range, time_refusal, seconds_of, time_after, is_last_second, second_of_day, next_second}
use Rattle.record_rules.specs.declared.Record.{Record}
use Rattle.record_rules.specs.declared.Record.TheVariants.{Dated, TimeOnly}
use Rattle.record_rules.specs.declared.season.LocalSeconds.{LocalSeconds}
use Rattle.record_rules.specs.Season.{calendar_seconds, season_shift, is_outside, to_utc}
use Rattle.record_rules.specs.Rule.{refusal_of}
use Rattle.record_rules.specs.Next.{next_second_of}
use Rattle.record_rules.specs.Utc.{count_of, utc_seconds}
use Rattle.places_rules.specs.Places.{fixed_holds, decimal_holds, code_holds, every, fault_of, found_in}
use Rattle.layouts_rules.specs.declared.Layout.{Layout}
use Rattle.layouts_rules.specs.Layouts.{layout_of}
use Rattle.telegram_rules.specs.declared.write.Choice.{Choice}
use Rattle.telegram_rules.specs.declared.write.Choice.TheVariants.{Named, NamedIn, Unnamed}
use Rattle.telegram_rules.specs.Reading.{body_in, carried, read_in}
use Rattle.telegram.specs.SeveralTelegrams.{Several, several_after}
use Rattle.telegram_rules.specs.Writing.{telegram_for, written}
use Rattle.telegram.proofs.SeveralLaws.{one_more, ended_before, one_more_law}
use Rattle.clock.specs.Stepping.{step_of}
use Rattle.clock.proofs.StepLaws.{refused_is_unchanged}
use Rattle.board_rules.specs.Switches.{switch, byte_of}
use Rattle.board_rules.specs.Of6036.{offered, switches_for, byte_for}
use Rattle.board_rules.specs.Of6038 as of_6038
use Rattle.board_rules.specs.RoundTrip6038.{is_off_on}
use Rattle.demands.specs.Lengths.{seven_layouts, length_of}
use Rattle.demands.specs.Numbers.{◌given_when◌, first_of, among, ◌refused_by◌, ◌by_first◌}
use Rattle.demands.specs.Rules.{place_rules, date_rules, record_rules, rules_in, reading_rules, next_second_rules, writing_rules, count_rules, utc_rules, step_rules}
use Rattle.demands.specs.Demand1.{ReadingRefuses, TheLayoutRefuses, ScanningRefuses, WritingRefuses, WritingOneMoreRefuses, TheFirstRefusalEndsIt, TheRuleRefuses}
use Rattle.demands.specs.Demand1.{TheNextSecondRefuses, CountingRefuses, TheSeasonShiftRefuses, UtcSecondsRefuse, TheStepRefuses, TheParameterByteRefuses}
use Rattle.demands.specs.Demand1.{TheParameterByteOfA6038Refuses, TheCalendarRefuses, ARefusedTelegramChangesNoByte, ARefusedOneMoreChangesNoByte, ARefusedClockComesBackUnchanged}
use Rattle.demands.proofs.Refusing.{else_nothing, by_lowest, unless_by, tested, refuses, gives}
use Rattle.demands.proofs.TableLengths.{found}
use Rattle.demands.proofs.RulesHold.{record_rules_law, next_second_rules_law, reading_rules_law, writing_rules_law, count_rules_law, utc_rules_law, step_rules_law}

-- one telegram read
abbrev to_eight : List ℕ
to_eight = 1 ∷ 2 ∷ 3 ∷ 4 ∷ 5 ∷ 6 ∷ 7 ∷ 8 ∷ []

pub demand_1_reading : ReadingRefuses
demand_1_reading order control bytes =
    refuses to_eight (read_in order control bytes) (reading_rules order control bytes) (reading_rules_law order control bytes) (go (layout_of (body_in order control bytes)))
  where
    -- which numbers, and in which order, does not hang on what holds
    with_record_law : (rec : Record)
        → tested to_eight (1 given_when true ∷ 2 given_when true ∷ 3 given_when true ∷ 4 given_when true ∷ 5 given_when true ∷ record_rules rec) ≡ true
    with_record_law (Dated layout status weekday date time) = refl
    with_record_law (TimeOnly layout time) = refl

    go : (o : Outcome Layout) → tested to_eight (1 given_when true ∷ rules_in order control bytes o) ≡ true
    go (done layout) = with_record_law (carried layout (body_in order control bytes))
    go (refused n) = refl

-- one telegram written, and one more
abbrev in_writing : List ℕ
in_writing = 5 ∷ 6 ∷ 7 ∷ 8 ∷ 12 ∷ 13 ∷ 14 ∷ []

writing_tested : (choice : Choice) (rec : Record) (room : ℕ) → tested in_writing (writing_rules choice rec room) ≡ true
writing_tested (Named setting) (Dated layout status weekday date time) room = refl
writing_tested (Named setting) (TimeOnly layout time) room = refl
writing_tested (NamedIn setting order) (Dated layout status weekday date time) room = refl
writing_tested (NamedIn setting order) (TimeOnly layout time) room = refl
writing_tested Unnamed (Dated layout status weekday date time) room = refl
writing_tested Unnamed (TimeOnly layout time) room = refl

pub demand_1_layout : TheLayoutRefuses
demand_1_layout body =
    by_lowest (layout_of body) (1 given_when not (among (map (length_of false) seven_layouts) (length body)) ∷ []) refl (found body)

-- none of the rules of places gives a number twice
fault_first : (characters decimals codes : Bool)
    → fault_of characters decimals codes ≡ first_of (3 given_when not characters ∷ 4 given_when not decimals ∷ 5 given_when not codes ∷ [])
fault_first characters decimals codes =
    ap (λ n. 3 when not characters else (4 when not decimals else n)) (sym (else_nothing (5 when not codes)))

pub demand_1_scanning : ScanningRefuses
unfolding found_in
demand_1_scanning row bytes =
    gives (3 ∷ 4 ∷ 5 ∷ []) (found_in row bytes).fault (place_rules row bytes)
    (fault_first (every fixed_holds row bytes) (every decimal_holds row bytes) (every code_holds row bytes)) refl

pub demand_1_writing : WritingRefuses
demand_1_writing choice rec room =
    refuses in_writing (written choice rec room) (writing_rules choice rec room) (writing_rules_law choice rec room) (writing_tested choice rec room)

-- one more goes into the room after the last, and ends as its write does
ends_so : (several : Several) (w : Outcome (List ℕ)) → after {B = Unit {0}} (ending_answer (one_more several (size_of w)).ending) (λ v. done tt) ≡ after w (λ v. done tt)
ends_so several (done bytes) = refl
ends_so several (refused n) = refl

ending_so : (choice : Choice) (several : Several) (rec : Record) (buffer : List ℕ) → several.ending ≡ ending.Whole
    → ending_answer (several_after choice several (rec ∷ []) buffer).0.ending by_first writing_rules choice rec (length buffer - several.used)
ending_so choice several rec buffer whole =
    let tail = drop several.used buffer in
    ap (λ s. after (ending_answer s.0.ending) (λ v. done tt)) (one_more_law choice several buffer whole rec _ _ refl)
    ∙ ap (λ a. after (ending_answer (one_more several a).ending) (λ v. done tt)) (laid_answer (telegram_for choice rec) tail)
    ∙ ends_so several (written choice rec (length tail))
    ∙ ap (λ k. after (written choice rec k) (λ v. done tt)) (length-drop several.used buffer)
    ∙ writing_rules_law choice rec (length buffer - several.used)

pub demand_1_one_more : WritingOneMoreRefuses
demand_1_one_more choice several rec buffer whole =
    let room = length buffer - several.used in
    refuses in_writing (ending_answer (several_after choice several (rec ∷ []) buffer).0.ending) (writing_rules choice rec room) (ending_so choice several rec buffer whole)
    (writing_tested choice rec room)

pub demand_1_first_refusal : TheFirstRefusalEndsIt
demand_1_first_refusal choice several rec buffer n is = ended_before choice several buffer (rec ∷ []) n is

pub demand_1_no_byte : ARefusedTelegramChangesNoByte
demand_1_no_byte choice rec buffer n e = refused_is_untouched (telegram_for choice rec) buffer n e

pub demand_1_no_byte_of_several : ARefusedOneMoreChangesNoByte
demand_1_no_byte_of_several choice several rec buffer n is = go several.ending refl
  where
    tail : List ℕ
    tail = drop several.used buffer

    laid_in : (answer : Outcome ℕ) (last : List ℕ) → laid (telegram_for choice rec) tail ≡ (answer, last) → (one_more several answer).ending ≡ ending.Refused n
        → take several.used buffer ++ last ≡ buffer
    laid_in (done k) last told e = cc
    laid_in (refused k) last told e =
        ap (◌++◌ (take several.used buffer)) (stops (telegram_for choice rec) tail k last told).1 ∙ take-append-drop several.used buffer

    go : (end : Ending) → several.ending ≡ end → (several_after choice several (rec ∷ []) buffer).1 ≡ buffer
    go ending.Whole whole =
        let so = one_more_law choice several buffer whole rec _ _ refl in
        ap (λ s. s.1) so ∙ laid_in _ _ refl (ap (λ s. s.0.ending) (sym so) ∙ is)
    go (ending.Refused k) ended = ap (λ s. s.1) (ended_before choice several buffer (rec ∷ []) k ended)

-- a record, its next second, its UTC seconds, and the station clock
pub demand_1_rule : TheRuleRefuses
demand_1_rule rec = gives (5 ∷ 6 ∷ 7 ∷ 8 ∷ []) (refusal_of rec) (record_rules rec) (record_rules_law rec) (go rec)
  where
    go : (rec : Record) → tested (5 ∷ 6 ∷ 7 ∷ 8 ∷ []) (record_rules rec) ≡ true
    go (Dated layout status weekday date time) = refl
    go (TimeOnly layout time) = refl

pub demand_1_next_second : TheNextSecondRefuses
demand_1_next_second rec = refuses (5 ∷ 6 ∷ 7 ∷ 8 ∷ 12 ∷ []) (next_second_of rec) (next_second_rules rec) (next_second_rules_law rec) (go rec)
  where
    go : (rec : Record) → tested (5 ∷ 6 ∷ 7 ∷ 8 ∷ 12 ∷ []) (next_second_rules rec) ≡ true
    go (Dated layout status weekday date time) = refl
    go (TimeOnly layout time) = refl

abbrev with_date : List ℕ
with_date = 5 ∷ 6 ∷ 7 ∷ 8 ∷ 12 ∷ 14 ∷ []

twelve_and_fourteen : (rec : Record) (a b : Bool) → tested with_date (record_rules rec ++ 12 given_when a ∷ 14 given_when b ∷ []) ≡ true
twelve_and_fourteen (Dated layout status weekday date time) a b = refl
twelve_and_fourteen (TimeOnly layout time) a b = refl

pub demand_1_count : CountingRefuses
demand_1_count rec = refuses with_date (count_of rec) (count_rules rec) (count_rules_law rec) (twelve_and_fourteen rec _ _)

pub demand_1_utc : UtcSecondsRefuse
demand_1_utc rec = refuses with_date (utc_seconds rec) (utc_rules rec) (utc_rules_law rec) (twelve_and_fourteen rec _ _)

pub demand_1_step : TheStepRefuses
demand_1_step clock =
    refuses with_date (step_of clock).answer (step_rules clock.rec) (step_rules_law clock) (twelve_and_fourteen clock.rec _ _)

pub demand_1_clock_unchanged : ARefusedClockComesBackUnchanged
demand_1_clock_unchanged = refused_is_unchanged

-- the season shift, the parameter byte and the calendar
one_rule : {A : Type 0} (n : ℕ) (holds : Bool) (value : A) → unless (n when holds) value refused_by n given_when holds ∷ []
one_rule n holds value =
    by_lowest (unless (n when holds) value) (n given_when holds ∷ []) refl (unless_by (n when holds) value (n given_when holds ∷ []) (sym (else_nothing (n when holds))))

-- a UTC second is in the calendar where the local one is as far ahead of it as the shift
outside : (local : LocalSeconds) (daylight : Bool)
    → is_outside local daylight ≡ not (inside (season_shift daylight) local.0 (season_shift daylight + 3155759999))
outside local daylight = go (ltb local.0 (season_shift daylight)) refl
  where
    shift : ℕ
    shift = season_shift daylight

    end : (late : Bool) → leb calendar_seconds (local.0 - shift) ≡ late → shift ≤ local.0 → late ≡ not (leb local.0 (shift + 3155759999))
    end true e from = let late = leb-true calendar_seconds (local.0 - shift) e in rw (lt-leb local.0 (shift + 3155759999) (omega arith))
    end false e from = let in_time = leb-false calendar_seconds (local.0 - shift) e in rw (le-leb local.0 (shift + 3155759999) (omega arith))

    go : (early : Bool) → ltb local.0 shift ≡ early
        → (early || leb calendar_seconds (local.0 - shift)) ≡ not (inside shift local.0 (shift + 3155759999))
    go true e = rw (lt-leb shift local.0 (ltb-true local.0 shift e))
    go false e = let from = ltb-false local.0 shift e in rw (le-leb shift local.0 from) (end (leb calendar_seconds (local.0 - shift)) refl from)

pub demand_1_season_shift : TheSeasonShiftRefuses
unfolding to_utc
demand_1_season_shift local daylight =
    rw (outside local daylight)
    (one_rule 12 (not (inside (season_shift daylight) local.0 (season_shift daylight + 3155759999))) (record { 0 = local.0 - season_shift daylight }))

pub demand_1_parameter : TheParameterByteRefuses
unfolding byte_for
demand_1_parameter setting = one_rule 16 (not (offered setting)) (byte_of (switches_for setting))

-- the four positions of switches 3 and 4
listed : (byte : ℕ) → of_6038.parameter_in byte by_first 16 given_when is_off_on byte ∷ []
unfolding of_6038.parameter_in unless
listed byte = go (switch 3 byte) (switch 4 byte)
  where
    go : (third fourth : Bool) → after (of_6038.parity_at third fourth) (λ parity. done (of_6038.setting_with byte parity)) by_first 16 given_when (not third && fourth) ∷ []
    go true true = refl
    go true false = refl
    go false true = refl
    go false false = refl

pub demand_1_parameter_of_a_6038 : TheParameterByteOfA6038Refuses
unfolding of_6038.byte_for
demand_1_parameter_of_a_6038 byte setting = (
  by_lowest (of_6038.parameter_in byte) (16 given_when is_off_on byte ∷ []) refl (listed byte),
  one_rule 16 (not (of_6038.offered setting)) (byte_of (of_6038.switches_for setting)),
)

pub demand_1_calendar : TheCalendarRefuses
unfolding day_number date_of next_day second_of_day next_second time_refusal date_refusal
demand_1_calendar date time day year month =
    let range = 6 when not (date_in_range date) in
    let exists = 7 when not (day_exists date) in
    let last = 12 when is_last_day date in
    let next = date_rules date ++ 12 given_when is_last_day date ∷ [] in (
      by_lowest (day_number date) (date_rules date) refl (unless_by (range else exists) (day_of date) (date_rules date) (ap (λ n. range else n) (sym (else_nothing exists)))),
      one_rule 12 (leb 36525 day) (date_at day),
      by_lowest (next_day date) next refl
          (unless_by ((range else exists) else last) (day_after date) next
          (sym (else_assoc range exists last) ∙ ap (λ n. range else exists else n) (sym (else_nothing last)))),
      one_rule 6 (not (month_in_range year month)) (month_length year month),
      one_rule 6 (not (time_in_range time)) (seconds_of time),
      one_rule 6 (not (time_in_range time)) (time_after time, is_last_second time),
    )
