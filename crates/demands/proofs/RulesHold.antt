-- When each entry point refuses: by the first of its rules that holds. Assumes nothing.
use mathlib.Core.Path.{◌≡◌, refl, ap, sym, ◌∙◌}
use mathlib.Core.Bool.{Bool, true, false, cond, not, ◌&&◌, ◌||◌, and-false}
use mathlib.Core.List.{List, [], ◌∷◌, ◌++◌, map, append_assoc}
use Prim.Native.Nat.{ℕ, ◌+◌, ◌*◌}
use lib.Dec.{ltb}
use lib.ListN.{length}
use Rattle.refusals.specs.Refusals.{◌when◌, ◌else◌, Outcome, done, refused, unless, after}
use Rattle.refusals.proofs.Laws.{else_assoc}
use Rattle.lent_buffer.specs.Laying.{within}
use Rattle.lent_buffer.proofs.LayingLaws.{within_unless, within_refused}
use Rattle.places_rules.specs.Places.{fixed_holds, decimal_holds, code_holds, every}
use Rattle.calendar_rules.specs.Calendar.{date_in_range, day_exists, day_of, day_after}
use Rattle.calendar_rules.specs.TimeOfDay.{time_in_range, seconds_of, is_last_second, time_after}
use Rattle.record_rules.specs.declared.DatedLayout.TheVariants.{L6021}
use Rattle.record_rules.specs.declared.Record.{Record}
use Rattle.record_rules.specs.declared.Record.TheVariants.{Dated, TimeOnly}
use Rattle.record_rules.specs.Moment.{as_marked}
use Rattle.record_rules.specs.Sixty.{is_sixty, sixty_behind59, takes_sixty, up_to59}
use Rattle.record_rules.specs.Rule.{status_allowed, weekday_allowed, weekday_agrees, time_allowed, time_alone_allowed, time_alone_refusal, dated_refusal, refusal_of, carries_date}
use Rattle.record_rules.specs.Next.{weekday_after, record_after, is_last_of_calendar, next_second_of}
use Rattle.record_rules.specs.Utc.{none_follows, count_of, utc_seconds}
use Rattle.record_rules.proofs.UtcLaws.{time_count, count_lowest_first, utc_lowest_first}
use Rattle.layouts_rules.specs.declared.Layout.{Layout}
use Rattle.layouts_rules.specs.Layouts.{places_of, own_layout, layout_of}
use Rattle.trailer_rules.specs.declared.Order.{Order}
use Rattle.trailer_rules.specs.declared.Order.TheVariants.{AsPrinted}
use Rattle.telegram_rules.specs.declared.write.Setting.{Setting}
use Rattle.telegram_rules.specs.declared.write.Choice.{Choice}
use Rattle.telegram_rules.specs.declared.write.Choice.TheVariants.{Named, NamedIn, Unnamed}
use Rattle.telegram_rules.specs.Reading.{body_in, framed, carried, body_refusal, read_in}
use Rattle.telegram_rules.specs.Writing.{telegram_in, as6021, judged_of, record_by, record_to_write, control_of, order_of, telegram_for, written}
use Rattle.clock.specs.declared.Clock.{Clock}
use Rattle.clock.specs.Stepping.{step_of}
use Rattle.clock.proofs.StepLaws.{lowest_first}
use Rattle.demands.specs.Lengths.{seven_layouts, length_of}
use Rattle.demands.specs.Numbers.{Rule, ◌given_when◌, among, first_of, ◌by_first◌}
use Rattle.demands.specs.Rules.{record_rules, rules_in, reading_rules, next_second_rules, setting_rules, writing_rules, count_rules, is_before_utc, utc_rules, step_rules}
use Rattle.demands.proofs.TableLengths.{telegram_length, found, length_in_table}
use Rattle.demands.proofs.Refusing.{else_nothing, first_of_both, unless_by, then_by}

-- the rule for a record
pub record_rules_law : (rec : Record) → refusal_of rec ≡ first_of (record_rules rec)
unfolding dated_refusal time_allowed time_alone_allowed time_alone_refusal
record_rules_law (Dated layout status weekday date time) =
    ap (λ n. 5 when not (status_allowed layout status && weekday_allowed weekday)
    else 6 when not ((time_in_range time || takes_sixty status date time) && date_in_range date)
    else 7 when not (day_exists date)
    else n)
    (sym (else_nothing (8 when not (weekday_agrees weekday date))))
record_rules_law (TimeOnly layout time) = sym (else_nothing (6 when not (time_in_range time || sixty_behind59 time)))

-- a number behind the record's
behind_record : (rec : Record) (n : ℕ) (rules : List Rule) → n ≡ first_of rules → (refusal_of rec else n) ≡ first_of (record_rules rec ++ rules)
behind_record rec n rules e =
    ap (λ k. k else n) (record_rules_law rec) ∙ ap (λ k. first_of (record_rules rec) else k) e ∙ sym (first_of_both (record_rules rec) rules)

next_second_number : (rec : Record) → (refusal_of rec else 12 when is_last_of_calendar rec) ≡ first_of (next_second_rules rec)
next_second_number rec =
    behind_record rec (12 when is_last_of_calendar rec) (12 given_when is_last_of_calendar rec ∷ []) (sym (else_nothing (12 when is_last_of_calendar rec)))

pub next_second_rules_law : (rec : Record) → next_second_of rec by_first next_second_rules rec
unfolding next_second_of
next_second_rules_law rec = unless_by _ (record_after rec) (next_second_rules rec) (next_second_number rec)

-- reading
in_layout : (order : Order) (control : Bool) (bytes : List ℕ) (layout : Layout)
    → unless (2 when (control && not (framed bytes)) else body_refusal layout (body_in order control bytes)) (carried layout (body_in order control bytes))
    by_first rules_in order control bytes (done layout)
unfolding body_refusal
in_layout order control bytes layout =
    let body = body_in order control bytes in
    let fixed = not (every fixed_holds (places_of layout) body) in
    let decimals = not (every decimal_holds (places_of layout) body) in
    let codes = not (every code_holds (places_of layout) body) in
    unless_by _ (carried layout body) (rules_in order control bytes (done layout))
    (ap (λ n. 2 when (control && not (framed bytes)) else n)
    (sym (else_assoc (3 when fixed) (4 when decimals else 5 when codes) (refusal_of (carried layout body)))
    ∙ ap (λ n. 3 when fixed else n) (sym (else_assoc (4 when decimals) (5 when codes) (refusal_of (carried layout body))))
    ∙ ap (λ n. 3 when fixed else 4 when decimals else 5 when codes else n) (record_rules_law (carried layout body))))

pub reading_rules_law : (order : Order) (control : Bool) (bytes : List ℕ) → read_in order control bytes by_first reading_rules order control bytes
unfolding read_in unless
reading_rules_law order control bytes =
    go (λ layout. unless (2 when (control && not (framed bytes)) else body_refusal layout body) (carried layout body)) (layout_of body)
    (not (among (map (length_of control) seven_layouts) (length bytes)))
    (found body ∙ ap (λ t. unless (first_of (1 given_when not t ∷ [])) tt) (length_in_table order control bytes))
    (in_layout order control bytes)
  where
    body : List ℕ
    body = body_in order control bytes

    go : (next : Layout → Outcome Record) (o : Outcome Layout) (wrong : Bool) → o by_first 1 given_when wrong ∷ []
        → ((layout : Layout) → next layout by_first rules_in order control bytes (done layout))
        → after o next by_first 1 given_when wrong ∷ rules_in order control bytes o
    go next (done layout) false e on = on layout
    go next (done layout) true e on = cc
    go next (refused n) wrong e on = e

-- writing
pub next_layout : (rec : Record) → own_layout (record_after rec) ≡ own_layout rec
next_layout (Dated layout status weekday date time) = go (is_last_second (up_to59 time))
  where
    go : (last : Bool)
        → own_layout (cond last (Dated layout status (weekday_after weekday) (day_after date) (time_after (up_to59 time))) (Dated layout status weekday date (time_after (up_to59 time))))
        ≡ own_layout (Dated layout status weekday date time)
    go true = refl
    go false = refl
next_layout (TimeOnly layout time) = refl

in_room : (order : Order) (control : Bool) (rec : Record) (room size : ℕ) → length (telegram_in order control rec) ≡ size
    → within room (done (telegram_in order control rec)) by_first 13 given_when ltb room size ∷ []
in_room order control rec room size e =
    ap (λ o. after o (λ v. done tt)) (within_unless room (telegram_in order control rec))
    ∙ unless_by _ (telegram_in order control rec) (13 given_when ltb room size ∷ []) (ap (λ n. 13 when ltb room n) e ∙ sym (else_nothing (13 when ltb room size)))

unnamed : (rec : Record) (room : ℕ)
    → after (as6021 rec) (λ r. within room (done (telegram_in AsPrinted true r))) by_first 13 given_when (carries_date rec && ltb room 18) ∷ 14 given_when not (carries_date rec) ∷ []
unfolding unless
unnamed (Dated layout status weekday date time) room =
    in_room AsPrinted true (Dated L6021 status weekday date time) room 18 (telegram_length AsPrinted true (Dated L6021 status weekday date time))
unnamed (TimeOnly layout time) room = refl

-- one thing after another, and another after it
after_both : {A B C : Type 0} (o : Outcome A) (f : A → Outcome B) (g : B → Outcome C) → after (after o f) g ≡ after o (λ a. after (f a) g)
after_both (done value) f g = refl
after_both (refused n) f g = refl

-- a telegram that is made is held to the room
written_so : (choice : Choice) (rec : Record) (room : ℕ)
    → written choice rec room ≡ after (record_to_write choice rec) (λ r. within room (done (telegram_in (order_of choice) (control_of choice) r)))
unfolding telegram_for
written_so choice rec room = go (record_to_write choice rec)
  where
    go : (o : Outcome Record)
        → within room (after o (λ r. done (telegram_in (order_of choice) (control_of choice) r))) ≡ after o (λ r. within room (done (telegram_in (order_of choice) (control_of choice) r)))
    go (done r) = refl
    go (refused n) = within_refused room n

-- a setting in an order
setting_rules_law : (order : Order) (setting : Setting) (rec : Record) (room : ℕ)
    → after (record_by setting rec) (λ r. within room (done (telegram_in order setting.control r))) by_first setting_rules setting rec room
unfolding next_second_of
setting_rules_law order setting rec room = go setting.advance
  where
    control : Bool
    control = setting.control

    short : List Rule
    short = 13 given_when ltb room (length_of setting.control (own_layout rec)) ∷ []

    lays : Record → Outcome (List ℕ)
    lays r = within room (done (telegram_in order setting.control r))

    go : (advance : Bool) → after (cond advance (next_second_of rec) (judged_of rec)) lays by_first record_rules rec ++ 12 given_when (advance && is_last_of_calendar rec) ∷ short
    go true =
        then_by (refusal_of rec else 12 when is_last_of_calendar rec) (record_after rec) lays (next_second_rules rec) short (next_second_number rec)
        (in_room order control (record_after rec) room _ (telegram_length order control (record_after rec) ∙ ap (length_of control) (next_layout rec)))
        ∙ ap (λ rules. unless (first_of rules) tt) (append_assoc (record_rules rec) (12 given_when is_last_of_calendar rec ∷ []) short)
    go false =
        then_by (refusal_of rec) rec lays (record_rules rec) (12 given_when false ∷ short) (record_rules_law rec)
        (in_room order control rec room _ (telegram_length order control rec))

pub writing_rules_law : (choice : Choice) (rec : Record) (room : ℕ) → written choice rec room by_first writing_rules choice rec room
writing_rules_law (Named setting) rec room =
    ap (λ o. after o (λ v. done tt)) (written_so (Named setting) rec room) ∙ setting_rules_law AsPrinted setting rec room
writing_rules_law (NamedIn setting order) rec room =
    ap (λ o. after o (λ v. done tt)) (written_so (NamedIn setting order) rec room) ∙ setting_rules_law order setting rec room
writing_rules_law Unnamed rec room =
    ap (λ o. after o (λ v. done tt)) (written_so Unnamed rec room ∙ after_both (judged_of rec) as6021 (λ r. within room (done (telegram_in AsPrinted true r))))
    ∙ then_by (refusal_of rec) rec (λ good. after (as6021 good) (λ r. within room (done (telegram_in AsPrinted true r)))) (record_rules rec) _ (record_rules_law rec) (unnamed rec room)

-- a count of seconds, UTC seconds and the station clock
no_date : (wrong outside : Bool) → outside ≡ false
    → refused (6 when wrong else 14) ≡ unless {A = Unit {0}} (6 when wrong else 12 when outside else 14) tt
unfolding unless
no_date true outside e = refl
no_date false outside e = rw e

pub count_rules_law : (rec : Record) → count_of rec by_first count_rules rec
unfolding time_alone_refusal time_alone_allowed
count_rules_law (Dated layout status weekday date time) =
    let rec = Dated layout status weekday date time in
    let last = 12 when none_follows rec in
    ap (λ o. after o (λ v. done tt)) (count_lowest_first layout status weekday date time)
    ∙ unless_by (refusal_of rec else last) (as_marked status.utc (86400 * day_of date + seconds_of time)) (count_rules rec)
    (behind_record rec last (12 given_when none_follows rec ∷ 14 given_when false ∷ []) (sym (else_nothing last)))
count_rules_law (TimeOnly layout time) =
    ap (λ o. after o (λ v. done tt)) (time_count layout time) ∙ no_date (not (time_in_range time || sixty_behind59 time)) _ (and-false (is_sixty time))

pub utc_rules_law : (rec : Record) → utc_seconds rec by_first utc_rules rec
unfolding time_alone_refusal time_alone_allowed
utc_rules_law (Dated layout status weekday date time) =
    let rec = Dated layout status weekday date time in
    let outside = 12 when (none_follows rec || is_before_utc rec) in
    utc_lowest_first layout status weekday date time
    ∙ ap (λ n. unless n tt) (behind_record rec outside (12 given_when (none_follows rec || is_before_utc rec) ∷ 14 given_when false ∷ []) (sym (else_nothing outside)))
utc_rules_law (TimeOnly layout time) =
    no_date (not (time_in_range time || sixty_behind59 time)) (is_sixty time && false || false) (rw (and-false (is_sixty time)))

pub step_rules_law : (clock : Clock) → (step_of clock).answer by_first step_rules clock.rec
step_rules_law clock =
    let last = 12 when is_last_of_calendar clock.rec in
    let dateless = 14 when not (carries_date clock.rec) in
    ap (λ o. after o (λ v. done tt)) (lowest_first clock)
    ∙ unless_by _ tt (step_rules clock.rec)
    (behind_record clock.rec (last else dateless) _ (ap (λ n. last else n) (sym (else_nothing dateless))))
