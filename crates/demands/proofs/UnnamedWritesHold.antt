-- Document 02, e, holds. Assumes nothing.
use mathlib.Core.Path.{◌≡◌, refl, ap, sym, ◌∙◌}
use mathlib.Core.Bool.{Bool, true, false, cond, not}
use mathlib.Core.List.{List, [], ◌∷◌, ◌++◌, map, append-nil}
use Prim.Native.Nat.{ℕ, zero, suc, ◌+◌, ◌-◌, ◌*◌, ◌%◌, ◌^◌, ◌≤◌}
use native.Mathlib.Nat.{add-zero, zero-add}
use native.Mathlib.Omega.{arith}
use lib.Dec.{eqb}
use lib.ListN.{length, take, drop, length-append, length-map}
use lib.Seq.{take_at}
use Rattle.refusals.specs.Refusals.{Outcome, done, refused, unless, after}
use Rattle.refusals.specs.Tables.{EachHolds}
use Rattle.refusals.proofs.Laws.{both, does, refuses, was_done}
use Rattle.lent_buffer.specs.Endings.{Whole}
use Rattle.lent_buffer.specs.Laying.{within, laid}
use Rattle.lent_buffer.specs.OneBehindAnother.{joined, part_then, one_behind_another}
use Rattle.lent_buffer.proofs.LayingLaws.{within_short, within_fits, within_refused, within_done}
use Rattle.lent_buffer.proofs.OneBehindAnotherLaws.{no_part, first_part}
use Rattle.ascii.specs.Control.{stx, etx}
use Rattle.places_rules.specs.Places.{code_character, render}
use Rattle.calendar_rules.specs.Calendar.{is_leap, month_length, month_in_range, date_in_range, day_exists, month_start, day_of}
use Rattle.calendar_rules.specs.TimeOfDay.{time_in_range}
use Rattle.record_rules.specs.declared.DatedLayout.{DatedLayout}
use Rattle.record_rules.specs.declared.DatedLayout.TheVariants.{L6021, L2000, L5500, L5050}
use Rattle.record_rules.specs.declared.Record.{Record}
use Rattle.record_rules.specs.declared.Record.TheVariants.{Dated, TimeOnly}
use Rattle.record_rules.specs.Rule.{status_allowed, weekday_allowed, weekday_agrees, time_allowed, dated_refusal, refusal_of, carries_date}
use Rattle.record_rules.specs.Next.{record_after, next_second_of}
use Rattle.layouts_rules.specs.declared.Layout.TheVariants as layouts
use Rattle.layouts_rules.specs.Layouts.{places_of, own_layout}
use Rattle.layouts_rules.specs.Coding.{status_out6021}
use Rattle.trailer_rules.specs.declared.Order.TheVariants.{AsPrinted}
use Rattle.telegram_rules.specs.declared.write.Setting.{Setting}
use Rattle.telegram_rules.specs.declared.write.Choice.{Choice}
use Rattle.telegram_rules.specs.declared.write.Choice.TheVariants.{Named, NamedIn, Unnamed}
use Rattle.telegram.specs.SeveralTelegrams.{with_more, unless_ended, several_after}
use Rattle.telegram_rules.specs.Writing.{body_bytes, telegram_in, telegram_of, as6021, judged_of, record_by, record_to_write, control_of, order_of, telegram_for, next_telegram, telegrams_in}
use Rattle.telegram_rules.proofs.WriteLaws.{telegram_refused, telegram_made, was_made}
use Rattle.telegram_rules.proofs.ReadsBack.{written_is_good}
use Rattle.telegram.proofs.SeveralLaws.{stood_as, several_stand}
use Rattle.line.specs.declared.Reader.{Reader}
use Rattle.line_rules.specs.Hearing.{Event}
use Rattle.line_rules.specs.Line.{is_plain, all_plain}
use Rattle.line.specs.Cuts.{Calls}
use Rattle.line_rules.specs.SentLine.{Sent, bytes_sent, no_stx, events_sent, stray_sent}
use Rattle.line_rules.proofs.SentLaws.{plain_body}
use Rattle.demands.specs.Lengths.{length_of}
use Rattle.demands.specs.Demand2.{Good}
use Rattle.demands.specs.Demand3.{GoodTelegrams, NoStxAround, GivesBack, HandsBack}
use Rattle.demands.specs.UnnamedWrites.{named, unnamed_before, next_before, TheBytesOfBeforeBetweenStxAndEtx, BeforeAllBytesWereStray, TheLineReaderSeesIt}
use Rattle.demands.specs.UnnamedWrites.{UnnamedMeans6021WithControlCharacters, ItHas18Bytes, TimeAloneIsStill14, TheRecordsOwnComesFirst, GoodDated, form6021, every_eighteen}
use Rattle.demands.specs.UnnamedWrites.{SeveralFollow, Is6021, NamedBareDoesWhatUnnamedDid, SeveralNamedBareDoSo, NoChoiceMakesAnothersBare6021, UnnamedWritesAreAsAskedFor}
use Rattle.demands.proofs.TableLengths.{telegram_length}
use Rattle.demands.proofs.RulesHold.{next_layout}
use Rattle.demands.proofs.Demand2Holds.{made_itself}
use Rattle.demands.proofs.Demand3Holds.{demand_3_hands_back_that_list, demand_3_using_up_hands_back}

between : TheBytesOfBeforeBetweenStxAndEtx
unfolding telegram_for
between rec room = ap (within room) (go (record_to_write Unnamed rec))
  where
    go : (o : Outcome Record)
        → after o (λ r. done (telegram_of true r)) ≡ after (after o (λ r. done (telegram_of false r))) (λ body. done (stx ∷ body ++ etx ∷ []))
    go (done r) = refl
    go (refused n) = refl

-- a record's 6021 form is a 6021
form_layout : (rec form : Record) → as6021 rec ≡ done form → Is6021 form
form_layout (Dated layout status weekday date time) form e =
    let is : Dated L6021 status weekday date time ≡ form = cc in ap own_layout (sym is)
form_layout (TimeOnly layout time) form e = cc

has_form : (rec : Record) → carries_date rec ≡ true → as6021 rec ≡ done (form6021 rec)
has_form (Dated layout status weekday date time) dated = refl
has_form (TimeOnly layout time) dated = cc

-- of a good record with a date the telegram of its 6021 form is written, which is good too
module _ (rec : Record) (fine : GoodDated rec) where
  asked : record_to_write Unnamed rec ≡ done (form6021 rec)
  asked = ap (λ o. after o as6021) (does rec fine.0) ∙ has_form rec fine.1

  form_good : Good (form6021 rec)
  form_good = written_is_good Unnamed rec (form6021 rec) asked

  made : telegram_for Unnamed rec ≡ done (telegram_of true (form6021 rec))
  made = telegram_made Unnamed rec AsPrinted true (form6021 rec) asked refl refl

  eighteen : length (telegram_of true (form6021 rec)) ≡ 18
  eighteen = telegram_length AsPrinted true (form6021 rec) ∙ ap (length_of true) (form_layout rec (form6021 rec) (has_form rec fine.1))

means : UnnamedMeans6021WithControlCharacters
means rec room fine =
    ap (within room) (made rec fine ∙ sym (telegram_made (named true) (form6021 rec) AsPrinted true (form6021 rec) (does (form6021 rec) (form_good rec fine)) refl refl))

has_18_bytes : ItHas18Bytes
has_18_bytes rec room fine =
    let size = eighteen rec fine in (
      size,
      λ fits. ap (within room) (made rec fine) ∙ within_fits room (telegram_of true (form6021 rec)) (omega (arith, size)),
      λ short. ap (within room) (made rec fine) ∙ within_short room (telegram_of true (form6021 rec)) (omega (arith, size)),
    )

-- what is refused has no telegram, whatever the room
no_telegram : (rec : Record) (n room : ℕ) → record_to_write Unnamed rec ≡ refused n → within room (telegram_for Unnamed rec) ≡ refused n
no_telegram rec n room e = ap (within room) (telegram_refused Unnamed rec n e) ∙ within_refused room n

time_alone : TimeAloneIsStill14
time_alone layout time room good = no_telegram (TimeOnly layout time) 14 room (ap (λ o. after o as6021) (does (TimeOnly layout time) good))

own_first : TheRecordsOwnComesFirst
own_first rec room bad = no_telegram rec (refusal_of rec) room (ap (λ o. after o as6021) (sym (refuses rec refl bad)))

-- The line. The telegrams of 6021 forms one behind another, as demand 3 has them: nothing before each.
abbrev telegram : Record → List ℕ
telegram rec = telegram_of true (form6021 rec)

abbrev alone : Record → Sent
alone rec = record { before = []; rec = form6021 rec }

sent_bytes : (recs : List Record) → bytes_sent AsPrinted (map alone recs) [] ≡ joined (map telegram recs)
sent_bytes [] = refl
sent_bytes (rec ∷ recs) = ap (◌++◌ (telegram rec)) (sent_bytes recs)

no_stray : (recs : List Record) → stray_sent (map alone recs) [] ≡ 0
no_stray [] = refl
no_stray (rec ∷ recs) = zero-add (stray_sent (map alone recs) []) ∙ no_stray recs

nothing_around : (recs : List Record) → NoStxAround (map alone recs) []
nothing_around [] = refl
nothing_around (rec ∷ recs) = (refl, nothing_around recs)

all_good_law : (recs : List Record) → EachHolds GoodDated recs → GoodTelegrams (map alone recs)
all_good_law [] fine = tt
all_good_law (rec ∷ recs) fine = (form_good rec fine.0, all_good_law recs fine.1)

events : (from : ℕ) (recs : List Record) → EachHolds GoodDated recs → events_sent AsPrinted from (map alone recs) ≡ every_eighteen from recs
events from [] fine = refl
events from (rec ∷ recs) fine =
    let size = eighteen rec fine.0 in
    let next : from + 0 + length (telegram rec) ≡ from + 18 = omega (arith, size) in
    (λ i. Event (done (form6021 rec)) (add-zero from i % 2 ^ 32) (size i) ∷ events_sent AsPrinted (next i) (map alone recs))
    ∙ ap (◌∷◌ (Event (done (form6021 rec)) (from % 2 ^ 32) 18)) (events (from + 18) recs fine.1)

-- a body has no STX
plain_no_stx : (bytes : List ℕ) → all_plain bytes ≡ true → no_stx bytes ≡ true
plain_no_stx [] plain = refl
plain_no_stx (byte ∷ bytes) plain =
    let parts = both (is_plain byte) (all_plain bytes) plain in
    rw ((both (not (eqb byte stx)) _ parts.0).0, plain_no_stx bytes parts.1)

-- by any call that hands back what demand 3 says
module _ (call : Reader → List ℕ → Calls) (demand : HandsBack call) where
  forms_come_back : (recs : List Record) → EachHolds GoodDated recs → GivesBack call AsPrinted (joined (map telegram recs)) (every_eighteen 0 recs) 0
  forms_come_back recs fine served cut used =
      let back = demand AsPrinted (map alone recs) [] (all_good_law recs fine) (nothing_around recs) served (cut ∙ sym (sent_bytes recs)) used in
      (back.0 ∙ events 0 recs fine, back.1 ∙ ap (λ n. n % 4294967296) (no_stray recs), back.2)

  sees_it : TheLineReaderSeesIt call
  sees_it rec room bytes fine e served cut used =
      let same : done (telegram rec) ≡ done bytes = sym (made rec fine) ∙ (within_done room (telegram_for Unnamed rec) bytes e).0 in
      let is : telegram rec ≡ bytes = cc in
      forms_come_back (rec ∷ []) (fine, tt) served (cut ∙ sym is ∙ sym (append-nil (telegram rec))) used

  -- what was written before is the body of a 6021
  was_stray : BeforeAllBytesWereStray call
  was_stray rec bytes = go (after (judged_of rec) as6021) refl
    where
      go : (o : Outcome Record) → after (judged_of rec) as6021 ≡ o → after o (λ r. done (telegram_of false r)) ≡ done bytes → GivesBack call AsPrinted bytes [] 16
      go (done form) is e = λ served cut used.
          let body : body_bytes form ≡ bytes = cc in
          let a_6021 = form_layout rec form (sym (made_itself (refusal_of rec) rec form is) ∙ is) in
          let size : length bytes ≡ 16 = ap length (sym body) ∙ telegram_length AsPrinted false form ∙ ap (length_of false) a_6021 in
          let back = demand AsPrinted [] bytes tt (ap no_stx (sym body) ∙ plain_no_stx (body_bytes form) (plain_body AsPrinted form)) served cut used in
          (back.0, back.1 ∙ ap (λ n. n % 4294967296) size, back.2)
      go (refused n) is e = cc

-- Several, where there is room for all.
all_stand : (recs : List Record) → EachHolds GoodDated recs → (room : ℕ) → 18 * length recs ≤ room
    → telegrams_in Unnamed room recs ≡ record { parts = map telegram recs; left = []; ending = Whole }
all_stand [] fine room fits = no_part (next_telegram Unnamed) 0 room [] refl
all_stand (rec ∷ recs) fine room fits =
    let size = eighteen rec fine.0 in
    let rest = all_stand recs fine.1 (room - length (telegram rec)) (omega (arith, size)) in
    first_part (next_telegram Unnamed) (length recs) room (rec ∷ recs) (telegram_for Unnamed rec) recs refl
    ∙ ap (λ o. part_then o (rec ∷ recs) (λ bytes. one_behind_another (next_telegram Unnamed) (length recs) (room - length bytes) recs))
    (ap (within room) (made rec fine.0) ∙ within_fits room (telegram rec) (omega (arith, size)))
    ∙ ap (λ later. record { parts = telegram rec ∷ later.parts; left = later.left; ending = later.ending }) rest

eighteen_each : (recs : List Record) → EachHolds GoodDated recs → length (joined (map telegram recs)) ≡ 18 * length recs
eighteen_each [] fine = refl
eighteen_each (rec ∷ recs) fine =
    let on = eighteen_each recs fine.1 in
    omega (arith, length-append (telegram rec) (joined (map telegram recs)), eighteen rec fine.0, on)

module _ (call : Reader → List ℕ → Calls) (demand : HandsBack call) where
  several_follow : SeveralFollow call
  several_follow recs buffer fine room =
      let all = joined (map telegram recs) in
      let size = eighteen_each recs fine in
      let stand = several_stand Unnamed recs buffer ∙ ap (λ standing. stood_as standing buffer) (all_stand recs fine (length buffer) room) in
      let written = ap (λ s. take (18 * length recs) s.1) stand ∙ take_at all (drop (length all) buffer) (18 * length recs) size in (
        ap (λ s. s.0) stand ∙ (λ i. record { count = length-map recs telegram i % 2 ^ 64; used = size i; ending = Whole }),
        λ served cut used. forms_come_back call demand recs fine served (cut ∙ written) used,
      )

-- The meter programs: a 6021 record is its own 6021 form.
bare_as_before : (rec : Record) → Is6021 rec → telegram_for (named false) rec ≡ unnamed_before rec
unfolding unless telegram_for
bare_as_before (Dated layout status weekday date time) is =
    let same : layout ≡ L6021 = cc in
    rw same (go (Dated L6021 status weekday date time) refl (refusal_of (Dated L6021 status weekday date time)))
  where
    go : (rec : Record) → as6021 rec ≡ done rec → (n : ℕ) → after (unless n rec) (λ r. done (telegram_of false r)) ≡ after (after (unless n rec) as6021) (λ r. done (telegram_of false r))
    go rec itself zero = ap (λ o. after o (λ r. done (telegram_of false r))) (sym itself)
    go rec itself (suc n) = refl
bare_as_before (TimeOnly layout time) is = cc

does_what_unnamed_did : NamedBareDoesWhatUnnamedDid
does_what_unnamed_did rec buffer is = ap (λ o. laid o buffer) (bare_as_before rec is)

stand_as_before : (n room : ℕ) (recs : List Record) → EachHolds Is6021 recs → one_behind_another (next_telegram (named false)) n room recs ≡ one_behind_another next_before n room recs
unfolding one_behind_another
stand_as_before zero room recs are = refl
stand_as_before (suc n) room [] are = refl
stand_as_before (suc n) room (rec ∷ recs) are =
    ap (λ o. part_then (within room o) (rec ∷ recs) (λ bytes. one_behind_another (next_telegram (named false)) n (room - length bytes) recs)) (bare_as_before rec are.0)
    ∙ go (within room (unnamed_before rec)) (λ less. stand_as_before n less recs are.1)
  where
    go : (o : Outcome (List ℕ)) → ((less : ℕ) → one_behind_another (next_telegram (named false)) n less recs ≡ one_behind_another next_before n less recs)
        → part_then o (rec ∷ recs) (λ bytes. one_behind_another (next_telegram (named false)) n (room - length bytes) recs)
        ≡ part_then o (rec ∷ recs) (λ bytes. one_behind_another next_before n (room - length bytes) recs)
    go (done bytes) on = ap (λ later. record { parts = bytes ∷ later.parts; left = later.left; ending = later.ending }) (on (room - length bytes))
    go (refused number) on = refl

several_do_so : SeveralNamedBareDoSo
unfolding several_after
several_do_so several recs buffer are =
    ap (λ standing. unless_ended several.ending (with_more several buffer standing) (several, buffer))
    (stand_as_before (length recs) (length buffer - several.used) recs are)

-- what a named setting writes is of the record's own layout, and has its length
own_kept : (setting : Setting) (rec r : Record) → record_by setting rec ≡ done r → own_layout r ≡ own_layout rec
unfolding next_second_of
own_kept setting rec r = go setting.advance
  where
    go : (advance : Bool) → cond advance (next_second_of rec) (judged_of rec) ≡ done r → own_layout r ≡ own_layout rec
    go true e = ap own_layout (sym (was_done _ (record_after rec) r e).1) ∙ next_layout rec
    go false e = ap own_layout (sym (was_done (refusal_of rec) rec r e).1)

not_16 : (control : Bool) (layout : DatedLayout) → (layouts.Dated layout ≡ layouts.Dated L6021 → ⊥) → length_of control (layouts.Dated layout) ≡ 16 → ⊥
not_16 control L6021 other e = other refl
not_16 true L2000 other e = absurd (omega arith)
not_16 false L2000 other e = absurd (omega arith)
not_16 true L5500 other e = absurd (omega arith)
not_16 false L5500 other e = absurd (omega arith)
not_16 true L5050 other e = absurd (omega arith)
not_16 false L5050 other e = absurd (omega arith)

no_choice : NoChoiceMakesAnothersBare6021
no_choice choice order (Dated layout status weekday date time) fine other same =
    let rec = Dated layout status weekday date time in
    let form = Dated L6021 status weekday date time in
    let written = was_made choice rec (telegram_in order false form) same in
    let size : length (telegram_in (order_of choice) (control_of choice) written.0) ≡ 16 = ap length written.2 ∙ telegram_length order false form in
    go choice written.0 written.1 (sym (telegram_length (order_of choice) (control_of choice) written.0) ∙ size)
  where
    by_setting_law : (setting : Setting) (r : Record) → record_by setting (Dated layout status weekday date time) ≡ done r
        → length_of setting.control (own_layout r) ≡ 16 → ⊥
    by_setting_law setting r e size =
        not_16 setting.control layout other (ap (length_of setting.control) (sym (own_kept setting (Dated layout status weekday date time) r e)) ∙ size)

    go : (choice : Choice) (r : Record) → record_to_write choice (Dated layout status weekday date time) ≡ done r → length_of (control_of choice) (own_layout r) ≡ 16 → ⊥
    go (Named setting) r e size = by_setting_law setting r e size
    go (NamedIn setting order) r e size = by_setting_law setting r e size
    go Unnamed r e size =
        let told : done (Dated L6021 status weekday date time) ≡ done r = sym (asked (Dated layout status weekday date time) fine) ∙ e in
        let is : Dated L6021 status weekday date time ≡ r = cc in
        let eighteen : ◌≡◌ {A = ℕ} 18 16 = ap (λ rec. length_of true (own_layout rec)) is ∙ size in
        absurd (omega arith)
no_choice choice order (TimeOnly layout time) fine other same = cc

pub unnamed_writes : UnnamedWritesAreAsAskedFor
unfolding unless within code_character render is_leap month_length month_in_range date_in_range day_exists month_start day_of time_in_range
    time_allowed status_allowed weekday_allowed weekday_agrees dated_refusal places_of status_out6021 body_bytes telegram_for
unnamed_writes = (
  between,
  was_stray _ demand_3_hands_back_that_list,
  was_stray _ demand_3_using_up_hands_back,
  sees_it _ demand_3_hands_back_that_list,
  sees_it _ demand_3_using_up_hands_back,
  means,
  has_18_bytes,
  time_alone,
  own_first,
  several_follow _ demand_3_hands_back_that_list,
  several_follow _ demand_3_using_up_hands_back,
  does_what_unnamed_did,
  several_do_so,
  no_choice,
  ((refl, refl), ((refl, refl), tt)),
)
