-- Document 02, f, holds. Assumes nothing.
use mathlib.Core.Path.{◌≡◌, refl, ap, ap₂, sym, ◌∙◌}
use mathlib.Core.Bool.{Bool, true, false, not, ◌&&◌, ◌||◌, and-false, and_comm, or_comm}
use mathlib.Core.List.{List, [], ◌∷◌, ◌++◌, map}
use Prim.Native.Nat.{ℕ, ◌-◌}
use native.Mathlib.Omega.{arith}
use lib.Dec.{eqb}
use lib.ListN.{length, take, length-append}
use borrow.Author.Tests.{eqb-true}
use Rattle.refusals.specs.Refusals.{Outcome, done, refused, unless, after}
use Rattle.lent_buffer.specs.OneBehindAnother.{Next, one_behind_another}
use Rattle.places_rules.specs.Places.{Place, fixed, fixed_holds, every, byte_at, render}
use Rattle.record_rules.specs.declared.DatedLayout.TheVariants.{L6021, L2000, L5500, L5050}
use Rattle.record_rules.specs.declared.TimeLayout.TheVariants.{T6021, T5500, T5050}
use Rattle.record_rules.specs.declared.Record.{Record}
use Rattle.record_rules.specs.declared.Record.TheVariants.{Dated, TimeOnly}
use Rattle.layouts_rules.specs.declared.Layout.{Layout}
use Rattle.layouts_rules.specs.declared.Layout.TheVariants as layouts
use Rattle.layouts_rules.specs.Layouts.{places_of, own_layout, layout_of}
use Rattle.layouts_rules.proofs.RowLaws.{row_fits}
use Rattle.layouts_rules.specs.Coding.{digits_out}
use Rattle.board_rules.proofs.Laws6038.{all_256_read_or_refused, switch_1_read_as_nothing, switch_1_written_off, read_then_write, write_then_read, off_on_never_written, not_offered_is_16}
use Rattle.trailer_rules.specs.declared.Order.{Order}
use Rattle.trailer_rules.specs.declared.Order.TheVariants.{AsPrinted, Exchanged}
use Rattle.trailer_rules.specs.Trailer.{in_order}
use Rattle.trailer_rules.proofs.TrailerLaws.{exchange_last}
use Rattle.telegram_rules.specs.declared.write.Setting.{Setting}
use Rattle.telegram_rules.specs.declared.write.Choice.TheVariants.{Named, NamedIn}
use Rattle.telegram_rules.specs.Reading.{body_refusal, read_body_as, read_in, read_of}
use Rattle.telegram.specs.SeveralTelegrams.{with_more, unless_ended, several_after}
use Rattle.telegram_rules.specs.Writing.{body_bytes, telegram_in, telegram_for, next_telegram}
use Rattle.telegram_rules.proofs.Frames.{body_of_frame, frame_is_framed}
use Rattle.telegram_rules.proofs.InOrder.{telegram_seen, read_seen, reads_back_law}
use Rattle.leitch_rules.specs.Row.{reply_row}
use Rattle.leitch_rules.specs.Writing.{reply_bytes}
use Rattle.line.proofs.OrderHolds.{every_order_is_well_formed, the_order_stays}
use Rattle.log_rules.specs.Add.{add_of}
use Rattle.log_rules.proofs.AddLaws.{own_refusal}
use Rattle.demands.specs.ProgramsOfTheLog.{adds}
use Rattle.demands.specs.Lengths.{seven_layouts, length_of}
use Rattle.demands.specs.Numbers.{◌given_when◌, among, first_of, ◌by_first◌}
use Rattle.demands.specs.The6038.{printed_trailer, exchanged_trailer, in_frame, OnlyTheTrailerIsExchanged, ASettingWithoutAnOrderIsAsPrinted, SeveralWithoutAnOrderAreAsPrinted}
use Rattle.demands.specs.The6038.{NotNamedIsAsPrinted, AnExchanged5500tIsAnAsPrinted6021t, ReadInTheOtherOrderItIsTheOther, InTwoOrdersTwoListsMakeTheSameLine, is_alone_at_its_length}
use Rattle.demands.specs.The6038.{TheOtherOrderIs3, is_trailer, NeitherOrderIs3, TheLogTakesAsPrintedOnly, TheLogTakesTheOtherForIt, TheReplyKeepsCrLf, The6038IsAsAskedFor}
use Rattle.demands.proofs.TableLengths.{found}

-- each row ends in its trailer
pub record Ends (layout : Layout) : Type 0 where
  pub row : List Place
  pub first : ℕ
  pub second : ℕ
  pub is : places_of layout ≡ row ++ fixed first ∷ fixed second ∷ []
  pub printed : printed_trailer layout ≡ first ∷ second ∷ []
  pub exchanged : exchanged_trailer layout ≡ second ∷ first ∷ []
  pub trailer : is_trailer first second ≡ true

row_ends : (layout : Layout) → Ends layout
unfolding places_of
row_ends (layouts.Dated L6021) =
    record { row = take 14 (places_of (layouts.Dated L6021)); first = 10; second = 13; is = refl; printed = refl; exchanged = refl; trailer = refl }
row_ends (layouts.Dated L2000) =
    record { row = take 16 (places_of (layouts.Dated L2000)); first = 10; second = 13; is = refl; printed = refl; exchanged = refl; trailer = refl }
row_ends (layouts.Dated L5500) =
    record { row = take 17 (places_of (layouts.Dated L5500)); first = 13; second = 10; is = refl; printed = refl; exchanged = refl; trailer = refl }
row_ends (layouts.Dated L5050) =
    record { row = take 21 (places_of (layouts.Dated L5050)); first = 13; second = 10; is = refl; printed = refl; exchanged = refl; trailer = refl }
row_ends (layouts.TimeOnly T6021) =
    record { row = take 6 (places_of (layouts.TimeOnly T6021)); first = 10; second = 13; is = refl; printed = refl; exchanged = refl; trailer = refl }
row_ends (layouts.TimeOnly T5500) =
    record { row = take 6 (places_of (layouts.TimeOnly T5500)); first = 13; second = 10; is = refl; printed = refl; exchanged = refl; trailer = refl }
row_ends (layouts.TimeOnly T5050) =
    record { row = take 9 (places_of (layouts.TimeOnly T5050)); first = 13; second = 10; is = refl; printed = refl; exchanged = refl; trailer = refl }

-- and so a telegram does, in its frame
body_ends : (row : List Place) (digits : List ℕ) (first second : ℕ)
    → map (byte_at digits) (row ++ fixed first ∷ fixed second ∷ []) ≡ map (byte_at digits) row ++ first ∷ second ∷ []
body_ends [] digits first second = refl
body_ends (place ∷ row) digits first second = ap (◌∷◌ (byte_at digits place)) (body_ends row digits first second)

framed_so : (order : Order) (control : Bool) (rec : Record) → telegram_in order control rec ≡ in_frame control (in_order order (body_bytes rec))
framed_so order true rec = refl
framed_so order false rec = refl

only_the_trailer : OnlyTheTrailerIsExchanged
unfolding body_bytes render
only_the_trailer control rec =
    let ends = row_ends (own_layout rec) in
    let digits = digits_out rec in
    let text = map (byte_at digits) ends.row in
    let body : body_bytes rec ≡ text ++ ends.first ∷ ends.second ∷ [] =
    ap (map (byte_at digits)) ends.is ∙ body_ends ends.row digits ends.first ends.second in (
      text,
      framed_so AsPrinted control rec ∙ ap (in_frame control) (body ∙ ap (◌++◌ text) (sym ends.printed)),
      framed_so Exchanged control rec
          ∙ ap (in_frame control) (ap (in_order Exchanged) body ∙ exchange_last text ends.first ends.second ∙ ap (◌++◌ text) (sym ends.exchanged)),
    )

-- as printed if not named
without_an_order : ASettingWithoutAnOrderIsAsPrinted
unfolding telegram_for
without_an_order setting rec room = refl

next_so : (setting : Setting) (recs : List Record) → next_telegram (Named setting) recs ≡ next_telegram (NamedIn setting AsPrinted) recs
unfolding telegram_for
next_so setting [] = refl
next_so setting (rec ∷ recs) = refl

several_so : SeveralWithoutAnOrderAreAsPrinted
unfolding several_after
several_so setting several recs buffer =
    ap (λ (next : List Record → Next (List Record)).
    unless_ended several.ending (with_more several buffer (one_behind_another next (length recs) (length buffer - several.used) recs)) (several, buffer))
    (λ i recs. next_so setting recs i)

not_named : NotNamedIsAsPrinted
not_named control bytes = (refl, refl, refl)

-- the two time-only layouts of length 10
looks_like : AnExchanged5500tIsAnAsPrinted6021t
unfolding body_bytes render places_of
looks_like true time = (refl, refl)
looks_like false time = (refl, refl)

read_as_the_other : ReadInTheOtherOrderItIsTheOther
read_as_the_other AsPrinted control time good = (
  ap (read_in Exchanged control) (sym (looks_like control time).1) ∙ reads_back_law Exchanged control (TimeOnly T6021 time) good,
  ap (read_in Exchanged control) (sym (looks_like control time).0) ∙ reads_back_law Exchanged control (TimeOnly T5500 time) good,
)
read_as_the_other Exchanged control time good = (
  ap (read_of control) (looks_like control time).0 ∙ reads_back_law AsPrinted control (TimeOnly T6021 time) good,
  ap (read_of control) (looks_like control time).1 ∙ reads_back_law AsPrinted control (TimeOnly T5500 time) good,
)

same_line : InTwoOrdersTwoListsMakeTheSameLine
same_line time behind good = (
  (good, tt),
  (good, tt),
  λ same. cc,
  ap (λ telegram. telegram ++ behind) (looks_like true time).0,
)

-- the others: the layout is found by the length, and the trailer is not in its place
not_in_place : (rec : Record) → is_alone_at_its_length (own_layout rec) ≡ true
    → (layout_of (in_order Exchanged (body_bytes rec)) ≡ done (own_layout rec))
    × (every fixed_holds (places_of (own_layout rec)) (in_order Exchanged (body_bytes rec)) ≡ false)
unfolding body_bytes render places_of layout_of
not_in_place (Dated L6021 status weekday date time) alone = (refl, refl)
not_in_place (Dated L2000 status weekday date time) alone = (refl, refl)
not_in_place (Dated L5500 status weekday date time) alone = (refl, refl)
not_in_place (Dated L5050 status weekday date time) alone = (refl, refl)
not_in_place (TimeOnly T6021 time) alone = cc
not_in_place (TimeOnly T5500 time) alone = cc
not_in_place (TimeOnly T5050 time) alone = (refl, refl)

-- what is read of a body in its frame
in_frame_law : (order : Order) (control : Bool) (body : List ℕ)
    → read_in order control (in_frame control body) ≡ after (layout_of (in_order order body)) (λ layout. read_body_as layout (in_order order body))
unfolding read_in read_body_as
in_frame_law order true body = rw (body_of_frame body, frame_is_framed body)
in_frame_law order false body = refl

wrong_place : (layout : Layout) (body : List ℕ) → every fixed_holds (places_of layout) body ≡ false → read_body_as layout body ≡ refused 3
unfolding read_body_as body_refusal unless
wrong_place layout body wrong = rw wrong

exchanged_is_3 : (control : Bool) (rec : Record) → is_alone_at_its_length (own_layout rec) ≡ true → read_of control (telegram_in Exchanged control rec) ≡ refused 3
exchanged_is_3 control rec alone =
    let body = in_order Exchanged (body_bytes rec) in
    let not_there = not_in_place rec alone in
    ap (read_of control) (framed_so Exchanged control rec)
    ∙ in_frame_law AsPrinted control body
    ∙ ap (λ o. after o (λ layout. read_body_as layout body)) not_there.0
    ∙ wrong_place (own_layout rec) body not_there.1

other_is_3 : TheOtherOrderIs3
other_is_3 AsPrinted control rec alone =
    read_seen Exchanged control (telegram_in AsPrinted control rec)
    ∙ ap (read_of control) (telegram_seen Exchanged control rec)
    ∙ exchanged_is_3 control rec alone
other_is_3 Exchanged control rec alone = exchanged_is_3 control rec alone

-- neither
not_these : (p q first second : ℕ) → is_trailer p q ≡ true → is_trailer first second ≡ false → (eqb first p && (eqb second q && true)) ≡ false
not_these p q first second is_one is_none = go (eqb first p) (eqb second q) refl refl
  where
    go : (a b : Bool) → eqb first p ≡ a → eqb second q ≡ b → (a && (b && true)) ≡ false
    go true true same_first same_second =
        let wrong : is_trailer first second ≡ true = ap₂ is_trailer (eqb-true first p same_first) (eqb-true second q same_second) ∙ is_one in
        cc
    go true false same_first same_second = refl
    go false b same_first same_second = refl

ends_wrong : (row : List Place) (text : List ℕ) (p q first second : ℕ) → length row ≡ length text → (eqb first p && (eqb second q && true)) ≡ false
    → every fixed_holds (row ++ fixed p ∷ fixed q ∷ []) (text ++ first ∷ second ∷ []) ≡ false
ends_wrong [] [] p q first second same wrong = wrong
ends_wrong [] (byte ∷ text) p q first second same wrong = absurd (omega arith)
ends_wrong (place ∷ row) [] p q first second same wrong = absurd (omega arith)
ends_wrong (place ∷ row) (byte ∷ text) p q first second same wrong =
    rw (ends_wrong row text p q first second (omega arith) wrong) (and-false (fixed_holds place byte))

neither_fits : (layout : Layout) (text : List ℕ) (first second : ℕ) → is_trailer first second ≡ false
    → length (text ++ first ∷ second ∷ []) ≡ length (places_of layout)
    → every fixed_holds (places_of layout) (text ++ first ∷ second ∷ []) ≡ false
neither_fits layout text first second is_none fits =
    let ends = row_ends layout in
    let size : length ends.row ≡ length text =
    omega (
      arith,
      fits,
      ap length ends.is,
      length-append ends.row (fixed ends.first ∷ fixed ends.second ∷ []),
      length-append text (first ∷ second ∷ []),
    ) in
    ap (λ row. every fixed_holds row (text ++ first ∷ second ∷ [])) ends.is
    ∙ ends_wrong ends.row text ends.first ends.second first second size (not_these ends.first ends.second first second ends.trailer is_none)

found_one : (body : List ℕ) → among (map (length_of false) seven_layouts) (length body) ≡ true → (layout : Layout) × (layout_of body ≡ done layout)
unfolding unless
found_one body there = go (layout_of body) refl (found body)
  where
    go : (o : Outcome Layout) → layout_of body ≡ o → o by_first 1 given_when not (among (map (length_of false) seven_layouts) (length body)) ∷ []
        → (layout : Layout) × (layout_of body ≡ done layout)
    go (done layout) is e = (layout, is)
    go (refused n) is e =
        let told : refused n ≡ done tt = e ∙ ap (λ t. unless (first_of (1 given_when not t ∷ [])) tt) there in
        cc

neither_body : (text : List ℕ) (first second : ℕ) → among (map (length_of false) seven_layouts) (length (text ++ first ∷ second ∷ [])) ≡ true
    → is_trailer first second ≡ false
    → after (layout_of (text ++ first ∷ second ∷ [])) (λ layout. read_body_as layout (text ++ first ∷ second ∷ [])) ≡ refused 3
neither_body text first second there is_none =
    let body = text ++ first ∷ second ∷ [] in
    let layout = found_one body there in
    ap (λ o. after o (λ layout. read_body_as layout body)) layout.1
    ∙ wrong_place layout.0 body (neither_fits layout.0 text first second is_none (row_fits body layout.0 layout.1))

turned : (first second : ℕ) → is_trailer second first ≡ is_trailer first second
turned first second =
    or_comm (eqb second 10 && eqb first 13) (eqb second 13 && eqb first 10)
    ∙ ap₂ ◌||◌ (and_comm (eqb second 13) (eqb first 10)) (and_comm (eqb second 10) (eqb first 13))

neither_is_3 : NeitherOrderIs3
neither_is_3 AsPrinted control text first second there is_none =
    in_frame_law AsPrinted control (text ++ first ∷ second ∷ []) ∙ neither_body text first second there is_none
neither_is_3 Exchanged control text first second there is_none =
    let same : length (text ++ first ∷ second ∷ []) ≡ length (text ++ second ∷ first ∷ []) =
    omega (arith, length-append text (first ∷ second ∷ []), length-append text (second ∷ first ∷ [])) in
    in_frame_law Exchanged control (text ++ first ∷ second ∷ [])
    ∙ ap (λ body. after (layout_of body) (λ layout. read_body_as layout body)) (exchange_last text first second)
    ∙ neither_body text second first (ap (among (map (length_of false) seven_layouts)) (sym same) ∙ there) (turned first second ∙ is_none)

log_takes_printed : TheLogTakesAsPrintedOnly
unfolding add_of
log_takes_printed region rec alone = rw (own_refusal region (telegram_in Exchanged true rec) (exchanged_is_3 true rec alone))

log_takes_the_other : TheLogTakesTheOtherForIt
log_takes_the_other region time = (ap (adds region) (looks_like true time).0, ap (adds region) (looks_like true time).1)

keeps_cr_lf : TheReplyKeepsCrLf
unfolding reply_bytes reply_row render
keeps_cr_lf reply = (take 29 (reply_bytes reply), refl)

pub the_6038 : The6038IsAsAskedFor
the_6038 = (
  switch_1_read_as_nothing,
  switch_1_written_off,
  all_256_read_or_refused,
  off_on_never_written,
  write_then_read,
  read_then_write,
  not_offered_is_16,
  only_the_trailer,
  without_an_order,
  several_so,
  not_named,
  every_order_is_well_formed,
  the_order_stays,
  looks_like,
  read_as_the_other,
  same_line,
  other_is_3,
  neither_is_3,
  log_takes_printed,
  log_takes_the_other,
  keeps_cr_lf,
)
