-- The wrong programs of document 01's last section do not meet the demands: one good telegram tells each of them. Assumes nothing.
use mathlib.Core.Path.{◌≡◌, refl, ap, sym, ◌∙◌}
use mathlib.Core.Bool.{true}
use mathlib.Core.List.{List, [], ◌∷◌, ◌++◌}
use Prim.Native.Nat.{ℕ}
use native.Mathlib.Omega.{arith}
use lib.ListN.{length, drop}
use Rattle.refusals.specs.Refusals.{Outcome, done, refused, unless}
use Rattle.places_rules.specs.Places.{is_decimal, is_capital, code_value, code_character, render}
use Rattle.calendar_rules.specs.TimeOfDay.{time_in_range}
use Rattle.record_rules.specs.declared.TimeLayout.TheVariants.{T6021}
use Rattle.record_rules.specs.declared.Record.{Record}
use Rattle.record_rules.specs.declared.Record.TheVariants.{Dated, TimeOnly}
use Rattle.record_rules.specs.Rule.{time_alone_allowed, time_alone_refusal, refusal_of}
use Rattle.layouts_rules.specs.Layouts.{places_of, layout_of}
use Rattle.trailer_rules.specs.declared.Order.TheVariants.{AsPrinted}
use Rattle.telegram_rules.specs.Reading.{carried, body_refusal, read_in}
use Rattle.telegram_rules.specs.Writing.{body_bytes, telegram_of}
use Rattle.line.specs.declared.Reader.{Reader}
use Rattle.line_rules.specs.Hearing.{Heard, Nothing, Event, Refused}
use Rattle.line.specs.Readers.{reader_of, fresh_reader, well_formed_at, feed_reader, feed_reader_at, Fed}
use Rattle.line_rules.specs.Line.{line_with}
use Rattle.line_rules.specs.Events.{heard_then}
use Rattle.line.specs.Cuts.{feeding, Served, AllUsedUp}
use Rattle.line_rules.specs.SentLine.{Sent, bytes_sent, events_sent}
use Rattle.demands.specs.Demand2.{WritesByTheTables, ReadsByTheTables}
use Rattle.demands.specs.Demand3.{HandsBackThatList}
use Rattle.demands.specs.Wrong.{refusing_reader, answering, refusing_line, fixed_record, fixed_reader, fixed_line, idle_writer, first_piece_line, with_stray, inventing_line}

-- a good telegram, fed as one piece
abbrev early : Record
early = TimeOnly T6021 (record { hour = 1; minute = 2; second = 3 })

abbrev behind_stx : List ℕ
behind_stx = 48 ∷ 49 ∷ 48 ∷ 50 ∷ 48 ∷ 51 ∷ 10 ∷ 13 ∷ 3 ∷ []

abbrev its_bytes : List ℕ
its_bytes = 2 ∷ behind_stx

is_good_law : refusal_of early ≡ 0
unfolding time_in_range time_alone_allowed time_alone_refusal
is_good_law = refl

written_so : telegram_of true early ≡ its_bytes
unfolding body_bytes places_of render code_character
written_so = refl

abbrev heard_it : Fed
heard_it = record { reader = reader_of (line_with [] 10 0 AsPrinted); taken = 10; heard = Event (done early) 0 10 }

heard_so : feed_reader fresh_reader its_bytes ≡ heard_it
unfolding unless is_decimal is_capital code_value time_in_range time_alone_allowed time_alone_refusal places_of layout_of carried body_refusal read_in feed_reader_at well_formed_at
heard_so = refl

-- the demand, of that telegram alone in one piece, for any reader that takes it whole
abbrev sent : List Sent
sent = record { before = []; rec = early } ∷ []

abbrev in_one : List Served
in_one = record { piece = its_bytes; times = 1 } ∷ []

line_so : its_bytes ≡ bytes_sent AsPrinted sent []
line_so = sym (ap (λ bytes. bytes ++ []) written_so)

events_so : events_sent AsPrinted 0 sent ≡ Event (done early) 0 10 ∷ []
events_so = λ i. Event (done early) 0 (length (written_so i)) ∷ []

module _ (feed : Reader → List ℕ → Fed) (fed : Fed) (is : feed fresh_reader its_bytes ≡ fed) (all : fed.taken ≡ 10) (demand : HandsBackThatList feed) where
  used : AllUsedUp (feeding feed) fresh_reader in_one
  used = (ap (λ f. drop f.taken its_bytes) is ∙ ap (λ n. drop n its_bytes) all, tt)

  hears : (heard_then fed.heard [] ++ []) ++ [] ≡ Event (done early) 0 10 ∷ []
  hears =
      ap (λ f. (heard_then f.heard [] ++ []) ++ []) (sym is)
      ∙ (demand AsPrinted sent [] (is_good_law, tt) (refl, refl) in_one line_so used).0
      ∙ events_so

  counts : fed.reader.stray ≡ 0
  counts = ap (λ f. f.reader.stray) (sym is) ∙ (demand AsPrinted sent [] (is_good_law, tt) (refl, refl) in_one line_so used).1

-- what tells one answer from another: the hour of a first event that is a time-only record, or 24
abbrev hour_in : Record → ℕ
hour_in (TimeOnly layout time) = time.hour
hour_in (Dated layout status weekday date time) = 24

abbrev hour_of : List Heard → ℕ
hour_of [] = 24
hour_of (Nothing ∷ heard) = 24
hour_of (Event (done rec) start size ∷ heard) = hour_in rec
hour_of (Event (refused number) start size ∷ heard) = 24
hour_of (Refused number ∷ heard) = 24

abbrev size_in : Outcome (List ℕ) → ℕ
size_in (done bytes) = length bytes
size_in (refused number) = 0

abbrev is_done : {A : Type 0} → Outcome A → ℕ
is_done (done value) = 1
is_done (refused number) = 0

-- "a reader that refuses everything (demand 3 shuts it out)"; demand 2 too
pub refusing_line_is_shut_out : HandsBackThatList refusing_line → ⊥
refusing_line_is_shut_out demand =
    let fed : Fed = record { reader = heard_it.reader; taken = 10; heard = Event (refused 1) 0 10 } in
    let is : refusing_line fresh_reader its_bytes ≡ fed = ap (λ f. record { reader = f.reader; taken = f.taken; heard = answering (refused 1) f.heard }) heard_so in
    let told : ◌≡◌ {A = ℕ} 24 1 = ap hour_of (hears refusing_line fed is refl demand) in
    omega arith

pub refusing_reader_is_shut_out : ReadsByTheTables refusing_reader → ⊥
refusing_reader_is_shut_out demand =
    let told : ◌≡◌ {A = ℕ} 0 1 = ap is_done ((demand AsPrinted true its_bytes early).1 (is_good_law, written_so)) in
    omega arith

-- "one that returns one fixed record (2 and 3)"
pub fixed_line_is_shut_out : HandsBackThatList fixed_line → ⊥
fixed_line_is_shut_out demand =
    let fed : Fed = record { reader = heard_it.reader; taken = 10; heard = Event (done fixed_record) 0 10 } in
    let is : fixed_line fresh_reader its_bytes ≡ fed = ap (λ f. record { reader = f.reader; taken = f.taken; heard = answering (done fixed_record) f.heard }) heard_so in
    let told : ◌≡◌ {A = ℕ} 0 1 = ap hour_of (hears fixed_line fed is refl demand) in
    omega arith

pub fixed_reader_is_shut_out : ReadsByTheTables fixed_reader → ⊥
fixed_reader_is_shut_out demand =
    let told : length (telegram_of true fixed_record) ≡ 0 = ap length ((demand AsPrinted true [] fixed_record).0 refl).1 in
    omega arith

-- "a writer .. that does nothing (2)"
pub idle_writer_is_shut_out : WritesByTheTables idle_writer → ⊥
idle_writer_is_shut_out demand =
    let size : length (telegram_of true early) ≡ 10 = ap length written_so in
    let told : 0 ≡ length (telegram_of true early) = ap size_in (demand AsPrinted true early its_bytes is_good_law (omega arith)).0 in
    omega arith

-- "a reader that honours the first piece and drops the others (3)": the telegram is cut behind its STX
abbrev in_two : List Served
in_two = record { piece = 2 ∷ []; times = 1 } ∷ record { piece = behind_stx; times = 1 } ∷ []

pub first_piece_line_is_shut_out : HandsBackThatList first_piece_line → ⊥
unfolding feed_reader_at well_formed_at
first_piece_line_is_shut_out demand =
    let hears : [] ≡ events_sent AsPrinted 0 sent = (demand AsPrinted sent [] (is_good_law, tt) (refl, refl) in_two line_so (refl, (refl, tt))).0 in
    let told : ◌≡◌ {A = ℕ} 24 1 = ap hour_of (hears ∙ events_so) in
    omega arith

-- "a stray count that is invented (3 and the line rules)"
pub inventing_line_is_shut_out : HandsBackThatList inventing_line → ⊥
inventing_line_is_shut_out demand =
    let fed : Fed = record { reader = with_stray 7 heard_it.reader; taken = 10; heard = heard_it.heard } in
    let is : inventing_line fresh_reader its_bytes ≡ fed = ap (λ f. record { reader = with_stray 7 f.reader; taken = f.taken; heard = f.heard }) heard_so in
    let told : ◌≡◌ {A = ℕ} 7 0 = counts inventing_line fed is refl demand in
    omega arith
