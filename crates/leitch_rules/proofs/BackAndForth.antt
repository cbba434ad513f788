-- What is written reads back, and what is read is what is written. Assumes nothing.
use mathlib.Core.Path.{◌≡◌, refl, ap, sym, ◌∙◌}
use mathlib.Core.Bool.{true, not}
use mathlib.Core.List.{List}
use Prim.Native.Nat.{ℕ, ◌≤◌}
use native.Mathlib.Omega.{arith}
use lib.Dec.{ltb, eqb}
use lib.ListN.{length}
use borrow.Author.Tests.{not-false, eqb-true, eq-eqb, le-ltb}
use Rattle.refusals.specs.Refusals.{◌when◌, done, unless}
use Rattle.refusals.proofs.Laws.{was_done, does, when_none, else_none}
use Rattle.places_rules.specs.Places.{fixed_holds, decimal_holds, code_holds, every, gather, row_fault, no_digits}
use Rattle.places_rules.proofs.Rendering.{length_render}
use Rattle.places_rules.proofs.Rows.{distinct, sound}
use Rattle.places_rules.proofs.RoundTrip.{fixed_rendered, decimals_rendered, codes_rendered, reads_back_law, makes_again, held_gather, sound_slotted}
use Rattle.calendar_rules.specs.DayOfYear.{year_day, day_of_year}
use Rattle.calendar_rules.proofs.Dates as dates
use Rattle.calendar_rules.proofs.Years.{year_day_bounds}
use Rattle.leitch_rules.specs.declared.Reply.{Reply}
use Rattle.leitch_rules.specs.Row.{reply_row}
use Rattle.leitch_rules.specs.Coding.{reply_in, digits_out}
use Rattle.leitch_rules.specs.Rule.{is, day_agrees, fields_refusal, day_refusal}
use Rattle.leitch_rules.specs.Reading.{carried, reply_refusal, reply_of}
use Rattle.leitch_rules.specs.Writing.{reply_bytes, written}
use Rattle.leitch_rules.specs.RoundTrip.{WhatIsWrittenReadsBack, WhatIsReadIsWritten}
use Rattle.leitch_rules.proofs.RuleLaws.{good}
use Rattle.leitch_rules.proofs.Carried.{reply_back, digits_held, bytes_back}

-- the row: no slot twice, every slot one of the slots, 31 places
row_distinct : distinct reply_row ≡ true
unfolding reply_row
row_distinct = refl

row_sound : sound reply_row ≡ true
unfolding reply_row
row_sound = refl

pub row_length : length reply_row ≡ 31
unfolding reply_row
row_length = refl

pub length_reply : (reply : Reply) → length (reply_bytes reply) ≡ 31
unfolding reply_bytes
length_reply reply = length_render reply_row (digits_out reply) ∙ row_length

-- a day of the year that agrees with a date of the calendar is one of a year
pub days_of_a_year : (reply : Reply) → fields_refusal reply ≡ 0 → day_refusal reply ≡ 0 → reply.day_of_year ≤ 366
unfolding day_refusal day_agrees day_of_year unless
days_of_a_year reply fields day =
    let none = (good reply fields).date_good in
    let agrees = not-false (is (day_of_year reply.date) reply.day_of_year) (when_none 16 _ day) in
    let same = eqb-true (year_day reply.date) reply.day_of_year (rw none at agrees) in
    omega (arith, year_day_bounds reply.date (dates.good reply.date none), same)

day_small : (reply : Reply) → fields_refusal reply ≡ 0 → day_refusal reply ≡ 0 → reply.day_of_year ≤ 999
day_small reply fields day = omega (arith, days_of_a_year reply fields day)

-- A good reply's characters read as that reply.
module _ (reply : Reply) (fields : fields_refusal reply ≡ 0) (day : day_refusal reply ≡ 0) where
  reply_carries : carried (reply_bytes reply) ≡ reply
  unfolding carried reply_bytes
  reply_carries =
      let g = good reply fields in
      let small = day_small reply fields day in
      ap reply_in (reads_back_law reply_row (digits_out reply) (digits_held reply g small) (sound_slotted reply_row row_sound)) ∙ reply_back reply g small

  reply_fits : row_fault reply_row (reply_bytes reply) ≡ 0
  unfolding reply_bytes
  reply_fits =
      rw (
        fixed_rendered reply_row (digits_out reply),
        decimals_rendered reply_row (digits_out reply) (digits_held reply (good reply fields) (day_small reply fields day)).each,
        codes_rendered reply_row (digits_out reply),
      )

  reads_as_itself : reply_of (reply_bytes reply) ≡ done reply
  unfolding reply_of reply_refusal
  reads_as_itself =
      rw (eq-eqb _ 31 (length_reply reply), reply_fits, reply_carries, fields, day) (does reply refl)

pub written_reads_back : WhatIsWrittenReadsBack
unfolding written
written_reads_back reply room bytes e =
    let made = was_done _ (reply_bytes reply) bytes e in
    let fields = else_none (fields_refusal reply) _ made.0 in
    let day = else_none (13 when ltb room 31) _ fields.1 in
    rw (← made.1) (reads_as_itself reply fields.0 day.1)

-- Characters that are read as a reply are that reply's.
module _ (bytes : List ℕ) (same : length bytes ≡ 31) (fits : row_fault reply_row bytes ≡ 0) where
  tests : (every fixed_holds reply_row bytes ≡ true) × (every decimal_holds reply_row bytes ≡ true) × (every code_holds reply_row bytes ≡ true)
  tests =
      let three = else_none (3 when not (every fixed_holds reply_row bytes)) _ fits in
      let four = else_none (4 when not (every decimal_holds reply_row bytes)) _ three.1 in
      (not-false _ (when_none 2 _ three.0), not-false _ (when_none 3 _ four.0), not-false _ (when_none 4 _ four.1))

  bytes_again : reply_bytes (carried bytes) ≡ bytes
  unfolding carried reply_bytes
  bytes_again =
      let size = same ∙ sym row_length in
      bytes_back (gather reply_row bytes no_digits) (held_gather reply_row bytes row_distinct (sound_slotted reply_row row_sound) size tests.1 tests.2)
      ∙ makes_again reply_row bytes no_digits row_distinct (sound_slotted reply_row row_sound) size refl tests.0 tests.1 tests.2

-- what is read: a reply that no rule refuses, and its characters
pub record Accepted (bytes : List ℕ) (reply : Reply) : Type 0 where
  pub fields : fields_refusal reply ≡ 0
  pub day : day_refusal reply ≡ 0
  pub is_written : reply_bytes reply ≡ bytes

pub accepted : (bytes : List ℕ) (reply : Reply) → reply_of bytes ≡ done reply → Accepted bytes reply
unfolding reply_of reply_refusal
accepted bytes reply e =
    let told = was_done _ (carried bytes) reply e in
    let one = else_none (1 when not (eqb (length bytes) 31)) _ told.0 in
    let row = else_none (row_fault reply_row bytes) _ one.1 in
    let rules = else_none (fields_refusal (carried bytes)) _ row.1 in
    let size = eqb-true _ 31 (not-false _ (when_none 0 _ one.0)) in
    record {
      fields = ap fields_refusal (sym told.1) ∙ rules.0;
      day = ap day_refusal (sym told.1) ∙ rules.1;
      is_written = ap reply_bytes (sym told.1) ∙ bytes_again bytes size row.0;
    }

pub read_is_written : WhatIsReadIsWritten
unfolding written
read_is_written bytes reply room e enough =
    let a = accepted bytes reply e in
    rw (a.fields, a.day, le-ltb room 31 enough) (does (reply_bytes reply) refl ∙ ap done a.is_written)
