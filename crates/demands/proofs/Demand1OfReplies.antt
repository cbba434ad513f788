-- Demand 1 holds of replies, of requests and of the day of the year. Assumes nothing.
use mathlib.Core.Path.{◌≡◌, refl, ap, sym, ◌∙◌}
use mathlib.Core.Bool.{Bool, true, false, cond, not, ◌&&◌, ◌||◌, and-false}
use mathlib.Core.List.{List, [], ◌∷◌, ◌++◌}
use Prim.Native.Nat.{ℕ}
use native.Mathlib.Omega.{arith}
use lib.Dec.{leb, ltb, eqb}
use lib.ListN.{length}
use borrow.Author.Tests.{ne_eqb}
use Rattle.refusals.specs.Refusals.{◌when◌, ◌else◌, done, unless}
use Rattle.lent_buffer.proofs.LayingLaws.{refused_is_untouched}
use Rattle.places_rules.specs.Places.{Place, row_fault, gather, no_digits, found_in}
use Rattle.calendar_rules.specs.Calendar.{date_in_range, day_exists, date_refusal}
use Rattle.calendar_rules.specs.TimeOfDay.{time_in_range}
use Rattle.calendar_rules.specs.DayOfYear.{year_day, day_of_year}
use Rattle.leitch_rules.specs.declared.Reply.{Reply}
use Rattle.leitch_rules.specs.Row.{reply_row}
use Rattle.leitch_rules.specs.Rule.{status_listed, weekday_listed, all_in_range, weekday_agrees, fields_refusal, day_agrees, day_refusal}
use Rattle.leitch_rules.specs.Reading.{carried, reply_refusal, reply_of}
use Rattle.leitch_rules.specs.Writing.{reply_bytes, written}
use Rattle.requests.specs.declared.Asked.{Asked}
use Rattle.requests.specs.declared.Asked.TheVariants.{Time, TimeAndDate, UtcTimeAndDate}
use Rattle.requests.specs.Requests.{capital_of, small_of, alone, delayed, request_rows, fits, delay_of, request, request_in, request_of}
use Rattle.demands.specs.Numbers.{Rule, ◌given_when◌, first_of, ◌by_first◌}
use Rattle.demands.specs.Rules.{place_rules, date_rules}
use Rattle.demands.specs.Demand1OfReplies.{field_rules, day_rules, reply_rules, reply_writing_rules, is_hex_digit, is_request, request_rules, in_a_reply}
use Rattle.demands.specs.Demand1OfReplies.{ReadingAReplyRefuses, WritingAReplyRefuses, ReadingARequestRefuses, TheDayOfTheYearRefuses, ARefusedReplyChangesNoByte}
use Rattle.demands.proofs.Refusing.{else_nothing, first_is_lowest, first_of_both, unless_by, refuses}
use Rattle.demands.proofs.Demand1Holds.{demand_1_scanning}

-- the numbers that a reply's rules give
field_rules_law : (reply : Reply) → fields_refusal reply ≡ first_of (field_rules reply)
unfolding fields_refusal all_in_range
field_rules_law reply =
    ap
    (λ n.
    5 when not (status_listed reply.status && weekday_listed reply.weekday)
    else 6 when not (time_in_range reply.time && (leb reply.millisecond 999 && date_in_range reply.date))
    else 7 when not (day_exists reply.date)
    else n)
    (sym (else_nothing (8 when not (weekday_agrees reply.weekday reply.date))))

day_rules_law : (reply : Reply) → day_refusal reply ≡ first_of (day_rules reply)
unfolding day_refusal
day_rules_law reply = sym (else_nothing (17 when not (day_agrees reply)))

place_rules_law : (row : List Place) (bytes : List ℕ) → row_fault row bytes ≡ first_of (place_rules row bytes)
unfolding found_in
place_rules_law row bytes = (demand_1_scanning row bytes).0 ∙ sym (first_is_lowest (place_rules row bytes) refl)

-- one number behind another
behind : {first later : ℕ} (rules more : List Rule) → first ≡ first_of rules → later ≡ first_of more
    → (first else later) ≡ first_of (rules ++ more)
behind {first} {later} rules more is then =
    ap (λ k. k else later) is ∙ ap (λ k. first_of rules else k) then ∙ sym (first_of_both rules more)

-- reading and writing a reply
pub demand_1_reading_a_reply : ReadingAReplyRefuses
unfolding reply_of reply_refusal
demand_1_reading_a_reply bytes =
    let told = carried bytes in
    let behind_length : (row_fault reply_row bytes else fields_refusal told else day_refusal told) ≡ first_of (place_rules reply_row bytes ++ field_rules told ++ day_rules told) =
    behind (place_rules reply_row bytes) (field_rules told ++ day_rules told) (place_rules_law reply_row bytes) (behind (field_rules told) (day_rules told) (field_rules_law told) (day_rules_law told)) in
    refuses in_a_reply (reply_of bytes) (reply_rules bytes)
    (unless_by (reply_refusal bytes) told (reply_rules bytes) (ap (λ n. 1 when not (eqb (length bytes) 31) else n) behind_length))
    refl

pub demand_1_writing_a_reply : WritingAReplyRefuses
unfolding written
demand_1_writing_a_reply reply room =
    let short = 13 when ltb room 31 in
    refuses (5 ∷ 6 ∷ 7 ∷ 8 ∷ 13 ∷ 17 ∷ []) (written reply room) (reply_writing_rules reply room)
    (unless_by (fields_refusal reply else short else day_refusal reply) (reply_bytes reply) (reply_writing_rules reply room)
    (behind (field_rules reply) (13 given_when ltb room 31 ∷ day_rules reply) (field_rules_law reply) (ap (λ n. short else n) (day_rules_law reply))))
    refl

pub demand_1_no_byte_of_a_reply : ARefusedReplyChangesNoByte
demand_1_no_byte_of_a_reply reply buffer n e = refused_is_untouched (written reply (length buffer)) buffer n e

-- a request is read where one of the rows fits
abbrev any_fits : List (Asked × List Place) → List ℕ → Bool
any_fits [] bytes = false
any_fits (row ∷ more) bytes = fits row.1 bytes || any_fits more bytes

by_rows : (rows : List (Asked × List Place)) (bytes : List ℕ) → request_in rows bytes by_first 18 given_when not (any_fits rows bytes) ∷ []
unfolding unless
by_rows [] bytes = refl
by_rows (row ∷ more) bytes = go (fits row.1 bytes) (by_rows more bytes)
  where
    go : (t : Bool) → request_in more bytes by_first 18 given_when not (any_fits more bytes) ∷ []
        → cond t (done (request row.0 (delay_of (gather row.1 bytes no_digits)))) (request_in more bytes) by_first 18 given_when not (t || any_fits more bytes) ∷ []
    go true later = refl
    go false later = later

-- and the rows fit the listed texts
other_length : (row : List Place) (bytes : List ℕ) → (length bytes ≡ length row → ⊥) → fits row bytes ≡ false
other_length row bytes other = rw (ne_eqb _ _ other, and-false)

fits_alone : (asked : Asked) (letter : ℕ) → fits (alone asked) (letter ∷ []) ≡ eqb letter (capital_of asked)
fits_alone asked letter = go (eqb letter (capital_of asked))
  where
    go : (t : Bool) → (eqb (3 when not (t && true) else 0) 0 && true) ≡ t
    go true = refl
    go false = refl

fits_delayed : (asked : Asked) (letter high low : ℕ)
    → fits (delayed asked) (letter ∷ high ∷ low ∷ []) ≡ (eqb letter (small_of asked) && (is_hex_digit high && is_hex_digit low))
fits_delayed asked letter high low = go (eqb letter (small_of asked)) (is_hex_digit high) (is_hex_digit low)
  where
    go : (t h l : Bool) → (eqb (3 when not (t && true) else 0 else 5 when not (h && (l && true))) 0 && true) ≡ (t && (h && l))
    go true true true = refl
    go true true false = refl
    go true false l = refl
    go false h l = refl

one_of_three : (x y z digits : Bool) → ((x && digits) || ((y && digits) || ((z && digits) || false))) ≡ ((x || (y || (z || false))) && digits)
one_of_three true y z true = refl
one_of_three false true z true = refl
one_of_three false false true true = refl
one_of_three false false false true = refl
one_of_three x y z false = rw (and-false x, and-false y, and-false z, and-false (x || (y || (z || false))))

neither : (bytes : List ℕ) → (length bytes ≡ 1 → ⊥) → (length bytes ≡ 3 → ⊥) → any_fits request_rows bytes ≡ false
neither bytes not_1 not_3 =
    rw (
      other_length (alone Time) bytes not_1,
      other_length (alone TimeAndDate) bytes not_1,
      other_length (alone UtcTimeAndDate) bytes not_1,
      other_length (delayed Time) bytes not_3,
      other_length (delayed TimeAndDate) bytes not_3,
      other_length (delayed UtcTimeAndDate) bytes not_3,
    )

fits_listed : (bytes : List ℕ) → any_fits request_rows bytes ≡ is_request bytes
fits_listed [] = refl
fits_listed (letter ∷ []) =
    let other : ◌≡◌ {A = ℕ} 1 3 → ⊥ = omega arith in
    let one = letter ∷ [] in
    rw (
      fits_alone Time letter,
      fits_alone TimeAndDate letter,
      fits_alone UtcTimeAndDate letter,
      other_length (delayed Time) one other,
      other_length (delayed TimeAndDate) one other,
      other_length (delayed UtcTimeAndDate) one other,
    )
fits_listed (letter ∷ byte ∷ []) = neither (letter ∷ byte ∷ []) (omega arith) (omega arith)
fits_listed (letter ∷ high ∷ low ∷ []) =
    let other : ◌≡◌ {A = ℕ} 3 1 → ⊥ = omega arith in
    let three = letter ∷ high ∷ low ∷ [] in
    rw (
      other_length (alone Time) three other,
      other_length (alone TimeAndDate) three other,
      other_length (alone UtcTimeAndDate) three other,
      fits_delayed Time letter high low,
      fits_delayed TimeAndDate letter high low,
      fits_delayed UtcTimeAndDate letter high low,
    )
    (one_of_three (eqb letter (small_of Time)) (eqb letter (small_of TimeAndDate)) (eqb letter (small_of UtcTimeAndDate)) (is_hex_digit high && is_hex_digit low))
fits_listed (letter ∷ high ∷ low ∷ byte ∷ more) = neither (letter ∷ high ∷ low ∷ byte ∷ more) (omega arith) (omega arith)

pub demand_1_request : ReadingARequestRefuses
unfolding request_of
demand_1_request bytes =
    refuses (18 ∷ []) (request_of bytes) (request_rules bytes)
    (by_rows request_rows bytes ∙ ap (λ t. unless (first_of (18 given_when not t ∷ [])) tt) (fits_listed bytes))
    refl

-- the day of the year
pub demand_1_day_of_the_year : TheDayOfTheYearRefuses
unfolding day_of_year date_refusal
demand_1_day_of_the_year date =
    let range = 6 when not (date_in_range date) in
    let exists = 7 when not (day_exists date) in
    refuses (6 ∷ 7 ∷ []) (day_of_year date) (date_rules date)
    (unless_by (range else exists) (year_day date) (date_rules date) (ap (λ n. range else n) (sym (else_nothing exists))))
    refl
