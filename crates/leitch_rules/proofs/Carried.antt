-- A good reply's digits carry that reply, and its row makes of digits what it makes of those of the reply that they carry.
-- Assumes nothing.
use mathlib.Core.Path.{◌≡◌, refl, ap, sym, ◌∙◌}
use mathlib.Core.Bool.{Bool, true, false, ◌||◌, or-true}
use mathlib.Core.List.{List}
use Prim.Native.Nat.{ℕ, zero, suc, ◌+◌, ◌-◌, ◌*◌, ◌/◌, ◌%◌, ◌≤◌}
use native.Mathlib.Omega.{arith}
use lib.Dec.{ltb}
use lib.ListN.{get_or, replicate}
use lib.Seq.{get_or-drop}
use borrow.Author.Tests.{ltb-true, ltb-false}
use Rattle.refusals.proofs.Tables.{◌also◌, all_below, below}
use Rattle.places_rules.specs.Places.{is_decimal, is_capital, code_value, render}
use Rattle.places_rules.proofs.Characters.{is_decimal_law, is_capital_law, value_of_character, code_back, code_small}
use Rattle.places_rules.proofs.Rows.{used_in, most, all_shown, Held}
use Rattle.places_rules.proofs.RoundTrip.{held_most, AllSame, same_bytes}
use Rattle.calendar_rules.specs.Ranges.{inside}
use Rattle.calendar_rules.proofs.Dates as dates
use Rattle.record_rules.specs.declared.DatedLayout.TheVariants.{L6021}
use Rattle.layouts_rules.specs.Coding.{number, full_year}
use Rattle.layouts_rules.proofs.CodingLaws.{pair_back, tens_back, ones_back, year_back, year_low}
use Rattle.leitch_rules.specs.declared.Reply.{Reply}
use Rattle.leitch_rules.specs.Row.{reply_row}
use Rattle.leitch_rules.specs.Coding.{number_of_three, reply_in, digits_out}
use Rattle.leitch_rules.specs.Rule.{status_listed}
use Rattle.leitch_rules.proofs.RuleLaws.{Good, time_good, date_good, day_of_month, weekday_1_to_7}

-- a slot keeps four bits whole
pub four_bits : (n : ℕ) → n ≤ 15 → n % 16 ≡ n
four_bits n small = omega arith

-- three digits and their number
module _ (n : ℕ) (small : n ≤ 999) where
  three_back : 10 * (10 * (n % 1000 / 100 % 16) + n % 1000 / 10 % 10 % 16) + n % 1000 % 10 % 16 ≡ n
  three_back =
      let whole : n % 1000 ≡ n = omega arith in
      rw (whole, four_bits (n / 100) (omega arith), four_bits (n / 10 % 10) (omega arith), four_bits (n % 10) (omega arith)) (omega arith)

module _ (a b c : ℕ) (a_small : a ≤ 9) (b_small : b ≤ 9) (c_small : c ≤ 9) where
  made : 10 * (10 * (a % 16) + b % 16) + c % 16 ≡ 100 * a + 10 * b + c
  made =
      let a_whole : a % 16 ≡ a = omega arith in
      let b_whole : b % 16 ≡ b = omega arith in
      let c_whole : c % 16 ≡ c = omega arith in
      rw (a_whole, b_whole, c_whole) (omega arith)

  hundreds_of_three : (10 * (10 * (a % 16) + b % 16) + c % 16) % 1000 / 100 ≡ a
  hundreds_of_three = rw made (omega arith)

  tens_of_three : (10 * (10 * (a % 16) + b % 16) + c % 16) % 1000 / 10 % 10 ≡ b
  tens_of_three = rw made (omega arith)

  ones_of_three : (10 * (10 * (a % 16) + b % 16) + c % 16) % 1000 % 10 ≡ c
  ones_of_three = rw made (omega arith)

-- a listed status is one of the characters that have four bits
pub listed_fits : (status : ℕ) → status_listed status ≡ true → (is_decimal status || is_capital status) ≡ true
unfolding status_listed
listed_fits status e = go (inside 48 status 51) refl e
  where
    go : (t : Bool) → inside 48 status 51 ≡ t → (t || inside 65 status 70) ≡ true → (is_decimal status || is_capital status) ≡ true
    go true low e = let h = dates.inside_both 48 status 51 low in rw (is_decimal_law status h.0 (omega arith))
    go false low e = let h = dates.inside_both 65 status 70 e in rw (is_capital_law status h.0 h.1, or-true)

-- the row uses the first twenty slots, and those behind them are empty
first_twenty : all_below 20 (λ slot. used_in slot reply_row) ≡ true
unfolding reply_row
first_twenty = refl

empty : (n slot : ℕ) → ◌≡◌ {A = ℕ} (get_or (replicate n 0) slot 0) 0
empty zero slot = refl
empty (suc n) zero = refl
empty (suc n) (suc slot) = empty n slot

-- A good reply, from its digits.
module _ (reply : Reply) (g : Good reply) (day_small : reply.day_of_year ≤ 999) where
  pub reply_back : reply_in (digits_out reply) ≡ reply
  reply_back =
      let weekday_whole : reply.weekday % 16 ≡ reply.weekday = omega (arith, weekday_1_to_7 reply g) in
      λ i.
      record {
        time =
            record {
              hour = pair_back reply.time.hour (omega (arith, time_good reply g)) i;
              minute = pair_back reply.time.minute (omega (arith, time_good reply g)) i;
              second = pair_back reply.time.second (omega (arith, time_good reply g)) i;
            };
        millisecond = three_back reply.millisecond g.millisecond_small i;
        date =
            record {
              year = year_back L6021 reply.date.year (date_good reply g).from_year (date_good reply g).to_year i;
              month = pair_back reply.date.month (omega (arith, date_good reply g)) i;
              day = pair_back reply.date.day (omega (arith, day_of_month reply g)) i;
            };
        day_of_year = three_back reply.day_of_year day_small i;
        weekday = weekday_whole i;
        status = code_back reply.status (listed_fits reply.status g.status_listed_law) i;
      }

  -- its row can show its digits
  status_top : code_value reply.status ≤ 15
  status_top = code_small reply.status (listed_fits reply.status g.status_listed_law)

  shown_digits : all_shown (digits_out reply) reply_row
  unfolding reply_row
  shown_digits = omega (arith, status_top, weekday_1_to_7 reply g, time_good reply g, date_good reply g, day_of_month reply g)

  idle_digits : (slot : ℕ) → used_in slot reply_row ≡ false → get_or (digits_out reply) slot 0 ≡ 0
  idle_digits slot unused = go (ltb slot 20) refl
    where
      go : (t : Bool) → ltb slot 20 ≡ t → get_or (digits_out reply) slot 0 ≡ 0
      go true low =
          let used = below 20 (λ k. used_in k reply_row) first_twenty slot (ltb-true slot 20 low) in
          let z : ◌≡◌ {A = ℕ} 0 1 = cc in
          absurd (omega arith)
      go false high =
          let behind : slot ≡ 20 + (slot - 20) = omega (arith, ltb-false slot 20 high) in
          rw behind (sym (get_or-drop 20 (digits_out reply) (slot - 20) 0) ∙ empty 12 (slot - 20))

  pub digits_held : Held reply_row (digits_out reply)
  digits_held = record { size = refl; each = shown_digits; idle = idle_digits }

-- Digits that the row can carry, and those of the reply that they carry.
module _ (digits : List ℕ) (h : Held reply_row digits) where
  top : (slot n : ℕ) → most reply_row slot ≡ n → get_or digits slot 0 ≤ n
  top slot n e = omega (arith, held_most reply_row digits h slot, e)

  tens : (slot : ℕ) → most reply_row slot ≡ 9 → most reply_row (slot + 1) ≡ 9 → number digits slot / 10 ≡ get_or digits slot 0
  tens slot e f = tens_back _ _ (top slot 9 e) (top (slot + 1) 9 f)

  ones : (slot : ℕ) → most reply_row slot ≡ 9 → most reply_row (slot + 1) ≡ 9 → number digits slot % 10 ≡ get_or digits (slot + 1) 0
  ones slot e f = ones_back _ _ (top slot 9 e) (top (slot + 1) 9 f)

  year_digits : full_year (number digits 12) % 100 ≡ number digits 12
  unfolding reply_row
  year_digits = year_low L6021 0 (number digits 12) (omega (arith, top 12 9 refl, top 13 9 refl))

  digits_of_three : (slot : ℕ) → most reply_row slot ≡ 9 → most reply_row (slot + 1) ≡ 9 → most reply_row (slot + 2) ≡ 9
      → (number_of_three digits slot % 1000 / 100 ≡ get_or digits slot 0)
      × (number_of_three digits slot % 1000 / 10 % 10 ≡ get_or digits (slot + 1) 0)
      × (number_of_three digits slot % 1000 % 10 ≡ get_or digits (slot + 2) 0)
  digits_of_three slot e f g =
      let a = top slot 9 e in
      let b = top (slot + 1) 9 f in
      let c = top (slot + 2) 9 g in
      (hundreds_of_three _ _ _ a b c, tens_of_three _ _ _ a b c, ones_of_three _ _ _ a b c)

  all_same : AllSame (digits_out (reply_in digits)) digits reply_row
  unfolding reply_row
  all_same =
      let ms = digits_of_three 14 refl refl refl in
      let day = digits_of_three 17 refl refl refl in
      let status = top 0 15 refl in
      tens 2 refl refl also ones 2 refl refl also tt
      also tens 4 refl refl also ones 4 refl refl also tt
      also tens 6 refl refl also ones 6 refl refl also tt
      also ms.0 also ms.1 also ms.2 also tt
      also tens 8 refl refl also ones 8 refl refl also tt
      also tens 10 refl refl also ones 10 refl refl also tt
      also ap (λ y. y / 10) year_digits ∙ tens 12 refl refl also ap (λ y. y % 10) year_digits ∙ ones 12 refl refl also tt
      also day.0 also day.1 also day.2 also tt
      also four_bits _ (top 1 15 refl) also tt
      also value_of_character _ (omega arith) ∙ four_bits _ status
      also tt also tt also tt

  pub bytes_back : render reply_row (digits_out (reply_in digits)) ≡ render reply_row digits
  bytes_back = same_bytes reply_row (digits_out (reply_in digits)) digits all_same
