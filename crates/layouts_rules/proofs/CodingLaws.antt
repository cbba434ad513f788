-- Laws of coding: a good record's digits carry that record, and digits are those of the record they carry. Assumes nothing.
use mathlib.Core.Path.{◌≡◌, refl, ap, sym, ◌∙◌}
use mathlib.Core.Bool.{Bool, true, false, cond, ◌||◌}
use Prim.Native.Nat.{ℕ, ◌+◌, ◌*◌, ◌/◌, ◌%◌, ◌≤◌, ◌<◌}
use native.Mathlib.Omega.{arith}
use lib.Dec.{ltb, eqb}
use borrow.Author.Tests.{ltb-true, ltb-false, eqb-true}
use Rattle.refusals.proofs.Laws.{both}
use Rattle.refusals.proofs.Tables.{below}
use Rattle.record_rules.specs.declared.DatedLayout.{DatedLayout}
use Rattle.record_rules.specs.declared.Reception.TheVariants.{Crystal, Radio}
use Rattle.record_rules.specs.declared.Status.{Status}
use Rattle.record_rules.specs.Rule.{crystal_or_radio, table_can_say, table_of6021, status_allowed}
use Rattle.bits.specs.Bits.{bit}
use Rattle.layouts_rules.specs.Coding.{b0, reception_at, reception_number, is_crystal, status_in6021, status_in5500, status_out6021, status_out5500}
use Rattle.layouts_rules.specs.Coding.{status_in, status_out, weekday_in, weekday_out, turning_year, full_year, has_full_year, century_out}
use Rattle.layouts_rules.proofs.Bits.{bit_small, bit_back, number_back, reception_small, reception_back, reception_number_back, crystal_back, crystal_bit_back}

-- two digits and their number
module _ (n : ℕ) (small : n ≤ 99) where
  pub pair_back : 10 * (n / 10 % 16) + n % 10 % 16 ≡ n
  pair_back =
      let tens : n / 10 % 16 ≡ n / 10 = omega arith in
      let ones : n % 10 % 16 ≡ n % 10 = omega arith in
      rw (tens, ones) (omega arith)

module _ (a b : ℕ) (a_small : a ≤ 9) (b_small : b ≤ 9) where
  a_whole : a % 16 ≡ a
  a_whole = omega arith

  b_whole : b % 16 ≡ b
  b_whole = omega arith

  pub tens_back : (10 * (a % 16) + b % 16) / 10 ≡ a
  tens_back = rw (a_whole, b_whole) (omega arith)

  pub ones_back : (10 * (a % 16) + b % 16) % 10 ≡ b
  ones_back = rw (a_whole, b_whole) (omega arith)

-- four bits out of the number that they make up
record Four (n u d a c : ℕ) : Type 0 where
  pub fourth : n % 16 / 8 % 2 ≡ u
  pub third : n % 16 / 4 % 2 ≡ d
  pub second : n % 16 / 2 % 2 ≡ a
  pub first : n % 16 % 2 ≡ c

module _ (u d a c : ℕ) (u_bit : u ≤ 1) (d_bit : d ≤ 1) (a_bit : a ≤ 1) (c_bit : c ≤ 1) where
  whole : (8 * u + 4 * d + 2 * a + c) % 16 ≡ 8 * u + 4 * d + 2 * a + c
  whole = omega arith

  by_two : (8 * u + 4 * d + 2 * a + c) / 2 ≡ 4 * u + 2 * d + a
  by_two = omega arith

  by_four : (8 * u + 4 * d + 2 * a + c) / 4 ≡ 2 * u + d
  by_four = omega arith

  by_eight : (8 * u + 4 * d + 2 * a + c) / 8 ≡ u
  by_eight = omega arith

  odd_two : (4 * u + 2 * d + a) % 2 ≡ a
  odd_two = omega arith

  odd_four : (2 * u + d) % 2 ≡ d
  odd_four = omega arith

  four : Four (8 * u + 4 * d + 2 * a + c) u d a c
  four =
      record {
        fourth = rw (whole, by_eight) (omega arith);
        third = rw (whole, by_four) odd_four;
        second = rw (whole, by_two) odd_two;
        first = rw whole (omega arith);
      }

-- A status and its character, by each of the two tables.
module _ (status : Status) where
  small_6021 : status_out6021 status ≤ 15
  unfolding status_out6021
  small_6021 =
      omega (arith, reception_small status.reception, bit_small status.daylight, bit_small status.announced)

  small_5500 : status_out5500 status ≤ 15
  unfolding status_out5500
  small_5500 =
      omega
      (arith, bit_small status.utc, bit_small status.daylight, bit_small status.announced, bit_small (is_crystal status.reception))

  back_6021 : (weekday : ℕ) → status_in6021 (status_out6021 status % 16) ((weekday % 8 + 8 * bit status.utc) % 16) ≡ status
  unfolding status_in6021 status_out6021
  back_6021 weekday =
      let r = reception_small status.reception in
      let d = bit_small status.daylight in
      let a = bit_small status.announced in
      let u = bit_small status.utc in
      let out = 4 * reception_number status.reception + 2 * bit status.daylight + bit status.announced in
      let reception : out % 16 / 4 % 4 ≡ reception_number status.reception = omega arith in
      let daylight : out % 16 / 2 % 2 ≡ bit status.daylight = omega arith in
      let announced : out % 16 % 2 ≡ bit status.announced = omega arith in
      let utc : (weekday % 8 + 8 * bit status.utc) % 16 / 8 % 2 ≡ bit status.utc = omega arith in
      λ i.
      record {
        reception = (ap reception_at reception ∙ reception_back status.reception) i;
        daylight = (ap (λ n. eqb n 1) daylight ∙ bit_back status.daylight) i;
        utc = (ap (λ n. eqb n 1) utc ∙ bit_back status.utc) i;
        announced = (ap (λ n. eqb n 1) announced ∙ bit_back status.announced) i;
      }

  back_5500 : table_can_say status ≡ true → status_in5500 (status_out5500 status % 16) ≡ status
  unfolding status_in5500 status_out5500 table_can_say
  back_5500 can =
      let on = four (bit status.utc) (bit status.daylight) (bit status.announced) (bit (is_crystal status.reception))
      (bit_small status.utc) (bit_small status.daylight) (bit_small status.announced) (bit_small (is_crystal status.reception)) in
      let only = crystal_back status.reception (both (crystal_or_radio status.reception) _ can).0 in
      λ i.
      record {
        reception = (ap (λ n. cond (eqb n 1) Crystal Radio) on.first ∙ ap (λ b. cond b Crystal Radio) (bit_back (is_crystal status.reception)) ∙ only) i;
        daylight = (ap (λ n. eqb n 1) on.third ∙ bit_back status.daylight) i;
        utc = (ap (λ n. eqb n 1) on.fourth ∙ bit_back status.utc) i;
        announced = (ap (λ n. eqb n 1) on.second ∙ bit_back status.announced) i;
      }

-- The status and the weekday of a layout.
module _ (layout : DatedLayout) (status : Status) (weekday : ℕ) where
  pub status_small : status_out layout status ≤ 15
  status_small = go (table_of6021 layout)
    where
      go : (t : Bool) → cond t (status_out6021 status) (status_out5500 status) ≤ 15
      go true = small_6021 status
      go false = small_5500 status

  pub weekday_small : weekday ≤ 7 → weekday_out layout status weekday ≤ 15
  weekday_small h = go (table_of6021 layout)
    where
      go : (t : Bool) → cond t (weekday % 8 + 8 * bit status.utc) weekday ≤ 15
      go true = omega (arith, bit_small status.utc)
      go false = omega arith

  pub status_back : status_allowed layout status ≡ true → status_in layout (status_out layout status % 16) (weekday_out layout status weekday % 16) ≡ status
  unfolding status_allowed
  status_back allowed = go (table_of6021 layout) allowed
    where
      go : (t : Bool) → (t || table_can_say status) ≡ true
          → cond t (status_in6021 (cond t (status_out6021 status) (status_out5500 status) % 16) (cond t (weekday % 8 + 8 * bit status.utc) weekday % 16))
          (status_in5500 (cond t (status_out6021 status) (status_out5500 status) % 16))
          ≡ status
      go true e = back_6021 status weekday
      go false e = back_5500 status e

  pub weekday_back : weekday ≤ 7 → weekday_in layout (weekday_out layout status weekday % 16) ≡ weekday
  weekday_back h = go (table_of6021 layout)
    where
      go : (t : Bool) → cond t (cond t (weekday % 8 + 8 * bit status.utc) weekday % 16 % 8) (cond t (weekday % 8 + 8 * bit status.utc) weekday % 16) ≡ weekday
      go true = omega (arith, bit_small status.utc)
      go false = omega arith

-- and back: four bits make up their number
bits_6021 : (s : ℕ) → s < 16 → 4 * (s / 4 % 4) + 2 * (s / 2 % 2) + s % 2 ≡ s
bits_6021 s h = eqb-true _ s (below 16 (λ n. eqb (4 * (n / 4 % 4) + 2 * (n / 2 % 2) + n % 2) n) refl s h)

bits_5500 : (s : ℕ) → s < 16 → 8 * (s / 8 % 2) + 4 * (s / 4 % 2) + 2 * (s / 2 % 2) + s % 2 ≡ s
bits_5500 s h = eqb-true _ s (below 16 (λ n. eqb (8 * (n / 8 % 2) + 4 * (n / 4 % 2) + 2 * (n / 2 % 2) + n % 2) n) refl s h)

-- two codes are those of the status and weekday that they carry
module _ (layout : DatedLayout) (s w : ℕ) (s_small : s ≤ 15) (w_small : w ≤ 15) where
  code_6021 : status_out6021 (status_in6021 s w) ≡ s
  unfolding status_in6021 status_out6021
  code_6021 =
      rw (reception_number_back (s / 4 % 4) (omega arith), number_back (s / 2 % 2) (omega arith), number_back (s % 2) (omega arith))
      (bits_6021 s (omega arith))

  code_5500 : status_out5500 (status_in5500 s) ≡ s
  unfolding status_in5500 status_out5500
  code_5500 =
      rw
      (crystal_bit_back (b0 s), number_back (s / 8 % 2) (omega arith), number_back (s / 4 % 2) (omega arith), number_back (s / 2 % 2) (omega arith), number_back (s % 2) (omega arith))
      (bits_5500 s (omega arith))

  pub status_code_back : status_out layout (status_in layout s w) ≡ s
  status_code_back = go (table_of6021 layout)
    where
      go : (t : Bool) → cond t (status_out6021 (cond t (status_in6021 s w) (status_in5500 s))) (status_out5500 (cond t (status_in6021 s w) (status_in5500 s))) ≡ s
      go true = code_6021
      go false = code_5500

  pub weekday_code_back : weekday_out layout (status_in layout s w) (weekday_in layout w) ≡ w
  unfolding status_in6021
  weekday_code_back = go (table_of6021 layout)
    where
      go : (t : Bool) → cond t (cond t (w % 8) w % 8 + 8 * bit (cond t (status_in6021 s w) (status_in5500 s)).utc) (cond t (w % 8) w) ≡ w
      go true = let u = number_back (w / 8 % 2) (omega arith) in omega arith
      go false = refl

-- A year and its digits.
module _ (layout : DatedLayout) where
  pub year_back : (year : ℕ) → 1980 ≤ year → year ≤ 2079
      → cond (has_full_year layout)
      (100 * (10 * (century_out layout year / 10 % 16) + century_out layout year % 10 % 16) + (10 * (year % 100 / 10 % 16) + year % 100 % 10 % 16))
      (full_year (10 * (year % 100 / 10 % 16) + year % 100 % 10 % 16))
      ≡ year
  year_back year low high = go (has_full_year layout)
    where
      two : 10 * (year % 100 / 10 % 16) + year % 100 % 10 % 16 ≡ year % 100
      two = pair_back (year % 100) (omega arith)

      upper : 10 * (year / 100 / 10 % 16) + year / 100 % 10 % 16 ≡ year / 100
      upper = pair_back (year / 100) (omega arith)

      pivot : (t : Bool) → ltb (year % 100) turning_year ≡ t → cond t (2000 + year % 100) (1900 + year % 100) ≡ year
      pivot true e = omega (arith, ltb-true (year % 100) turning_year e)
      pivot false e = omega (arith, ltb-false (year % 100) turning_year e)

      go : (t : Bool)
          → cond t
          (100 * (10 * (cond t (year / 100) 0 / 10 % 16) + cond t (year / 100) 0 % 10 % 16) + (10 * (year % 100 / 10 % 16) + year % 100 % 10 % 16))
          (full_year (10 * (year % 100 / 10 % 16) + year % 100 % 10 % 16))
          ≡ year
      go true = rw (two, upper) (omega arith)
      go false = rw two (pivot (ltb (year % 100) turning_year) refl)

  -- the low two digits of a year, and its century where the layout has one
  pub year_low : (century low : ℕ) → low ≤ 99 → cond (has_full_year layout) (100 * century + low) (full_year low) % 100 ≡ low
  year_low century low small = go (has_full_year layout)
    where
      pivot : (t : Bool) → cond t (2000 + low) (1900 + low) % 100 ≡ low
      pivot true = omega arith
      pivot false = omega arith

      go : (t : Bool) → cond t (100 * century + low) (full_year low) % 100 ≡ low
      go true = omega arith
      go false = pivot (ltb low turning_year)

  pub century_back : (century low : ℕ) → low ≤ 99 → (has_full_year layout ≡ false → century ≡ 0)
      → century_out layout (cond (has_full_year layout) (100 * century + low) (full_year low)) ≡ century
  century_back century low small none = go (has_full_year layout) refl
    where
      go : (t : Bool) → has_full_year layout ≡ t → cond t (cond t (100 * century + low) (full_year low) / 100) 0 ≡ century
      go true e = omega arith
      go false e = sym (none e)
