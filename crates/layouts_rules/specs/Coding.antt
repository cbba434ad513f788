-- Document 01, "The seven layouts": what the digits of a layout mean, and the digits of a record.
use Rattle.std.specs.Prelude.{Bool, true, false, cond, List, ◌∷◌, ℕ, zero, suc, ◌+◌, ◌-◌, ◌*◌, ◌/◌, ◌%◌, ltb, eqb, get_or, replicate}
use Rattle.bits.specs.Bits.{bit}
use Rattle.places_rules.specs.Places.{slots}
use Rattle.calendar_rules.specs.declared.date.Date.{Date}
use Rattle.calendar_rules.specs.declared.time.Time.{Time}
use Rattle.record_rules.specs.declared.DatedLayout.{DatedLayout}
use Rattle.record_rules.specs.declared.DatedLayout.TheVariants.{L6021, L2000, L5500, L5050}
use Rattle.record_rules.specs.declared.Reception.{Reception}
use Rattle.record_rules.specs.declared.Reception.TheVariants.{Invalid, Crystal, Radio, High}
use Rattle.record_rules.specs.declared.Status.{Status}
use Rattle.record_rules.specs.declared.Record.{Record}
use Rattle.record_rules.specs.declared.Record.TheVariants.{Dated, TimeOnly}
use Rattle.record_rules.specs.Rule.{table_of6021}
use Rattle.layouts_rules.specs.declared.Layout.{Layout}
use Rattle.layouts_rules.specs.declared.Layout.TheVariants as layouts

-- "read as four bits b3 to b0"
abbrev pub b0 : ℕ → Bool
b0 value = eqb (value % 2) 1

abbrev pub b1 : ℕ → Bool
b1 value = eqb (value / 2 % 2) 1

abbrev pub b2 : ℕ → Bool
b2 value = eqb (value / 4 % 2) 1

abbrev pub b3 : ℕ → Bool
b3 value = eqb (value / 8 % 2) 1

-- "b3 b2: 00 invalid, 01 crystal, 10 radio, 11 radio high accuracy"
abbrev pub reception_at : ℕ → Reception
reception_at zero = Invalid
reception_at (suc zero) = Crystal
reception_at (suc (suc zero)) = Radio
reception_at (suc (suc (suc n))) = High

abbrev pub reception_number : Reception → ℕ
reception_number Invalid = 0
reception_number Crystal = 1
reception_number Radio = 2
reception_number High = 3

-- 6021 and 2000: "b0 changeover announced; b1 daylight"; UTC is b3 of the weekday
unfoldable pub status_in6021 : ℕ → ℕ → Status
status_in6021 status weekday =
    record { reception = reception_at (status / 4 % 4); daylight = b1 status; utc = b3 weekday; announced = b0 status }

unfoldable pub status_out6021 : Status → ℕ
status_out6021 status = 4 * reception_number status.reception + 2 * bit status.daylight + bit status.announced

-- 5500 and 5050: "b0 crystal, else radio; b1 announced; b2 summer; b3 UTC"
unfoldable pub status_in5500 : ℕ → Status
status_in5500 status =
    record { reception = cond (b0 status) Crystal Radio; daylight = b2 status; utc = b3 status; announced = b1 status }

abbrev pub is_crystal : Reception → Bool
is_crystal reception = eqb (reception_number reception) 1

unfoldable pub status_out5500 : Status → ℕ
status_out5500 status = 8 * bit status.utc + 4 * bit status.daylight + 2 * bit status.announced + bit (is_crystal status.reception)

-- the status of a layout, from the status and the weekday character, by the table that the layout has
abbrev pub status_in : DatedLayout → ℕ → ℕ → Status
status_in layout status weekday = cond (table_of6021 layout) (status_in6021 status weekday) (status_in5500 status)

abbrev pub status_out : DatedLayout → Status → ℕ
status_out layout status = cond (table_of6021 layout) (status_out6021 status) (status_out5500 status)

-- "b3 set means UTC; the low three bits are 1 Monday to 7 Sunday" in 6021 and 2000; in 5500 and 5050 b3 "must be 0"
abbrev pub weekday_in : DatedLayout → ℕ → ℕ
weekday_in layout weekday = cond (table_of6021 layout) (weekday % 8) weekday

abbrev pub weekday_out : DatedLayout → Status → ℕ → ℕ
weekday_out layout status weekday = cond (table_of6021 layout) (weekday % 8 + 8 * bit status.utc) weekday

-- "a two-digit year 80 to 99 is 1980 to 1999, and 00 to 79 is 2000 to 2079"
abbrev pub turning_year : ℕ
turning_year = 80

abbrev pub full_year : ℕ → ℕ
full_year year = cond (ltb year turning_year) (2000 + year) (1900 + year)

-- two decimal digits as a number, and a code of four bits
abbrev pub number : List ℕ → ℕ → ℕ
number digits slot = 10 * (get_or digits slot 0 % 16) + get_or digits (slot + 1) 0 % 16

abbrev pub code_at : List ℕ → ℕ → ℕ
code_at digits slot = get_or digits slot 0 % 16

-- 2000 has a "four-digit year"
abbrev pub has_full_year : DatedLayout → Bool
has_full_year L6021 = false
has_full_year L2000 = true
has_full_year L5500 = false
has_full_year L5050 = false

abbrev pub year_in : DatedLayout → List ℕ → ℕ
year_in layout digits = cond (has_full_year layout) (100 * number digits 12 + number digits 14) (full_year (number digits 14))

abbrev pub century_out : DatedLayout → ℕ → ℕ
century_out layout year = cond (has_full_year layout) (year / 100) 0

abbrev pub time_in : List ℕ → Time
time_in digits = record { hour = number digits 2; minute = number digits 4; second = number digits 6 }

abbrev pub date_in : DatedLayout → List ℕ → Date
date_in layout digits = record { year = year_in layout digits; month = number digits 10; day = number digits 8 }

-- the record that a layout's digits carry
abbrev pub record_in : Layout → List ℕ → Record
record_in (layouts.Dated layout) digits =
    Dated layout (status_in layout (code_at digits 0) (code_at digits 1)) (weekday_in layout (code_at digits 1)) (date_in layout digits) (time_in digits)
record_in (layouts.TimeOnly layout) digits = TimeOnly layout (time_in digits)

-- the slots behind the first n, all empty
abbrev pub empty_behind : ℕ → List ℕ
empty_behind n = replicate (slots - n) 0

-- the digits that a record's layout carries, 0 in each slot that it does not use
abbrev pub digits_out : Record → List ℕ
digits_out (Dated layout status weekday date time) =
    status_out layout status ∷ weekday_out layout status weekday
    ∷ time.hour / 10 ∷ time.hour % 10 ∷ time.minute / 10 ∷ time.minute % 10 ∷ time.second / 10 ∷ time.second % 10
    ∷ date.day / 10 ∷ date.day % 10 ∷ date.month / 10 ∷ date.month % 10
    ∷ century_out layout date.year / 10 ∷ century_out layout date.year % 10 ∷ date.year % 100 / 10 ∷ date.year % 100 % 10 ∷ empty_behind 16
digits_out (TimeOnly layout time) =
    0 ∷ 0
    ∷ time.hour / 10 ∷ time.hour % 10 ∷ time.minute / 10 ∷ time.minute % 10 ∷ time.second / 10 ∷ time.second % 10
    ∷ empty_behind 8
