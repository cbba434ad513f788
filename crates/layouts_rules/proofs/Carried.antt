-- A good record's digits carry that record, and digits are those of the record that they carry. Assumes nothing.
use mathlib.Core.Path.{◌≡◌, refl, ap, ap₂, sym, ◌∙◌}
use mathlib.Core.Bool.{Bool, true, false}
use mathlib.Core.List.{List, [], ◌∷◌}
use Prim.Native.Nat.{ℕ, zero, suc, ◌+◌, ◌-◌, ◌*◌, ◌/◌, ◌%◌, ◌≤◌, ◌<◌}
use native.Mathlib.Nat.{add-zero, zero-add, add-suc, suc-add}
use native.Mathlib.Omega.{arith}
use lib.ListN.{length, drop, get_or, replicate, drop_of_length-le}
use lib.Seq.{drop-cons}
use borrow.Author.Tests.{le-ltb}
use Rattle.places_rules.specs.Places.{Place, slots}
use Rattle.places_rules.proofs.Rows.{used_in, all_shown, Held}
use Rattle.places_rules.proofs.RoundTrip.{held_most}
use Rattle.calendar_rules.specs.declared.date.Date.{Date}
use Rattle.calendar_rules.specs.declared.time.Time.{Time}
use Rattle.calendar_rules.proofs.Dates as dates
use Rattle.calendar_rules.proofs.Months.{month_28_to_31}
use Rattle.record_rules.specs.declared.DatedLayout.{DatedLayout}
use Rattle.record_rules.specs.declared.DatedLayout.TheVariants.{L6021, L2000, L5500, L5050}
use Rattle.record_rules.specs.declared.TimeLayout.{TimeLayout}
use Rattle.record_rules.specs.declared.TimeLayout.TheVariants.{T6021, T5500, T5050}
use Rattle.record_rules.specs.declared.Status.{Status}
use Rattle.record_rules.specs.declared.Record.{Record}
use Rattle.record_rules.specs.declared.Record.TheVariants.{Dated, TimeOnly}
use Rattle.record_rules.specs.Rule.{weekday_allowed, refusal_of}
use Rattle.record_rules.proofs.RuleLaws as rule
use Rattle.layouts_rules.specs.declared.Layout.{Layout}
use Rattle.layouts_rules.specs.declared.Layout.TheVariants as layouts
use Rattle.layouts_rules.specs.Layouts.{places_of, own_layout}
use Rattle.layouts_rules.specs.Coding.{status_out, weekday_out, has_full_year, century_out, number, record_in, empty_behind, digits_out}
use Rattle.layouts_rules.proofs.Bits.{century_small}
use Rattle.layouts_rules.proofs.RowLaws.{limit, row_limit}
use Rattle.layouts_rules.proofs.CodingLaws.{pair_back, tens_back, ones_back, status_small, weekday_small, status_back}
use Rattle.layouts_rules.proofs.CodingLaws.{weekday_back, status_code_back, weekday_code_back, year_back, year_low, century_back}

pub own_layout_law : (layout : Layout) (digits : List ℕ) → own_layout (record_in layout digits) ≡ layout
own_layout_law (layouts.Dated layout) digits = refl
own_layout_law (layouts.TimeOnly layout) digits = refl

-- A good record, from its digits.
weekday_bound : (weekday : ℕ) → weekday_allowed weekday ≡ true → weekday ≤ 7
unfolding weekday_allowed
weekday_bound weekday e = (dates.inside_both 1 weekday 7 e).1

time_back : (time : Time) → rule.Within time
    → ◌≡◌ {A = Time}
    (record {
      hour = 10 * (time.hour / 10 % 16) + time.hour % 10 % 16;
      minute = 10 * (time.minute / 10 % 16) + time.minute % 10 % 16;
      second = 10 * (time.second / 10 % 16) + time.second % 10 % 16;
    })
    time
time_back time g i =
    record {
      hour = pair_back time.hour (omega (arith, g)) i;
      minute = pair_back time.minute (omega (arith, g)) i;
      second = pair_back time.second (omega (arith, g)) i;
    }

pub record_back : (rec : Record) → refusal_of rec ≡ 0 → record_in (own_layout rec) (digits_out rec) ≡ rec
record_back (Dated layout status weekday date time) none =
    let g = rule.good layout status weekday date time none in
    let d = dates.good date g.date_good in
    let t = rule.within time (rule.good_up_to_59 layout status weekday date time g) in
    let w = weekday_bound weekday g.weekday_allowed_law in
    let m = (month_28_to_31 date.year date.month).1 in
    λ i. Dated layout (status_back layout status weekday g.status_allowed_law i) (weekday_back layout status weekday w i)
    (record {
      year = year_back layout date.year d.from_year d.to_year i;
      month = pair_back date.month (omega (arith, d)) i;
      day = pair_back date.day (omega (arith, d.to_day)) i;
    })
    (time_back time t i)
record_back (TimeOnly layout time) none = ap (TimeOnly layout) (time_back time (rule.within time (rule.alone_up_to_59 time none)))

-- A record's digits are 0 in each slot that its layout does not use.
abbrev idle : Bool → ℕ → Type 0
idle true digit = Unit {0}
idle false digit = digit ≡ 0

abbrev Idle : List Place → ℕ → List ℕ → Type 0
Idle row k [] = Unit {0}
Idle row k (digit ∷ digits) = idle (used_in k row) digit × Idle row (suc k) digits

idle_here : (used : Bool) (digit : ℕ) → idle used digit → used ≡ false → digit ≡ 0
idle_here true digit h e = let z : ◌≡◌ {A = ℕ} 0 1 = cc in absurd (omega arith)
idle_here false digit h e = h

idle_at : (row : List Place) (digits : List ℕ) (k : ℕ) → Idle row k digits → (slot : ℕ) → used_in (k + slot) row ≡ false → get_or digits slot 0 ≡ 0
idle_at row [] k h slot e = refl
idle_at row (digit ∷ digits) k h zero e = idle_here (used_in k row) digit h.0 (rw add-zero at e)
idle_at row (digit ∷ digits) k h (suc slot) e = idle_at row digits (suc k) h.1 slot (rw (add-suc, ← suc-add) at e)

idle_slots : (rec : Record) → Idle (places_of (own_layout rec)) 0 (digits_out rec)
unfolding places_of
idle_slots (Dated L6021 status weekday date time) = omega arith
idle_slots (Dated L2000 status weekday date time) = omega arith
idle_slots (Dated L5500 status weekday date time) = omega arith
idle_slots (Dated L5050 status weekday date time) = omega arith
idle_slots (TimeOnly T6021 time) = omega arith
idle_slots (TimeOnly T5500 time) = omega arith
idle_slots (TimeOnly T5050 time) = omega arith

digits_idle : (rec : Record) (slot : ℕ) → used_in slot (places_of (own_layout rec)) ≡ false → get_or (digits_out rec) slot 0 ≡ 0
digits_idle rec slot e =
    idle_at (places_of (own_layout rec)) (digits_out rec) 0 (idle_slots rec) slot (rw zero-add e)

-- A good record's digits are such that its layout can show them.
record Small (layout : DatedLayout) (status : Status) (weekday : ℕ) (date : Date) (time : Time) : Type 0 where
  pub status_top : status_out layout status ≤ 15
  pub weekday_top : weekday_out layout status weekday ≤ 15
  pub century_top : century_out layout date.year ≤ 20
  pub day_top : date.day ≤ 31
  pub month_top : date.month ≤ 12
  pub time_within : rule.Within time

small_fields : (layout : DatedLayout) (status : Status) (weekday : ℕ) (date : Date) (time : Time)
    → refusal_of (Dated layout status weekday date time) ≡ 0 → Small layout status weekday date time
small_fields layout status weekday date time none =
    let g = rule.good layout status weekday date time none in
    let d = dates.good date g.date_good in
    let m = (month_28_to_31 date.year date.month).1 in
    record {
      status_top = status_small layout status weekday;
      weekday_top = weekday_small layout status weekday (weekday_bound weekday g.weekday_allowed_law);
      century_top = omega (arith, century_small layout date.year, d);
      day_top = omega (arith, d.to_day);
      month_top = omega (arith, d);
      time_within = rule.within time (rule.good_up_to_59 layout status weekday date time g);
    }

digits_shown : (rec : Record) → refusal_of rec ≡ 0 → all_shown (digits_out rec) (places_of (own_layout rec))
unfolding places_of
digits_shown (Dated L6021 status weekday date time) none = omega (arith, small_fields L6021 status weekday date time none)
digits_shown (Dated L2000 status weekday date time) none = omega (arith, small_fields L2000 status weekday date time none)
digits_shown (Dated L5500 status weekday date time) none = omega (arith, small_fields L5500 status weekday date time none)
digits_shown (Dated L5050 status weekday date time) none = omega (arith, small_fields L5050 status weekday date time none)
digits_shown (TimeOnly T6021 time) none = omega (arith, rule.within time (rule.alone_up_to_59 time none))
digits_shown (TimeOnly T5500 time) none = omega (arith, rule.within time (rule.alone_up_to_59 time none))
digits_shown (TimeOnly T5050 time) none = omega (arith, rule.within time (rule.alone_up_to_59 time none))

digits_size : (rec : Record) → length (digits_out rec) ≡ slots
digits_size (Dated layout status weekday date time) = refl
digits_size (TimeOnly layout time) = refl

pub digits_held : (rec : Record) → refusal_of rec ≡ 0 → Held (places_of (own_layout rec)) (digits_out rec)
digits_held rec none = record { size = digits_size rec; each = digits_shown rec none; idle = digits_idle rec }

-- Digits, from the record that they carry. The first ones, spelled out, and the empty ones behind them:
abbrev spelled : ℕ → ℕ → List ℕ → List ℕ
spelled k zero digits = empty_behind k
spelled k (suc n) digits = get_or digits k 0 ∷ spelled (suc k) n digits

empty_from : (n k : ℕ) (digits : List ℕ) → length digits ≡ k + n → ((slot : ℕ) → k ≤ slot → slot < k + n → get_or digits slot 0 ≡ 0)
    → replicate n 0 ≡ drop k digits
empty_from zero k digits e none = sym (drop_of_length-le digits {i = k} (omega arith))
empty_from (suc n) k digits e none =
    ap₂ ◌∷◌ (sym (none k (omega arith) (omega arith))) (empty_from n (suc k) digits (omega arith) (λ slot low high. none slot (omega arith) (omega arith)))
    ∙ sym (drop-cons digits k 0 (omega arith))

spelled_from : (n k : ℕ) (digits : List ℕ) → length digits ≡ slots → k + n ≤ slots
    → ((slot : ℕ) → k + n ≤ slot → slot < slots → get_or digits slot 0 ≡ 0) → spelled k n digits ≡ drop k digits
spelled_from zero k digits e fits none =
    empty_from (slots - k) k digits (omega arith) (λ slot low high. none slot (omega arith) (omega arith))
spelled_from (suc n) k digits e fits none =
    ap (λ rest. get_or digits k 0 ∷ rest) (spelled_from n (suc k) digits e (omega arith) (λ slot low high. none slot (omega arith) high))
    ∙ sym (drop-cons digits k 0 (omega arith))

infixr 5 ◌then◌
◌then◌ : {a b : ℕ} {as' bs' : List ℕ} → a ≡ b → as' ≡ bs' → (a ∷ as') ≡ (b ∷ bs')
◌then◌ e es = ap₂ ◌∷◌ e es

-- the digits of a layout
module _ (layout : Layout) (digits : List ℕ) (h : Held (places_of layout) digits) where
  top : (slot n : ℕ) → slot < slots → limit layout slot ≡ n → get_or digits slot 0 ≤ n
  top slot n inside e = omega (arith, held_most (places_of layout) digits h slot, row_limit layout slot inside, e)

  tens : (slot : ℕ) → slot < 31 → limit layout slot ≡ 9 → limit layout (slot + 1) ≡ 9 → number digits slot / 10 ≡ get_or digits slot 0
  tens slot low e f = tens_back _ _ (top slot 9 (omega arith) e) (top (slot + 1) 9 (omega arith) f)

  ones : (slot : ℕ) → slot < 31 → limit layout slot ≡ 9 → limit layout (slot + 1) ≡ 9 → number digits slot % 10 ≡ get_or digits (slot + 1) 0
  ones slot low e f = ones_back _ _ (top slot 9 (omega arith) e) (top (slot + 1) 9 (omega arith) f)

-- a layout with a two-digit year leaves the two slots of the century alone
no_century : (layout : DatedLayout) (digits : List ℕ) → Held (places_of (layouts.Dated layout)) digits → has_full_year layout ≡ false → number digits 12 ≡ 0
unfolding places_of
no_century L6021 digits h e = omega (arith, h.idle 12 refl, h.idle 13 refl)
no_century L2000 digits h e = let z : ◌≡◌ {A = ℕ} 0 1 = cc in absurd (omega arith)
no_century L5500 digits h e = omega (arith, h.idle 12 refl, h.idle 13 refl)
no_century L5050 digits h e = omega (arith, h.idle 12 refl, h.idle 13 refl)

module _ (layout : DatedLayout) (digits : List ℕ) (h : Held (places_of (layouts.Dated layout)) digits) where
  low_two : number digits 14 ≤ 99
  low_two = omega (arith, top (layouts.Dated layout) digits h 14 9 (omega arith) refl, top (layouts.Dated layout) digits h 15 9 (omega arith) refl)

  code : (slot : ℕ) → slot < slots → limit (layouts.Dated layout) slot ≡ 15 → (get_or digits slot 0 ≤ 15) × (get_or digits slot 0 % 16 ≡ get_or digits slot 0)
  code slot inside e = let small = top (layouts.Dated layout) digits h slot 15 inside e in (small, omega arith)

  empty_dated : (slot : ℕ) → 16 ≤ slot → slot < slots → get_or digits slot 0 ≡ 0
  empty_dated slot low inside =
      omega (arith, top (layouts.Dated layout) digits h slot 0 inside (rw (le-ltb slot 2 (omega arith), le-ltb slot 16 low)))

empty_brief : (layout : TimeLayout) (digits : List ℕ) → Held (places_of (layouts.TimeOnly layout)) digits
    → (slot : ℕ) → 8 ≤ slot → slot < slots → get_or digits slot 0 ≡ 0
empty_brief layout digits h slot low inside =
    omega (arith, top (layouts.TimeOnly layout) digits h slot 0 inside (rw (le-ltb slot 2 (omega arith), le-ltb slot 8 low)))

pub digits_back : (layout : Layout) (digits : List ℕ) → Held (places_of layout) digits → digits_out (record_in layout digits) ≡ digits
digits_back (layouts.Dated layout) digits h =
    let l = layouts.Dated layout in
    let s = code layout digits h 0 (omega arith) refl in
    let w = code layout digits h 1 (omega arith) refl in
    let year_digits = year_low layout (number digits 12) (number digits 14) (low_two layout digits h) in
    let century_digits = century_back layout (number digits 12) (number digits 14) (low_two layout digits h) (no_century layout digits h) in
    (status_code_back layout _ _ (omega arith) (omega arith) ∙ s.1
    then weekday_code_back layout _ _ (omega arith) (omega arith) ∙ w.1
    then tens l digits h 2 (omega arith) refl refl then ones l digits h 2 (omega arith) refl refl
    then tens l digits h 4 (omega arith) refl refl then ones l digits h 4 (omega arith) refl refl
    then tens l digits h 6 (omega arith) refl refl then ones l digits h 6 (omega arith) refl refl
    then tens l digits h 8 (omega arith) refl refl then ones l digits h 8 (omega arith) refl refl
    then tens l digits h 10 (omega arith) refl refl then ones l digits h 10 (omega arith) refl refl
    then ap (λ c. c / 10) century_digits ∙ tens l digits h 12 (omega arith) refl refl
    then ap (λ c. c % 10) century_digits ∙ ones l digits h 12 (omega arith) refl refl
    then ap (λ y. y / 10) year_digits ∙ tens l digits h 14 (omega arith) refl refl
    then ap (λ y. y % 10) year_digits ∙ ones l digits h 14 (omega arith) refl refl
    then refl)
    ∙ spelled_from 16 0 digits h.size (omega arith) (empty_dated layout digits h)
digits_back (layouts.TimeOnly layout) digits h =
    let l = layouts.TimeOnly layout in
    let first = top l digits h 0 0 (omega arith) refl in
    let second = top l digits h 1 0 (omega arith) refl in
    (omega arith
    then omega arith
    then tens l digits h 2 (omega arith) refl refl then ones l digits h 2 (omega arith) refl refl
    then tens l digits h 4 (omega arith) refl refl then ones l digits h 4 (omega arith) refl refl
    then tens l digits h 6 (omega arith) refl refl then ones l digits h 6 (omega arith) refl refl
    then refl)
    ∙ spelled_from 8 0 digits h.size (omega arith) (empty_brief layout digits h)
