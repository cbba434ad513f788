-- Laws of months: their lengths, their first days, the table, and the month that holds a day. Assumes nothing.
use mathlib.Core.Path.{◌≡◌, refl, ap, ◌∙◌}
use mathlib.Core.Bool.{Bool, true, false, cond, ◌||◌}
use mathlib.Core.List.{List}
use Prim.Native.Nat.{ℕ, zero, suc, ◌+◌, ◌-◌, ◌*◌, ◌≤◌, ◌<◌}
use native.Mathlib.Nat.{add-zero, add-suc, suc-add, not-suc-le-zero, lt_of_not-le, zero-add}
use native.Mathlib.Omega.{arith}
use lib.Dec.{ltb, eqb}
use lib.ListN.{get_or}
use borrow.Author.Tests.{ltb-true, ltb-false}
use Rattle.calendar_rules.specs.Calendar.{is_leap, month_length, year_at, month_at, month_start, starts_from, month_starts, seek, month_holding}

-- the length of the month at an index
abbrev pub length_at : ℕ → ℕ
length_at index = month_length (year_at index) (month_at index)

cond_between : (low high : ℕ) (b : Bool) {x y : ℕ} → (low ≤ x) × (x ≤ high) → (low ≤ y) × (y ≤ high) → (low ≤ cond b x y) × (cond b x y ≤ high)
cond_between low high true hx hy = hx
cond_between low high false hx hy = hy

pub month_28_to_31 : (year month : ℕ) → (28 ≤ month_length year month) × (month_length year month ≤ 31)
unfolding month_length
month_28_to_31 year month =
    cond_between 28 31 (eqb month 2)
    (cond_between 28 31 (is_leap year) {x = 29} {y = 28} (omega arith) (omega arith))
    (cond_between 28 31 (eqb month 4 || eqb month 6 || eqb month 9 || eqb month 11) {x = 30} {y = 31} (omega arith) (omega arith))

-- a month begins where the one before it ends
pub start_next : (index : ℕ) → month_start (suc index) ≡ month_start index + length_at index
unfolding month_start
start_next index = refl

pub start_first : month_start 0 ≡ 0
unfolding month_start
start_first = refl

-- behind the last month
pub start_end : month_start 1200 ≡ 36525
unfolding month_start month_length is_leap
start_end = refl

start_up : (index n : ℕ) → month_start index ≤ month_start (index + n)
start_up index zero = rw add-zero (omega arith)
start_up index (suc n) = rw add-suc (omega (arith, start_up index n, start_next (index + n)))

pub start_order : (i j : ℕ) → i ≤ j → month_start i ≤ month_start j
start_order i j h =
    let e : j ≡ i + (j - i) = omega arith in
    rw e (start_up i (j - i))

pub start_bound : (index : ℕ) → month_start index ≤ 31 * index
start_bound zero = omega (arith, start_first)
start_bound (suc index) =
    omega (arith, start_bound index, start_next index, (month_28_to_31 (year_at index) (month_at index)).1)

-- The table: each entry of the list that the Gregorian rule makes is its month's first day.
table_from : (n index k : ℕ) → k < n → get_or (starts_from n index (month_start index)) k 0 ≡ month_start (index + k)
unfolding starts_from
table_from zero index k h = absurd (not-suc-le-zero h)
table_from (suc n) index zero h = rw add-zero
table_from (suc n) index (suc k) h =
    rw (← start_next, add-suc, ← suc-add) (table_from n (suc index) k (omega arith))

pub table_entry : (table : List ℕ) → table ≡ month_starts → (k : ℕ) → k < 1200 → get_or table k 0 ≡ month_start k
unfolding month_starts month_start
table_entry table e k h = rw e (table_from 1200 0 k h ∙ ap month_start (zero-add k))

-- The search for the month that holds a day finds the one that it lies in.
-- a month that begins no later than a day comes before one that begins behind the day
pub start_before : (day i k : ℕ) → month_start i ≤ day → day < month_start k → i < k
start_before day i k from to = lt_of_not-le (λ past. omega (arith, start_order k i past))

-- and no later than the month that the day lies in
pub start_below : (day i k : ℕ) → month_start i ≤ day → day < month_start (suc k) → i ≤ k
start_below day i k from to = omega (arith, start_before day i (suc k) from to)

module _ (day k : ℕ) (from : month_start k ≤ day) (to : day < month_start (suc k)) where
  seek_finds : (months index : ℕ) → index ≤ k → k ≤ index + months → seek months index day ≡ k
  unfolding seek
  seek_finds zero index low high = omega arith
  seek_finds (suc months) index low high =
      go (ltb day (month_start (suc index))) refl (λ below. seek_finds months (suc index) below (omega arith))
    where
      go : (t : Bool) → ltb day (month_start (suc index)) ≡ t → (index < k → seek months (suc index) day ≡ k)
          → cond t index (seek months (suc index) day) ≡ k
      go true e later = omega (arith, start_below day k index from (ltb-true _ _ e))
      go false e later = later (start_below day (suc index) k (ltb-false _ _ e) to)

  pub holding : k < 1200 → month_holding day ≡ k
  unfolding month_holding
  holding h = seek_finds 1199 0 (omega arith) (omega arith)

-- each day of the calendar lies in a month
pub record Held (day : ℕ) : Type 0 where
  pub index : ℕ
  pub within : index < 1200
  pub from : month_start index ≤ day
  pub to : day < month_start (suc index)

held_below : (day n : ℕ) → n ≤ 1200 → day < month_start n → Held day
held_below day zero fits below = absurd (omega (arith, start_first))
held_below day (suc n) fits below = go (ltb day (month_start n)) refl (held_below day n (omega arith))
  where
    go : (t : Bool) → ltb day (month_start n) ≡ t → (day < month_start n → Held day) → Held day
    go true e before = before (ltb-true _ _ e)
    go false e before = record { index = n; within = fits; from = ltb-false _ _ e; to = below }

pub held : (day : ℕ) → day < 36525 → Held day
held day h = held_below day 1200 (omega arith) (omega (arith, start_end))

pub held_is_holding : (day : ℕ) (h : Held day) → month_holding day ≡ h.index
held_is_holding day h = holding day h.index h.from h.to h.within

-- the month that holds a day of the calendar: it is in the table, and the day lies in it
module _ (day : ℕ) (within : day < 36525) where
  pub holding_within : month_holding day < 1200
  holding_within = let h = held day within in rw (held_is_holding day h) h.within

  pub holding_from : month_start (month_holding day) ≤ day
  holding_from = let h = held day within in rw (held_is_holding day h) h.from

  pub holding_to : day < month_start (month_holding day) + length_at (month_holding day)
  holding_to = let h = held day within in rw (held_is_holding day h) (omega (arith, h.to, start_next h.index))
