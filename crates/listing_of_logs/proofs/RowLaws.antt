-- Laws of the rows of a telegram and of a block, and of the first bytes of a page. Assumes nothing.
use mathlib.Core.Path.{◌≡◌, refl, ap, sym, ◌∙◌}
use mathlib.Core.Bool.{Bool, true, false}
use mathlib.Core.List.{List}
use Prim.Native.Nat.{ℕ, ◌+◌, ◌-◌, ◌^◌, ◌≤◌, ◌<◌, min}
use native.Mathlib.Omega.{arith}
use lib.Dec.{leb}
use lib.ListN.{length, take, drop, get_or, length-drop}
use lib.Seq.{take_all}
use borrow.Author.Tests.{leb-true, leb-false}
use Rattle.refusals.specs.Refusals.{Outcome, done, refused, after}
use Rattle.refusals.proofs.Laws.{does}
use Rattle.record_rules.specs.declared.Record.{Record}
use Rattle.telegram_rules.specs.Reading.{read_of}
use Rattle.telegram_rules.proofs.BackAndForth.{accepted_is_written}
use Rattle.log_rules.specs.Good.{count_in, telegram_in, telegrams_of, is_done, reads_well, is_good}
use Rattle.log_rules.proofs.BlockLaws.{count_telegrams}
use Rattle.listing_rules.specs.LogRows.{slot_row, telegram_row, block_row, good_row, bad_row, longest_log_row}
use Rattle.listing_rules.proofs.LogRowLaws.{slot_short}
use Rattle.listing_of_logs.specs.LogPages.{row_of, rows_from, block_rows, offset_of, verified_row}

-- the telegram in a slot: behind the length byte, and not past the slot's end
pub slot_part : (slot : List ℕ) (end : ℕ) → 0 < length slot → end ≡ min (get_or slot 0 0 + 1) (length slot) → take (end - 1) (drop 1 slot) ≡ telegram_in slot
unfolding telegram_in
slot_part slot end some e = go (leb (get_or slot 0 0 + 1) (length slot)) refl
  where
    go : (t : Bool) → leb (get_or slot 0 0 + 1) (length slot) ≡ t → take (end - 1) (drop 1 slot) ≡ take (get_or slot 0 0) (drop 1 slot)
    go true f =
        let inside = leb-true (get_or slot 0 0 + 1) (length slot) f in
        let size : end - 1 ≡ get_or slot 0 0 = omega arith in
        ap (λ n. take n (drop 1 slot)) size
    go false f =
        let over = leb-false (get_or slot 0 0 + 1) (length slot) f in
        take_all (end - 1) (drop 1 slot) (omega (arith, length-drop 1 slot)) ∙ sym (take_all (get_or slot 0 0) (drop 1 slot) (omega (arith, length-drop 1 slot)))

-- what was read decides the row
pub row_read : (number slot : ℕ) (telegram : List ℕ) (read : Outcome Record) → read ≡ read_of true telegram
    → row_of number slot telegram ≡ after read (telegram_row number slot)
unfolding row_of
row_read number slot telegram read e = ap (λ o. after o (telegram_row number slot)) (sym e)

-- a telegram that reads well has its row
pub record HasRow (number slot : ℕ) (telegram : List ℕ) : Type 0 where
  pub row : List ℕ
  pub is : row_of number slot telegram ≡ done row
  pub short : length row ≤ longest_log_row

pub has_row : (number slot : ℕ) (telegram : List ℕ) → number < 2 ^ 64 → slot < 2 ^ 8 → reads_well telegram ≡ true → HasRow number slot telegram
unfolding reads_well
has_row number slot telegram wide small reads = go (read_of true telegram) refl reads
  where
    go : (read : Outcome Record) → read_of true telegram ≡ read → is_done read ≡ true → HasRow number slot telegram
    go (done rec) e done_is =
        record {
          row = slot_row number slot rec;
          is = row_read number slot telegram (done rec) (sym e) ∙ does (slot_row number slot rec) (accepted_is_written true telegram rec e).is_good_law;
          short = slot_short number slot wide small rec;
        }
    go (refused n) e done_is = let z : ◌≡◌ {A = ℕ} 0 1 = cc in absurd (omega arith)

-- the rows of a block, good or bad
module _ (number : ℕ) (block : List ℕ) where
  pub rows_good : is_good block ≡ true → block_rows number block ≡ rows_from number 0 (telegrams_of block)
  unfolding block_rows
  rows_good good = rw good

  pub rows_bad : is_good block ≡ false → block_rows number block ≡ block_row number 20
  unfolding block_rows
  rows_bad bad = rw bad

  pub verified_good : is_good block ≡ true → verified_row number block ≡ good_row number (offset_of number) (count_in block)
  unfolding verified_row
  verified_good good = rw (good, count_telegrams block)

  pub verified_bad : is_good block ≡ false → verified_row number block ≡ bad_row number (offset_of number)
  unfolding verified_row
  verified_bad bad = rw bad
