-- The listings of files that have no block, and the room that the rows of a block need. Assumes nothing.
use mathlib.Core.Path.{◌≡◌, refl, ap}
use mathlib.Core.Bool.{Bool, true, false}
use mathlib.Core.List.{List, [], ◌∷◌}
use Prim.Native.Nat.{ℕ, zero, suc, ◌+◌, ◌*◌, ◌^◌, ◌≤◌, ◌<◌}
use native.Mathlib.Omega.{arith}
use lib.ListN.{length, length-append}
use Rattle.refusals.specs.Refusals.{Outcome, done, refused, unless}
use Rattle.record_rules.specs.declared.Record.{Record}
use Rattle.record_rules.specs.Rule.{refusal_of}
use Rattle.telegram_rules.specs.Reading.{read_of}
use Rattle.log_rules.specs.Good.{telegrams_of, is_good}
use Rattle.log_rules.proofs.BlockLaws.{good_kept, kept_count}
use Rattle.listing_rules.specs.Decimals.{decimal, decimal_within}
use Rattle.listing_rules.specs.Listing.{refused_row}
use Rattle.listing_rules.specs.LogRows.{log_header, slot_row, verify_header, tail_row, bad_count, longest_log_row}
use Rattle.listing_rules.proofs.RowLaws.{refused_short}
use Rattle.listing_rules.proofs.LogRowLaws.{slot_short}
use Rattle.listing_of_logs.specs.LogPages.{row_of, bytes_of, rows_from, block_rows, offset_of, page_room}
use Rattle.listing_of_logs.specs.Whole.{log_listing, verify_listing, TheListingsWithNoBlock, APageHoldsTheRowsOfABlock}
use Rattle.listing_of_logs.proofs.RowLaws.{row_read, rows_good, rows_bad}

pub no_block : TheListingsWithNoBlock
unfolding decimal decimal_within refused_row log_header verify_header tail_row bad_count offset_of log_listing verify_listing
no_block = (refl, refl, refl, refl)

module _ (number : ℕ) (wide : number < 2 ^ 64) where
  -- a row is no longer than the longest, and where there is none there is no byte
  unless_short : (slot : ℕ) → slot < 2 ^ 8 → (rec : Record) (n : ℕ) → length (bytes_of (unless n (slot_row number slot rec))) ≤ longest_log_row
  unfolding unless
  unless_short slot small rec zero = slot_short number slot wide small rec
  unless_short slot small rec (suc n) = omega arith

  row_short : (slot : ℕ) (telegram : List ℕ) → slot < 2 ^ 8 → length (bytes_of (row_of number slot telegram)) ≤ longest_log_row
  row_short slot telegram small = go (read_of true telegram) refl
    where
      go : (read : Outcome Record) → read ≡ read_of true telegram → length (bytes_of (row_of number slot telegram)) ≤ longest_log_row
      go (done rec) e = omega (arith, ap (λ o. length (bytes_of o)) (row_read number slot telegram (done rec) e), unless_short slot small rec (refusal_of rec))
      go (refused n) e = omega (arith, ap (λ o. length (bytes_of o)) (row_read number slot telegram (refused n) e))

  rows_short : (slot : ℕ) (telegrams : List (List ℕ)) → slot + length telegrams ≤ 2 ^ 8 → length (rows_from number slot telegrams) ≤ length telegrams * longest_log_row
  rows_short slot [] small = omega arith
  rows_short slot (telegram ∷ telegrams) small =
      omega (arith, length-append (bytes_of (row_of number slot telegram)) (rows_from number (suc slot) telegrams), row_short slot telegram (omega arith), rows_short (suc slot) telegrams (omega arith))

pub a_page_holds_them : APageHoldsTheRowsOfABlock
a_page_holds_them number block wide = go (is_good block) refl
  where
    go : (t : Bool) → is_good block ≡ t → length (block_rows number block) ≤ page_room
    go true good =
        let few = kept_count (telegrams_of block) (good_kept block good) in
        omega (arith, ap length (rows_good number block good), rows_short number wide 0 (telegrams_of block) (omega arith))
    go false bad = omega (arith, ap length (rows_bad number block bad), refused_short number 20 wide (omega arith))
