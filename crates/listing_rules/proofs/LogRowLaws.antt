-- Laws of a log's rows: none is longer than the longest. Assumes nothing.
use Prim.Native.Nat.{ℕ, ◌^◌, ◌≤◌, ◌<◌}
use native.Mathlib.Omega.{arith}
use lib.Dec.{lit≤}
use lib.ListN.{length, length-append}
use Rattle.record_rules.specs.declared.Record.{Record}
use Rattle.listing_rules.specs.LogRows.{log_header, slot_row, verify_header, good_row, bad_row, tail_row, bad_count, longest_log_row}
use Rattle.listing_rules.proofs.RowLaws.{wide_length, number_length, columns_length}

pub log_header_short : length log_header ≤ longest_log_row
unfolding log_header
log_header_short = lit≤ tt

pub verify_header_short : length verify_header ≤ longest_log_row
unfolding verify_header
verify_header_short = lit≤ tt

pub slot_short : (block slot : ℕ) → block < 2 ^ 64 → slot < 2 ^ 8 → (rec : Record) → length (slot_row block slot rec) ≤ longest_log_row
unfolding slot_row
slot_short block slot wide small rec =
    simp length-append (omega (arith, wide_length block wide, number_length slot small, columns_length rec))

pub bad_count_short : (bad : ℕ) → bad < 2 ^ 64 → length (bad_count bad) ≤ longest_log_row
unfolding bad_count
bad_count_short bad wide = simp length-append (omega (arith, wide_length bad wide))

-- the rows of a block that is verified
module _ (block offset : ℕ) (wide : block < 2 ^ 64) (far : offset < 2 ^ 64) where
  pub good_short : (telegrams : ℕ) → telegrams < 2 ^ 8 → length (good_row block offset telegrams) ≤ longest_log_row
  unfolding good_row
  good_short telegrams small = simp length-append (omega (arith, wide_length block wide, wide_length offset far, number_length telegrams small))

  pub bad_short : length (bad_row block offset) ≤ longest_log_row
  unfolding bad_row
  bad_short = simp length-append (omega (arith, wide_length block wide, wide_length offset far))

  pub tail_short : (number : ℕ) → number < 2 ^ 8 → length (tail_row block offset number) ≤ longest_log_row
  unfolding tail_row
  tail_short number small = simp length-append (omega (arith, wide_length block wide, wide_length offset far, number_length number small))
