-- What the two listings of a log say of one block, as bytes.
use Rattle.std.specs.Prelude.{true, cond, List, [], ◌∷◌, ◌++◌, ℕ, suc, ◌*◌, ◌%◌, ◌^◌, length}
use Rattle.refusals.specs.Refusals.{Outcome, done, refused, after}
use Rattle.telegram_rules.specs.Reading.{read_of}
use Rattle.log_rules.specs.Block.{slots, block_size}
use Rattle.log_rules.specs.Good.{telegrams_of, is_good}
use Rattle.listing_rules.specs.LogRows.{telegram_row, block_row, good_row, bad_row, longest_log_row}

-- the row of a telegram in a slot; one that does not read has none, but its own number
unfoldable pub row_of : ℕ → ℕ → List ℕ → Outcome (List ℕ)
row_of number slot telegram = after (read_of true telegram) (telegram_row number slot)

abbrev pub bytes_of : Outcome (List ℕ) → List ℕ
bytes_of (done bytes) = bytes
bytes_of (refused number) = []

-- the rows of telegrams, the first of them in the slot that is given
abbrev pub rows_from : ℕ → ℕ → List (List ℕ) → List ℕ
rows_from number slot [] = []
rows_from number slot (telegram ∷ telegrams) = bytes_of (row_of number slot telegram) ++ rows_from number (suc slot) telegrams

-- a good block has a row for each of its telegrams; a bad one has one row, "20 block bad"
unfoldable pub block_rows : ℕ → List ℕ → List ℕ
block_rows number block = cond (is_good block) (rows_from number 0 (telegrams_of block)) (block_row number 20)

-- where a block begins in its file: a number of 64 bits, as the offsets of files are
unfoldable pub offset_of : ℕ → ℕ
offset_of number = block_size * number % 2 ^ 64

-- a good block and how many telegrams it holds, or a bad one
unfoldable pub verified_row : ℕ → List ℕ → List ℕ
verified_row number block =
    cond (is_good block) (good_row number (offset_of number) (length (telegrams_of block))) (bad_row number (offset_of number))

-- room for the rows of any block
abbrev pub page_room : ℕ
page_room = slots * longest_log_row
