-- The two listings of a log's file, whole.
use Rattle.std.specs.Prelude.{cond, List, [], ◌∷◌, ◌++◌, ◌≡◌, ℕ, suc, ◌^◌, ◌≤◌, ◌<◌, length}
use Rattle.ascii.specs.Ascii.{ascii}
use Rattle.log_rules.specs.Good.{is_good}
use Rattle.log_rules.specs.Region.{is_whole, blocks_in, whole_blocks}
use Rattle.listing_rules.specs.LogRows.{log_header, block_row, verify_header, tail_row, bad_count}
use Rattle.listing_of_logs.specs.LogPages.{block_rows, offset_of, verified_row, page_room}

-- the rows of blocks, the first of them with the number that is given
abbrev pub listed : (ℕ → List ℕ → List ℕ) → ℕ → List (List ℕ) → List ℕ
listed rows number [] = []
listed rows number (block ∷ blocks) = rows number block ++ listed rows (suc number) blocks

-- "19 region not whole blocks": a row for the bytes behind the last whole block, if there are any
abbrev pub if_any_behind : List ℕ → List ℕ → List ℕ
if_any_behind file row = cond (is_whole file) [] row

-- the telegrams of a log: the header, the rows of each block, the row of what is no block
unfoldable pub log_listing : List ℕ → List ℕ
log_listing file = log_header ++ listed block_rows 0 (whole_blocks file) ++ if_any_behind file (block_row (blocks_in file) 19)

-- how many blocks are bad
abbrev pub bad_in : List (List ℕ) → ℕ
bad_in [] = 0
bad_in (block ∷ blocks) = cond (is_good block) (bad_in blocks) (suc (bad_in blocks))

-- its blocks, verified: the header, the row of each block, the row of what is no block, and how many blocks are bad
unfoldable pub verify_listing : List ℕ → List ℕ
verify_listing file =
    verify_header
    ++ listed verified_row 0 (whole_blocks file)
    ++ if_any_behind file (tail_row (blocks_in file) (offset_of (blocks_in file)) 19)
    ++ bad_count (bad_in (whole_blocks file))

-- a file with no byte, and one with a byte and no block
abbrev pub TheListingsWithNoBlock : Type 0
TheListingsWithNoBlock =
    (log_listing [] ≡ ascii "block;slot;kind;date;time;weekday;status\n")
    × (log_listing (2 ∷ []) ≡ ascii "block;slot;kind;date;time;weekday;status\n0;refused 19\n")
    × (verify_listing [] ≡ ascii "block;offset;state;telegrams\nbad 0\n")
    × (verify_listing (2 ∷ []) ≡ ascii "block;offset;state;telegrams\n0;0;refused 19\nbad 0\n")

-- no block needs more room than a page has
abbrev pub APageHoldsTheRowsOfABlock : Type 0
APageHoldsTheRowsOfABlock = (number : ℕ) (block : List ℕ) → number < 2 ^ 64 → length (block_rows number block) ≤ page_room
