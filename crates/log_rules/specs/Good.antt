-- Document 02 c), which blocks are good: "any single changed byte in a block must be noticed .. A block that verifies but breaks another of
-- these rules is bad too".
use Rattle.std.specs.Prelude.{Bool, true, false, ◌&&◌, List, [], ◌∷◌, ℕ, zero, suc, eqb, leb, length, take, drop, get_or}
use Rattle.refusals.specs.Refusals.{Outcome, done, refused}
use Rattle.record_rules.specs.declared.Record.{Record}
use Rattle.telegram_rules.specs.Reading.{read_of}
use Rattle.log_rules.specs.Block.{slots, slot_size, count_place, block_of}

-- how many slots a block says it uses
abbrev pub count_in : List ℕ → ℕ
count_in block = get_or block count_place 0

-- what a slot holds: as many bytes as its length byte says
unfoldable pub telegram_in : List ℕ → List ℕ
telegram_in slot = take (get_or slot 0 0) (drop 1 slot)

-- the telegrams of so many slots
abbrev pub telegrams_from : ℕ → List ℕ → List (List ℕ)
telegrams_from zero bytes = []
telegrams_from (suc n) bytes = telegram_in (take slot_size bytes) ∷ telegrams_from n (drop slot_size bytes)

-- the telegrams of a block
unfoldable pub telegrams_of : List ℕ → List (List ℕ)
telegrams_of block = telegrams_from (count_in block) block

-- "accepted telegrams .. with control characters"
abbrev pub is_done : Outcome Record → Bool
is_done (done rec) = true
is_done (refused number) = false

unfoldable pub reads_well : List ℕ → Bool
reads_well telegram = is_done (read_of true telegram)

abbrev pub all_read_well : List (List ℕ) → Bool
all_read_well [] = true
all_read_well (telegram ∷ telegrams) = reads_well telegram && all_read_well telegrams

-- the same bytes
abbrev pub same : List ℕ → List ℕ → Bool
same [] [] = true
same [] (other ∷ others) = false
same (byte ∷ bytes) [] = false
same (byte ∷ bytes) (other ∷ others) = eqb byte other && same bytes others

-- a list of telegrams that one block keeps: at most 15, each accepted
unfoldable pub is_kept : List (List ℕ) → Bool
is_kept telegrams = leb (length telegrams) slots && all_read_well telegrams

-- a good block is the one that its telegrams make
unfoldable pub is_good : List ℕ → Bool
is_good block = is_kept (telegrams_of block) && same block (block_of (telegrams_of block))
