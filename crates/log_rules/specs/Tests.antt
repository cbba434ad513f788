-- The words of the log's private functions: the tests of a block, part by part, and the search for a place, block by block.
use Rattle.std.specs.Prelude.{Bool, true, cond, ◌&&◌, List, [], ◌∷◌, ℕ, zero, suc, eqb, ltb, take, drop}
use Rattle.refusals.specs.Refusals.{Outcome, done, refused}
use Rattle.log_rules.specs.declared.Place.{Place}
use Rattle.log_rules.specs.Block.{slots, slot_size, check_place, slot_of}
use Rattle.log_rules.specs.Check.{check_of, low_first}
use Rattle.log_rules.specs.Good.{count_in, telegram_in, reads_well, same, is_good}
use Rattle.log_rules.specs.Add.{place_at}

-- zeros alone
abbrev pub all_zero : List ℕ → Bool
all_zero [] = true
all_zero (byte ∷ bytes) = eqb byte 0 && all_zero bytes

-- a used slot is the one that its telegram makes, and the telegram reads well
unfoldable pub slot_fits : List ℕ → Bool
slot_fits slot = reads_well (telegram_in slot) && same slot (slot_of (telegram_in slot))

-- so many slots
abbrev pub slots_fit : ℕ → List ℕ → Bool
slots_fit zero bytes = true
slots_fit (suc n) bytes = slot_fits (take slot_size bytes) && slots_fit n (drop slot_size bytes)

-- the last bytes of a block are the check of those before them
unfoldable pub check_fits : List ℕ → Bool
check_fits block = same (drop check_place block) (low_first (check_of (take check_place block)))

-- a place that was found, else another
abbrev pub or_else : Outcome Place → Outcome Place → Outcome Place
or_else (done place) other = done place
or_else (refused n) other = other

-- the place found so far, if any, with one block more: a used slot in it makes those found before gaps
abbrev pub place_with : Outcome Place → ℕ → List ℕ → Outcome Place
place_with found number block =
    cond (is_good block)
    (cond (eqb (count_in block) 0) (or_else found (done (place_at number 0)))
    (cond (ltb (count_in block) slots) (done (place_at number (count_in block))) (refused 21)))
    found

-- and with all the blocks behind it
abbrev pub place_then : Outcome Place → ℕ → List (List ℕ) → Outcome Place
place_then found number [] = found
place_then found number (block ∷ blocks) = place_then (place_with found number block) (suc number) blocks
