-- Document 02 c), "blocks of 512 bytes": the block that a list of telegrams makes.
use Rattle.std.specs.Prelude.{List, [], ◌∷◌, ◌++◌, ℕ, ◌-◌, length, replicate}
use Rattle.log_rules.specs.Check.{check_of, low_first}

-- "15 slots of 32 bytes", and what stands behind them
abbrev pub slots : ℕ
slots = 15

abbrev pub slot_size : ℕ
slot_size = 32

abbrev pub count_place : ℕ
count_place = 480

abbrev pub check_place : ℕ
check_place = 510

abbrev pub block_size : ℕ
block_size = 512

-- bytes, and zeros up to so many
unfoldable pub filled : ℕ → List ℕ → List ℕ
filled size bytes = bytes ++ replicate (size - length bytes) 0

-- "each a length byte, the telegram with control characters, zeros"
unfoldable pub slot_of : List ℕ → List ℕ
slot_of telegram = filled slot_size (length telegram ∷ telegram)

-- the slots used, one behind another
abbrev pub slots_of : List (List ℕ) → List ℕ
slots_of [] = []
slots_of (telegram ∷ telegrams) = slot_of telegram ++ slots_of telegrams

-- "unused ones all zero; byte 480 the number of slots used, always the first ones; byte 481 zero; zeros to 509"
unfoldable pub body_of : List (List ℕ) → List ℕ
body_of telegrams = filled check_place (filled count_place (slots_of telegrams) ++ length telegrams ∷ [])

-- "the last two bytes, low first, a check"
unfoldable pub sealed : List ℕ → List ℕ
sealed body = body ++ low_first (check_of body)

-- the block of a list of telegrams
abbrev pub block_of : List (List ℕ) → List ℕ
block_of telegrams = sealed (body_of telegrams)
