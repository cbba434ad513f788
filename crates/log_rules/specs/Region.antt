-- Document 02 c), "over a lent region of whole blocks".
use Rattle.std.specs.Prelude.{Bool, not, List, [], ◌∷◌, ◌++◌, ℕ, zero, suc, ◌+◌, ◌*◌, ◌%◌, ◌/◌, eqb, length, take, drop}
use Rattle.refusals.specs.Refusals.{◌when◌, Outcome, unless}
use Rattle.log_rules.specs.Block.{block_size}

-- so many blocks, from the front
abbrev pub blocks_from : ℕ → List ℕ → List (List ℕ)
blocks_from zero bytes = []
blocks_from (suc n) bytes = take block_size bytes ∷ blocks_from n (drop block_size bytes)

-- "19 region not whole blocks"
abbrev pub is_whole : List ℕ → Bool
is_whole region = eqb (length region % block_size) 0

-- how many blocks a region has
abbrev pub blocks_in : List ℕ → ℕ
blocks_in region = length region / block_size

-- its whole blocks
abbrev pub whole_blocks : List ℕ → List (List ℕ)
whole_blocks region = blocks_from (blocks_in region) region

-- the blocks of a region that is nothing but blocks
unfoldable pub blocks_of : List ℕ → Outcome (List (List ℕ))
blocks_of region = unless (19 when not (is_whole region)) (whole_blocks region)

-- the block of a number
abbrev pub block_at : ℕ → List ℕ → List ℕ
block_at number region = take block_size (drop (block_size * number) region)

-- the region with another block of that number
abbrev pub with_block : ℕ → List ℕ → List ℕ → List ℕ
with_block number block region = take (block_size * number) region ++ (block ++ drop (block_size * number + block_size) region)
