-- Document 02 c), "an add goes to the first free slot of a good block behind the last slot used in any good block".
use Rattle.std.specs.Prelude.{Bool, true, false, cond, ◌&&◌, ◌||◌, List, [], ◌∷◌, ◌++◌, ℕ, suc, ltb}
use Rattle.refusals.specs.Refusals.{Outcome, done, refused, after}
use Rattle.telegram_rules.specs.Reading.{read_of}
use Rattle.log_rules.specs.declared.Place.{Place}
use Rattle.log_rules.specs.Block.{slots, block_of}
use Rattle.log_rules.specs.Good.{count_in, telegrams_of, is_good}
use Rattle.log_rules.specs.Region.{blocks_of, block_at, with_block}

-- a block and a slot, both from 0
abbrev pub place_at : ℕ → ℕ → Place
place_at block slot = record { block = block; slot = slot }

-- "the first free slot of a good block": a block's free slots are those behind the used ones. "21 no such free slot"
abbrev pub first_free : ℕ → List (List ℕ) → Outcome Place
first_free number [] = refused 21
first_free number (block ∷ blocks) =
    cond (is_good block && ltb (count_in block) slots) (done (place_at number (count_in block))) (first_free (suc number) blocks)

-- whether a slot is used in any good block
abbrev pub some_used : List (List ℕ) → Bool
some_used [] = false
some_used (block ∷ blocks) = (is_good block && ltb 0 (count_in block)) || some_used blocks

-- "behind the last slot used in any good block": as long as one is used further behind, the search goes on there
abbrev pub free_behind_used : ℕ → List (List ℕ) → Outcome Place
free_behind_used number [] = refused 21
free_behind_used number (block ∷ blocks) =
    cond (some_used blocks) (free_behind_used (suc number) blocks) (first_free number (block ∷ blocks))

-- 19, then 21
unfoldable pub place_in : List ℕ → Outcome Place
place_in region = after (blocks_of region) (free_behind_used 0)

-- "an added telegram's own" refusal comes first
unfoldable pub place_for : List ℕ → List ℕ → Outcome Place
place_for region telegram = after (read_of true telegram) (λ rec. place_in region)

-- the block with one telegram more
abbrev pub entered : List ℕ → List ℕ → List ℕ
entered block telegram = block_of (telegrams_of block ++ telegram ∷ [])

-- "a refused add leaves the region as it stood"
abbrev pub region_after : Outcome Place → List ℕ → List ℕ → List ℕ
region_after (done place) region telegram = with_block place.block (entered (block_at place.block region) telegram) region
region_after (refused number) region telegram = region

-- both at once: the answer, and the region behind it
unfoldable pub add_of : List ℕ → List ℕ → Outcome Place × List ℕ
add_of region telegram = (place_for region telegram, region_after (place_for region telegram) region telegram)
