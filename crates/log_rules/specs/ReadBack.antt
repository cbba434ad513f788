-- Document 02 c), "read back of a telegram's bytes by block and slot (both from 0)".
use Rattle.std.specs.Prelude.{not, List, [], ◌∷◌, ℕ, zero, suc}
use Rattle.refusals.specs.Refusals.{◌when◌, Outcome, done, refused, unless, after}
use Rattle.log_rules.specs.Good.{telegrams_of, is_good}
use Rattle.log_rules.specs.Region.{blocks_of}

-- "27 no telegram at that block and slot": the one of that number, if there are so many
abbrev pub numbered : {A : Type 0} → ℕ → List A → Outcome A
numbered n [] = refused 27
numbered zero (x ∷ xs) = done x
numbered (suc n) (x ∷ xs) = numbered n xs

-- "20 block bad"; then the telegram in that slot
abbrev pub telegram_at : ℕ → List ℕ → Outcome (List ℕ)
telegram_at slot block = after (unless (20 when not (is_good block)) (telegrams_of block)) (numbered slot)

-- 19, then 27 for a block that is not there, then 20, then 27 for a slot that is not used
unfoldable pub read_back_of : List ℕ → ℕ → ℕ → Outcome (List ℕ)
read_back_of region block slot = after (blocks_of region) (λ blocks. after (numbered block blocks) (telegram_at slot))
