-- Demand 1 of document 02, c: the log's add, read back and verify. Of their rules the first that holds gives the number: an added
-- telegram's own refusal comes before 19 because the request says so, and not because 1 to 8 are the lower numbers.
use Rattle.std.specs.Prelude.{Bool, true, false, not, ◌&&◌, ◌||◌, List, [], ◌∷◌, ◌++◌, ◌≡◌, ℕ, ltb}
use Rattle.refusals.specs.Refusals.{Outcome, done, refused}
use Rattle.trailer_rules.specs.declared.Order.TheVariants.{AsPrinted}
use Rattle.log_rules.specs.Verify.{AllGood, Bad, Refused, Verified, verify_of}
use Rattle.log_rules.specs.Block.{slots}
use Rattle.log_rules.specs.Good.{count_in, is_good}
use Rattle.log_rules.specs.Region.{is_whole, blocks_in, whole_blocks, block_at}
use Rattle.log_rules.specs.Add.{some_used, add_of}
use Rattle.log_rules.specs.ReadBack.{read_back_of}
use Rattle.demands.specs.Numbers.{Rule, ◌given_when◌, ◌by_first◌, ◌done_or◌}
use Rattle.demands.specs.Rules.{reading_rules}

-- a "free slot of a good block behind the last slot used in any good block": of a good block that is not full, and none behind it
-- that is good has a slot used
abbrev pub has_free : List (List ℕ) → Bool
has_free [] = false
has_free (block ∷ blocks) = (is_good block && (ltb (count_in block) slots && not (some_used blocks))) || has_free blocks

abbrev pub some_bad : List (List ℕ) → Bool
some_bad [] = false
some_bad (block ∷ blocks) = not (is_good block) || some_bad blocks

-- a place for an add: "19 region not whole blocks", "21 no such free slot for an add (a region of no blocks included)"
abbrev pub free_rules : List ℕ → List Rule
free_rules region = 19 given_when not (is_whole region) ∷ 21 given_when not (has_free (whole_blocks region)) ∷ []

-- adding: "an added telegram's own, then" those; document 02, f: "the log takes as-printed order only"
abbrev pub add_rules : List ℕ → List ℕ → List Rule
add_rules region telegram = reading_rules AsPrinted true telegram ++ free_rules region

-- reading back: 19, "20 block bad", where there is such a block, "27 no telegram at that block and slot"
abbrev pub read_back_rules : List ℕ → ℕ → ℕ → List Rule
read_back_rules region block slot =
    19 given_when not (is_whole region)
    ∷ 20 given_when (ltb block (blocks_in region) && not (is_good (block_at block region)))
    ∷ 27 given_when not (ltb block (blocks_in region) && ltb slot (count_in (block_at block region)))
    ∷ []

-- verifying: 19, "20 block bad"
abbrev pub verify_rules : List ℕ → List Rule
verify_rules region = 19 given_when not (is_whole region) ∷ 20 given_when some_bad (whole_blocks region) ∷ []

-- what verify answers: all is good, or a number
abbrev pub verified_outcome : Verified → Outcome (Unit {0})
verified_outcome AllGood = done tt
verified_outcome (Bad number block) = refused number
verified_outcome (Refused number) = refused number

-- a telegram added: 1 to 8, 19, 21
abbrev pub AddingRefuses : Type 0
AddingRefuses =
    (region telegram : List ℕ)
    → ((add_of region telegram).0 by_first add_rules region telegram)
    × ((add_of region telegram).0 done_or 1 ∷ 2 ∷ 3 ∷ 4 ∷ 5 ∷ 6 ∷ 7 ∷ 8 ∷ 19 ∷ 21 ∷ [])

-- a telegram read back, by any block and slot: 19, 20, 27
abbrev pub ReadingBackRefuses : Type 0
ReadingBackRefuses =
    (region : List ℕ) (block slot : ℕ)
    → (read_back_of region block slot by_first read_back_rules region block slot)
    × (read_back_of region block slot done_or 19 ∷ 20 ∷ 27 ∷ [])

-- a region verified: 19, 20
abbrev pub VerifyingRefuses : Type 0
VerifyingRefuses =
    (region : List ℕ)
    → (verified_outcome (verify_of region) by_first verify_rules region) × (verified_outcome (verify_of region) done_or 19 ∷ 20 ∷ [])

-- "a refused add leaves the region as it stood"
abbrev pub ARefusedAddChangesNoByte : Type 0
ARefusedAddChangesNoByte =
    (region telegram : List ℕ) (n : ℕ) → (add_of region telegram).0 ≡ refused n → (add_of region telegram).1 ≡ region
