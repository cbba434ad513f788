-- Document 02 c): what its sentences say of every block, each as a statement beside its words.
use Rattle.std.specs.Prelude.{true, false, List, [], ◌∷◌, ◌≡◌, ℕ, suc, ◌+◌, ◌*◌, ◌%◌, ◌^◌, ◌≤◌, ◌<◌, length, get_or, set, replicate}
use Rattle.log_rules.specs.Check.{weighed, modulus, check_of}
use Rattle.log_rules.specs.Block.{check_place, block_size, block_of}
use Rattle.log_rules.specs.Good.{telegrams_of, is_kept, is_good}

-- a good block is the one that a list of at most 15 accepted telegrams makes, and those are its telegrams; and each such list makes one
pub record MadeBy (block : List ℕ) (telegrams : List (List ℕ)) : Type 0 where
  pub kept : is_kept telegrams ≡ true
  pub made : block ≡ block_of telegrams

abbrev pub AGoodBlockIsMadeByItsTelegrams : Type 0
AGoodBlockIsMadeByItsTelegrams =
    ((block : List ℕ) → is_good block ≡ true → MadeBy block (telegrams_of block))
    × ((block : List ℕ) (telegrams : List (List ℕ)) → MadeBy block telegrams → (is_good block ≡ true) × (telegrams_of block ≡ telegrams))

-- "blocks of 512 bytes"
abbrev pub AGoodBlockHas512Bytes : Type 0
AGoodBlockHas512Bytes = (block : List ℕ) → is_good block ≡ true → length block ≡ block_size

-- a zeroed block is good and empty
abbrev pub AZeroedBlockIsGoodAndEmpty : Type 0
AZeroedBlockIsGoodAndEmpty = (is_good (replicate block_size 0) ≡ true) × (telegrams_of (replicate block_size 0) ≡ [])

-- "any single changed byte in a block must be noticed": at every place, by every other byte, where bytes are numbers below 256
abbrev pub AnyChangedByteIsNoticed : Type 0
AnyChangedByteIsNoticed =
    (block : List ℕ) (place byte : ℕ) → is_good block ≡ true → place < block_size → get_or block place 0 < 256 → byte < 256
    → (byte ≡ get_or block place 0 → ⊥)
    → is_good (set block place byte) ≡ false

-- bytes
abbrev pub AllBytes : List ℕ → Type 0
AllBytes [] = Unit {0}
AllBytes (byte ∷ bytes) = (byte < 256) × AllBytes bytes

-- the sum of a check needs no more than 32 bits: of 510 bytes it is at most 255 times the sum of the numbers 1 to 510
abbrev pub TheSumNeedsNoMoreThan32Bits : Type 0
TheSumNeedsNoMoreThan32Bits =
    (body : List ℕ) → AllBytes body → length body ≤ check_place → (weighed 1 body ≤ 255 * 130305) × (weighed 1 body < 2 ^ 32)

-- and one reduction at the end is enough: reducing at each byte gives the same
abbrev pub reduced_each : ℕ → List ℕ → ℕ
reduced_each place [] = 0
reduced_each place (byte ∷ bytes) = (byte * place + reduced_each (suc place) bytes) % modulus

abbrev pub OneReductionAtTheEndIsEnough : Type 0
OneReductionAtTheEndIsEnough = (body : List ℕ) → check_of body ≡ reduced_each 1 body
