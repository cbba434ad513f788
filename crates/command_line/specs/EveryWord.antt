-- What every word says, by its bytes alone, and what every list of words that asks for no listing is told.
use Rattle.std.specs.Prelude.{◌≡◌, List, [], ◌∷◌, ◌++◌, ℕ, ◌+◌, ◌≤◌, length, Ok, Err}
use Rattle.command_line.specs.declared.Wanted.{Wanted}
use Rattle.command_line.specs.declared.Wanted.TheVariants.{Line}
use Rattle.command_line.specs.declared.Source.{Source}
use Rattle.command_line.specs.declared.Source.TheVariants.{File}
use Rattle.command_line.specs.declared.Fault.TheVariants.{NoSuchOption, LongName, SecondListing, SecondFile}
use Rattle.command_line.specs.declared.Asked.TheVariants.{Help, Version}
use Rattle.command_line.specs.declared.Word.TheVariants as word
use Rattle.command_line.specs.Words.{word_of}
use Rattle.command_line.specs.Asking.{asked_by}
use Rattle.command_line.specs.Exactly.{Lists}

-- "help", "version", "exchanged", "verify", "log": what may stand behind `--`
pub record BehindHyphens (more : List ℕ) : Type 0 where
  pub no_help : more ≡ 0x68 ∷ 0x65 ∷ 0x6C ∷ 0x70 ∷ [] → ⊥
  pub no_version : more ≡ 0x76 ∷ 0x65 ∷ 0x72 ∷ 0x73 ∷ 0x69 ∷ 0x6F ∷ 0x6E ∷ [] → ⊥
  pub no_exchanged : more ≡ 0x65 ∷ 0x78 ∷ 0x63 ∷ 0x68 ∷ 0x61 ∷ 0x6E ∷ 0x67 ∷ 0x65 ∷ 0x64 ∷ [] → ⊥
  pub no_verify : more ≡ 0x76 ∷ 0x65 ∷ 0x72 ∷ 0x69 ∷ 0x66 ∷ 0x79 ∷ [] → ⊥
  pub no_log : more ≡ 0x6C ∷ 0x6F ∷ 0x67 ∷ [] → ⊥

-- anything else behind `--` is no option that there is, however long it is
abbrev pub NothingElseBehindTwoHyphens : Type 0
NothingElseBehindTwoHyphens = (more : List ℕ) → BehindHyphens more → word_of (0x2D ∷ 0x2D ∷ more) ≡ word.UnknownOption

-- a word is a name, by its length alone
abbrev pub IsNamed : List ℕ → Type 0
IsNamed named = (length named ≤ 4095 → word_of named ≡ word.Name) × (4096 ≤ length named → word_of named ≡ word.LongName)

-- and every word that does not begin with `--` is one, but `-h`
abbrev pub AllOthersAreNames : Type 0
AllOthersAreNames =
    IsNamed []
    × ((first : ℕ) → IsNamed (first ∷ []))
    × ((first second : ℕ) (more : List ℕ) → (first ≡ 0x2D → ⊥) → IsNamed (first ∷ second ∷ more))
    × ((second : ℕ) (more : List ℕ) → (second ≡ 0x2D → ⊥) → (second ∷ more ≡ 0x68 ∷ [] → ⊥) → IsNamed (0x2D ∷ second ∷ more))

-- behind words that ask for a listing, a word that does not go with them settles what is asked for, whatever stands behind it
pub record Settles (words : List (List ℕ)) (wanted : Wanted) (source : Source) (next : List ℕ) (more : List (List ℕ)) : Type 0 where
  pub help : word_of next ≡ word.Help → asked_by (words ++ next ∷ more) ≡ Ok Help
  pub version : word_of next ≡ word.Version → asked_by (words ++ next ∷ more) ≡ Ok Version
  pub unknown : word_of next ≡ word.UnknownOption → asked_by (words ++ next ∷ more) ≡ Err (NoSuchOption (length words + 1))
  pub long : word_of next ≡ word.LongName → asked_by (words ++ next ∷ more) ≡ Err LongName
  pub file : (before : ℕ) → source ≡ File before → word_of next ≡ word.Name → asked_by (words ++ next ∷ more) ≡ Err SecondFile
  pub listing : (other : Wanted) → (wanted ≡ Line → ⊥) → word_of next ≡ word.Listing other → asked_by (words ++ next ∷ more) ≡ Err SecondListing

abbrev pub TheFirstWrongWordIsTold : Type 0
TheFirstWrongWordIsTold =
    (words : List (List ℕ)) (wanted : Wanted) (source : Source) → Lists words wanted source
    → (next : List ℕ) (more : List (List ℕ)) → Settles words wanted source next more
