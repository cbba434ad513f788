-- What the words of the command line ask for, one behind another.
use Rattle.std.specs.Prelude.{◌≡◌, List, [], ◌∷◌, ◌++◌, ℕ, suc, length, Result, Ok, Err}
use Rattle.command_line.specs.declared.Wanted.{Wanted}
use Rattle.command_line.specs.declared.Wanted.TheVariants.{Line, Exchanged, Telegrams, Blocks}
use Rattle.command_line.specs.declared.Source.{Source}
use Rattle.command_line.specs.declared.Source.TheVariants.{Input, File}
use Rattle.command_line.specs.declared.Fault.{Fault}
use Rattle.command_line.specs.declared.Fault.TheVariants.{NoSuchOption, LongName, SecondListing, SecondFile}
use Rattle.command_line.specs.declared.Asked.{Asked}
use Rattle.command_line.specs.declared.Asked.TheVariants.{Listing, Help, Version}
use Rattle.command_line.specs.declared.Word.{Word}
use Rattle.command_line.specs.declared.Word.TheVariants as word
use Rattle.command_line.specs.Words.{word_of}

-- with no word a line on standard input is listed
abbrev pub no_word : Asked
no_word = Listing Line Input

-- what is asked for, or the first thing that is wrong
abbrev pub Answer : Type 0
Answer = Result Asked Fault

-- what is listed is said once
abbrev pub with_listing : Wanted → Source → Wanted → Answer
with_listing Line source wanted = Ok (Listing wanted source)
with_listing Exchanged source wanted = Err SecondListing
with_listing Telegrams source wanted = Err SecondListing
with_listing Blocks source wanted = Err SecondListing

-- and so is the file
abbrev pub with_name : Wanted → Source → ℕ → Answer
with_name wanted Input place = Ok (Listing wanted (File place))
with_name wanted (File before) place = Err SecondFile

-- a listing, and what the word at a place says besides
abbrev pub with_meaning : Wanted → Source → ℕ → Word → Answer
with_meaning wanted source place word.Help = Ok Help
with_meaning wanted source place word.Version = Ok Version
with_meaning wanted source place (word.Listing other) = with_listing wanted source other
with_meaning wanted source place word.UnknownOption = Err (NoSuchOption place)
with_meaning wanted source place word.LongName = Err LongName
with_meaning wanted source place word.Name = with_name wanted source place

-- what is asked for with one word more. Nothing behind help or the version is looked at
abbrev pub with_more : Asked → ℕ → List ℕ → Answer
with_more (Listing wanted source) place bytes = with_meaning wanted source place (word_of bytes)
with_more Help place bytes = Ok Help
with_more Version place bytes = Ok Version

-- nor is anything behind a wrong word
abbrev pub with_word : Answer → ℕ → List ℕ → Answer
with_word (Ok asked) place bytes = with_more asked place bytes
with_word (Err fault) place bytes = Err fault

-- with several words more, the first of which stands at a place
abbrev pub with_words : Answer → ℕ → List (List ℕ) → Answer
with_words so_far place [] = so_far
with_words so_far place (word ∷ words) = with_words (with_word so_far place word) (suc place) words

-- what a list of words asks for. The word at place 0 is the program's own name
unfoldable pub asked_by : List (List ℕ) → Answer
asked_by words = with_words (Ok no_word) 1 words

-- the words may be handed in one by one: what a list asks for with one word more is what it asks for, with that word
abbrev pub WordsComeOneByOne : Type 0
WordsComeOneByOne = (words : List (List ℕ)) (word : List ℕ) → asked_by (words ++ word ∷ []) ≡ with_word (asked_by words) (suc (length words)) word

-- what is settled: help, the version and what is wrong
abbrev pub Settled : Answer → Type 0
Settled (Ok (Listing wanted source)) = ⊥
Settled (Ok Help) = Unit {0}
Settled (Ok Version) = Unit {0}
Settled (Err fault) = Unit {0}

-- no word behind it changes it
abbrev pub TheFirstSettles : Type 0
TheFirstSettles = (words more : List (List ℕ)) → Settled (asked_by words) → asked_by (words ++ more) ≡ asked_by words
