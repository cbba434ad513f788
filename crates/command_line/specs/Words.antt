-- What one word of the command line says.
use Rattle.std.specs.Prelude.{Bool, cond, List, [], ◌∷◌, ℕ, nat_eq, nat_lt, length}
use Rattle.std.specs.List.{starts_with}
use Rattle.std.specs.Str.{bytes_eq}
use Prim.Native.String.{String}
use Rattle.ascii.specs.Ascii.{ascii}
use Rattle.command_line.specs.declared.Wanted.TheVariants as wanted
use Rattle.command_line.specs.declared.Word.{Word}
use Rattle.command_line.specs.declared.Word.TheVariants.{Help, Version, Listing, UnknownOption, LongName, Name}

-- a word that begins with `--` is an option
unfoldable pub is_option : List ℕ → Bool
is_option word = starts_with nat_eq word (ascii "--")

-- "a path is at most 4,095 bytes": the system takes no longer one
abbrev pub longest_name : ℕ
longest_name = 4095

-- the options that say what is listed
abbrev pub listings : List (String × Word)
listings =
    ("--exchanged", Listing wanted.Exchanged)
    ∷ ("--verify", Listing wanted.Blocks)
    ∷ ("--log", Listing wanted.Telegrams)
    ∷ []

-- all options, and what each says
abbrev pub options : List (String × Word)
options =
    ("--help", Help)
    ∷ ("-h", Help)
    ∷ ("--version", Version)
    ∷ listings

-- a word that is none of them: no option that there is, or a file's name
unfoldable pub other_word : List ℕ → Word
other_word word = cond (is_option word) UnknownOption (cond (nat_lt longest_name (length word)) LongName Name)

-- the first option that the word is
abbrev pub word_in : List (String × Word) → List ℕ → Word
word_in [] word = other_word word
word_in (option ∷ more) word = cond (bytes_eq word (ascii option.0)) option.1 (word_in more word)

unfoldable pub word_of : List ℕ → Word
word_of word = word_in options word
