-- The words of the command line as they are typed, each with what it says, and lists of them with what they ask for.
use Rattle.std.specs.Prelude.{◌≡◌, List, [], ◌∷◌, map, ℕ, replicate, Ok, Err}
use Prim.Native.String.{String}
use Rattle.ascii.specs.Ascii.{ascii}
use Rattle.command_line.specs.declared.Wanted.TheVariants.{Line, Exchanged, Telegrams, Blocks}
use Rattle.command_line.specs.declared.Source.TheVariants.{Input, File}
use Rattle.command_line.specs.declared.Fault.TheVariants.{NoSuchOption, LongName, SecondListing, SecondFile}
use Rattle.command_line.specs.declared.Asked.TheVariants.{Listing, Help, Version}
use Rattle.command_line.specs.declared.Word.{Word}
use Rattle.command_line.specs.declared.Word.TheVariants as word
use Rattle.command_line.specs.Words.{word_of}
use Rattle.command_line.specs.Asking.{Answer, asked_by}

-- each option, byte by byte
abbrev pub in_bytes : List (List ℕ × Word)
in_bytes =
    -- "--help" and "-h"
    (0x2D ∷ 0x2D ∷ 0x68 ∷ 0x65 ∷ 0x6C ∷ 0x70 ∷ [], word.Help)
    ∷ (0x2D ∷ 0x68 ∷ [], word.Help)
    -- "--version"
    ∷ (0x2D ∷ 0x2D ∷ 0x76 ∷ 0x65 ∷ 0x72 ∷ 0x73 ∷ 0x69 ∷ 0x6F ∷ 0x6E ∷ [], word.Version)
    -- "--exchanged"
    ∷ (0x2D ∷ 0x2D ∷ 0x65 ∷ 0x78 ∷ 0x63 ∷ 0x68 ∷ 0x61 ∷ 0x6E ∷ 0x67 ∷ 0x65 ∷ 0x64 ∷ [], word.Listing Exchanged)
    -- "--verify"
    ∷ (0x2D ∷ 0x2D ∷ 0x76 ∷ 0x65 ∷ 0x72 ∷ 0x69 ∷ 0x66 ∷ 0x79 ∷ [], word.Listing Blocks)
    -- "--log"
    ∷ (0x2D ∷ 0x2D ∷ 0x6C ∷ 0x6F ∷ 0x67 ∷ [], word.Listing Telegrams)
    ∷ []

-- words that begin as an option does and are none: alone, cut off, too long, in capitals, with a value
abbrev pub unknown_options : List String
unknown_options =
    "--" ∷ "---" ∷ "--h" ∷ "--hel" ∷ "--helps" ∷ "--HELP" ∷ "--Version" ∷ "--exchange" ∷ "--exchanged=" ∷ "--verify " ∷ "--lo" ∷ "--logs" ∷ "--log=x" ∷ "--no-such-option" ∷ []

-- words that name a file: no hyphen in front, or one alone
abbrev pub names : List String
names = "" ∷ "-" ∷ "-H" ∷ "-log" ∷ "-help" ∷ "h" ∷ "log" ∷ " --log" ∷ "./--log" ∷ "capture" ∷ []

abbrev pub WordsAreAsPrinted : Type 0
WordsAreAsPrinted =
    (map (λ row. word_of row.0) in_bytes ≡ map (λ row. row.1) in_bytes)
    × (map (λ text. word_of (ascii text)) unknown_options ≡ map (λ text. word.UnknownOption) unknown_options)
    × (map (λ text. word_of (ascii text)) names ≡ map (λ text. word.Name) names)
    -- the longest name, and one byte more
    × (word_of (replicate 4095 0x78) ≡ word.Name)
    × (word_of (replicate 4096 0x78) ≡ word.LongName)

-- words, as they stand behind the program's name, and what they ask for
infix 80 ◌ask_for◌
abbrev pub ◌ask_for◌ : List String → Answer → List (List ℕ) × Answer
◌ask_for◌ texts asked = (map ascii texts, asked)

abbrev pub lists : List (List (List ℕ) × Answer)
lists =
    -- standard input
    ([] ask_for Ok (Listing Line Input))
    ∷ (("--exchanged" ∷ []) ask_for Ok (Listing Exchanged Input))
    ∷ (("--verify" ∷ []) ask_for Ok (Listing Blocks Input))
    ∷ (("--log" ∷ []) ask_for Ok (Listing Telegrams Input))
    -- a file, whose word is the first or the second
    ∷ (("capture" ∷ []) ask_for Ok (Listing Line (File 1)))
    ∷ (("--exchanged" ∷ "capture" ∷ []) ask_for Ok (Listing Exchanged (File 2)))
    ∷ (("capture" ∷ "--exchanged" ∷ []) ask_for Ok (Listing Exchanged (File 1)))
    ∷ (("--verify" ∷ "log" ∷ []) ask_for Ok (Listing Blocks (File 2)))
    ∷ (("log" ∷ "--verify" ∷ []) ask_for Ok (Listing Blocks (File 1)))
    ∷ (("--log" ∷ "log" ∷ []) ask_for Ok (Listing Telegrams (File 2)))
    ∷ (("log" ∷ "--log" ∷ []) ask_for Ok (Listing Telegrams (File 1)))
    -- help and the version, whatever stands behind them, and behind what is right so far
    ∷ (("--help" ∷ []) ask_for Ok Help)
    ∷ (("-h" ∷ []) ask_for Ok Help)
    ∷ (("--version" ∷ []) ask_for Ok Version)
    ∷ (("--help" ∷ "--version" ∷ []) ask_for Ok Help)
    ∷ (("--version" ∷ "--help" ∷ []) ask_for Ok Version)
    ∷ (("--help" ∷ "--no-such-option" ∷ []) ask_for Ok Help)
    ∷ (("--verify" ∷ "log" ∷ "-h" ∷ "another" ∷ []) ask_for Ok Help)
    -- the first thing that is wrong
    ∷ (("--no-such-option" ∷ []) ask_for Err (NoSuchOption 1))
    ∷ (("capture" ∷ "--no-such-option" ∷ "--help" ∷ []) ask_for Err (NoSuchOption 2))
    ∷ (("--verify" ∷ "--log" ∷ []) ask_for Err SecondListing)
    ∷ (("--log" ∷ "--log" ∷ []) ask_for Err SecondListing)
    ∷ (("--exchanged" ∷ "capture" ∷ "--verify" ∷ []) ask_for Err SecondListing)
    ∷ (("one" ∷ "two" ∷ []) ask_for Err SecondFile)
    ∷ (("one" ∷ "--log" ∷ "two" ∷ "--no-such-option" ∷ []) ask_for Err SecondFile)
    -- a name that is too long
    ∷ (ascii "--log" ∷ replicate 4096 0x78 ∷ [], Err LongName)
    ∷ []

abbrev pub ListsAreAsPrinted : Type 0
ListsAreAsPrinted = map (λ row. asked_by row.0) lists ≡ map (λ row. row.1) lists
