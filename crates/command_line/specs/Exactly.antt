-- Which words ask for a listing, and that no others do.
use Rattle.std.specs.Prelude.{◌≡◌, List, [], ◌∷◌, ℕ, Ok, Err}
use Rattle.command_line.specs.declared.Wanted.{Wanted}
use Rattle.command_line.specs.declared.Wanted.TheVariants.{Line}
use Rattle.command_line.specs.declared.Source.{Source}
use Rattle.command_line.specs.declared.Source.TheVariants.{Input, File}
use Rattle.command_line.specs.declared.Asked.TheVariants.{Listing, Help, Version}
use Rattle.command_line.specs.declared.Word.TheVariants as word
use Rattle.command_line.specs.Words.{word_of}
use Rattle.command_line.specs.Asking.{Answer, asked_by}

-- none; one that says what is listed, or one that names a file; or both, in either order
pub data Lists : List (List ℕ) → Wanted → Source → Type 0 where
  none : Lists [] Line Input
  option : {said : List ℕ} {wanted : Wanted} → word_of said ≡ word.Listing wanted → Lists (said ∷ []) wanted Input
  name : {named : List ℕ} → word_of named ≡ word.Name → Lists (named ∷ []) Line (File 1)
  option_name : {said named : List ℕ} {wanted : Wanted} → word_of said ≡ word.Listing wanted → word_of named ≡ word.Name
      → Lists (said ∷ named ∷ []) wanted (File 2)
  name_option : {named said : List ℕ} {wanted : Wanted} → word_of named ≡ word.Name → word_of said ≡ word.Listing wanted
      → Lists (named ∷ said ∷ []) wanted (File 1)

-- these words ask for that listing
abbrev pub TheseWordsList : Type 0
TheseWordsList = (words : List (List ℕ)) (wanted : Wanted) (source : Source) → Lists words wanted source → asked_by words ≡ Ok (Listing wanted source)

-- and any others for none: what is asked for is no listing, or is the listing of such words
abbrev pub ListedSo : List (List ℕ) → Answer → Type 0
ListedSo words (Ok (Listing wanted source)) = Lists words wanted source
ListedSo words (Ok Help) = Unit {0}
ListedSo words (Ok Version) = Unit {0}
ListedSo words (Err fault) = Unit {0}

abbrev pub NoOtherWordsListAnything : Type 0
NoOtherWordsListAnything = (words : List (List ℕ)) → ListedSo words (asked_by words)
