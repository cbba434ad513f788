-- The words that are named ask for a listing, and no others do. Assumes nothing.
use Rattle.std.proofs.Common.{◌≡◌, ℕ, Bool, true, false, cond, List, [], ◌∷◌, length, nat_lt, Ok, Err, refl, ap, sym, subst, ◌∙◌}
use Rattle.std.specs.Str.{bytes_eq}
use Prim.Native.String.{String}
use Rattle.ascii.specs.Ascii.{ascii}
use Rattle.command_line.specs.declared.Wanted.{Wanted}
use Rattle.command_line.specs.declared.Wanted.TheVariants.{Line, Exchanged, Telegrams, Blocks}
use Rattle.command_line.specs.declared.Source.{Source}
use Rattle.command_line.specs.declared.Source.TheVariants.{Input, File}
use Rattle.command_line.specs.declared.Fault.TheVariants.{NoSuchOption, LongName, SecondFile}
use Rattle.command_line.specs.declared.Asked.TheVariants.{Listing, Help, Version}
use Rattle.command_line.specs.declared.Word.{Word}
use Rattle.command_line.specs.declared.Word.TheVariants as word
use Rattle.command_line.specs.Words.{is_option, longest_name, options, other_word, word_in, word_of}
use Rattle.command_line.specs.Asking.{Answer, with_listing, with_meaning, with_words, asked_by, Settled}
use Rattle.command_line.specs.Exactly.{none, option, name, option_name, name_option, TheseWordsList, ListedSo, NoOtherWordsListAnything}
use Rattle.command_line.proofs.AskingHolds.{stays}

pub these_list : TheseWordsList
unfolding asked_by
these_list words wanted source none = refl
these_list words wanted source (option says) = rw says
these_list words wanted source (name names) = rw names
these_list words wanted source (option_name says names) = rw (says, names)
these_list words wanted source (name_option names says) = rw (names, says)

-- no word says that a line as printed is listed
abbrev is_line : Word → Bool
is_line word.Help = false
is_line word.Version = false
is_line (word.Listing Line) = true
is_line (word.Listing Exchanged) = false
is_line (word.Listing Telegrams) = false
is_line (word.Listing Blocks) = false
is_line word.UnknownOption = false
is_line word.LongName = false
is_line word.Name = false

abbrev NoneIsLine : List (String × Word) → Type 0
NoneIsLine [] = Unit {0}
NoneIsLine (row ∷ rows) = (is_line row.1 ≡ false) × NoneIsLine rows

other_is_none : (bytes : List ℕ) → is_line (other_word bytes) ≡ false
unfolding other_word
other_is_none bytes = go (is_option bytes) (nat_lt longest_name (length bytes))
  where
    go : (unknown long : Bool) → is_line (cond unknown word.UnknownOption (cond long word.LongName word.Name)) ≡ false
    go true long = refl
    go false true = refl
    go false false = refl

none_in : (rows : List (String × Word)) → NoneIsLine rows → (bytes : List ℕ) → is_line (word_in rows bytes) ≡ false
none_in [] all bytes = other_is_none bytes
none_in (row ∷ rows) all bytes = go (bytes_eq bytes (ascii row.0)) (none_in rows all.1 bytes)
  where
    go : (same : Bool) → is_line (word_in rows bytes) ≡ false → is_line (cond same row.1 (word_in rows bytes)) ≡ false
    go true later = all.0
    go false later = later

says_no_line : (bytes : List ℕ) (wanted : Wanted) → word_of bytes ≡ word.Listing wanted → wanted ≡ Line → ⊥
unfolding word_of
says_no_line bytes wanted says line =
    let no : is_line (word_of bytes) ≡ false = none_in options (refl, (refl, (refl, (refl, (refl, (refl, tt)))))) bytes in
    let yes : is_line (word_of bytes) ≡ true = ap is_line (says ∙ ap word.Listing line) in
    cc

-- a second word that says what is listed settles it, and where there is a file as well every word does
second_listing : (before : Wanted) (source : Source) (wanted : Wanted) → (before ≡ Line → ⊥) → Settled (with_listing before source wanted)
second_listing Line source wanted other = absurd (other refl)
second_listing Exchanged source wanted other = tt
second_listing Telegrams source wanted other = tt
second_listing Blocks source wanted other = tt

any_word : (wanted : Wanted) (file place : ℕ) (says : Word) → (wanted ≡ Line → ⊥) → Settled (with_meaning wanted (File file) place says)
any_word wanted file place word.Help other = tt
any_word wanted file place word.Version other = tt
any_word wanted file place (word.Listing more) other = second_listing wanted (File file) more other
any_word wanted file place word.UnknownOption other = tt
any_word wanted file place word.LongName other = tt
any_word wanted file place word.Name other = tt

settled : (words : List (List ℕ)) (so_far : Answer) (place : ℕ) (more : List (List ℕ)) → Settled so_far → ListedSo words (with_words so_far place more)
settled words so_far place more is = subst (ListedSo words) (sym (stays so_far place more is)) (nothing so_far is)
  where
    nothing : (so_far : Answer) → Settled so_far → ListedSo words so_far
    nothing (Ok (Listing wanted source)) is = absurd is
    nothing (Ok Help) is = tt
    nothing (Ok Version) is = tt
    nothing (Err fault) is = tt

-- behind a word that says what is listed
module _ (said : List ℕ) (wanted : Wanted) (says : word_of said ≡ word.Listing wanted) where
  behind_option : (more : List (List ℕ)) → ListedSo (said ∷ more) (with_words (Ok (Listing wanted Input)) 2 more)
  behind_option [] = option says
  behind_option (next ∷ more) = go (word_of next) refl
    where
      last : word_of next ≡ word.Name → (behind : List (List ℕ)) → ListedSo (said ∷ next ∷ behind) (with_words (Ok (Listing wanted (File 2))) 3 behind)
      last names [] = option_name says names
      last names (third ∷ behind) =
          settled (said ∷ next ∷ third ∷ behind) (with_meaning wanted (File 2) 3 (word_of third)) 4 behind
          (any_word wanted 2 3 (word_of third) (says_no_line said wanted says))

      go : (meaning : Word) → word_of next ≡ meaning → ListedSo (said ∷ next ∷ more) (with_words (with_meaning wanted Input 2 meaning) 3 more)
      go word.Help is = settled (said ∷ next ∷ more) (Ok Help) 3 more tt
      go word.Version is = settled (said ∷ next ∷ more) (Ok Version) 3 more tt
      go (word.Listing other) is =
          settled (said ∷ next ∷ more) (with_listing wanted Input other) 3 more (second_listing wanted Input other (says_no_line said wanted says))
      go word.UnknownOption is = settled (said ∷ next ∷ more) (Err (NoSuchOption 2)) 3 more tt
      go word.LongName is = settled (said ∷ next ∷ more) (Err LongName) 3 more tt
      go word.Name is = last is more

-- behind a word that names a file
module _ (named : List ℕ) (names : word_of named ≡ word.Name) where
  behind_name : (more : List (List ℕ)) → ListedSo (named ∷ more) (with_words (Ok (Listing Line (File 1))) 2 more)
  behind_name [] = name names
  behind_name (next ∷ more) = go (word_of next) refl
    where
      last : (wanted : Wanted) → word_of next ≡ word.Listing wanted → (behind : List (List ℕ))
          → ListedSo (named ∷ next ∷ behind) (with_words (Ok (Listing wanted (File 1))) 3 behind)
      last wanted says [] = name_option names says
      last wanted says (third ∷ behind) =
          settled (named ∷ next ∷ third ∷ behind) (with_meaning wanted (File 1) 3 (word_of third)) 4 behind
          (any_word wanted 1 3 (word_of third) (says_no_line next wanted says))

      go : (meaning : Word) → word_of next ≡ meaning → ListedSo (named ∷ next ∷ more) (with_words (with_meaning Line (File 1) 2 meaning) 3 more)
      go word.Help is = settled (named ∷ next ∷ more) (Ok Help) 3 more tt
      go word.Version is = settled (named ∷ next ∷ more) (Ok Version) 3 more tt
      go (word.Listing wanted) is = last wanted is more
      go word.UnknownOption is = settled (named ∷ next ∷ more) (Err (NoSuchOption 2)) 3 more tt
      go word.LongName is = settled (named ∷ next ∷ more) (Err LongName) 3 more tt
      go word.Name is = settled (named ∷ next ∷ more) (Err SecondFile) 3 more tt

pub no_others : NoOtherWordsListAnything
unfolding asked_by
no_others [] = none
no_others (first ∷ more) = go (word_of first) refl
  where
    go : (meaning : Word) → word_of first ≡ meaning → ListedSo (first ∷ more) (with_words (with_meaning Line Input 1 meaning) 2 more)
    go word.Help is = settled (first ∷ more) (Ok Help) 2 more tt
    go word.Version is = settled (first ∷ more) (Ok Version) 2 more tt
    go (word.Listing wanted) is = behind_option first wanted is more
    go word.UnknownOption is = settled (first ∷ more) (Err (NoSuchOption 1)) 2 more tt
    go word.LongName is = settled (first ∷ more) (Err LongName) 2 more tt
    go word.Name is = behind_name first is more
