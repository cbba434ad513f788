-- Every word says what its bytes say, and the first that does not go with those before it is told. Assumes nothing.
use Rattle.std.proofs.Common.{◌≡◌, ℕ, suc, ◌+◌, ◌≤◌, false, List, [], ◌∷◌, ◌++◌, length, Ok, Err, refl, ap, ap₂, sym, ◌∙◌, arith}
use Rattle.std.proofs.Math.Bool.{and-false}
use Rattle.std.specs.Str.{bytes_eq}
use Rattle.std.proofs.lemmas.Bool.{false_from_ne_true, ne_eqb, lt-ltb, le-ltb}
use Rattle.std.proofs.lemmas.Slice.Eq.{bytes_eq-Decides}
use Rattle.command_line.specs.declared.Wanted.{Wanted}
use Rattle.command_line.specs.declared.Wanted.TheVariants.{Line, Exchanged, Telegrams, Blocks}
use Rattle.command_line.specs.declared.Source.{Source}
use Rattle.command_line.specs.declared.Fault.TheVariants.{SecondListing}
use Rattle.command_line.specs.declared.Word.{Word}
use Rattle.command_line.specs.declared.Word.TheVariants as word
use Rattle.command_line.specs.Words.{is_option, other_word, word_of}
use Rattle.command_line.specs.Asking.{no_word, with_listing, with_meaning, with_words, asked_by, Settled}
use Rattle.command_line.specs.Exactly.{Lists}
use Rattle.command_line.specs.EveryWord.{NothingElseBehindTwoHyphens, IsNamed, AllOthersAreNames, Settles, TheFirstWrongWordIsTold}
use Rattle.command_line.proofs.AskingHolds.{behind, stays}
use Rattle.command_line.proofs.ExactlyHolds.{these_list}

unlike : (word other : List ℕ) → (word ≡ other → ⊥) → bytes_eq word other ≡ false
unlike word other differ = false_from_ne_true _ (λ same. differ ((bytes_eq-Decides word other).0 same))

pub nothing_else : NothingElseBehindTwoHyphens
unfolding is_option other_word word_of
nothing_else more none =
    rw (unlike more _ none.no_help, unlike more _ none.no_version, unlike more _ none.no_exchanged, unlike more _ none.no_verify, unlike more _ none.no_log)

named : (bytes : List ℕ) → is_option bytes ≡ false → (length bytes ≤ 4095 → other_word bytes ≡ word.Name) × (4096 ≤ length bytes → other_word bytes ≡ word.LongName)
unfolding other_word
named bytes no_option = (λ fits. rw (no_option, le-ltb _ _ fits), λ long. rw (no_option, lt-ltb _ _ long))

named_so : (bytes : List ℕ) → word_of bytes ≡ other_word bytes → is_option bytes ≡ false → IsNamed bytes
named_so bytes other no_option = (λ fits. other ∙ (named bytes no_option).0 fits, λ long. other ∙ (named bytes no_option).1 long)

other_none : word_of [] ≡ other_word []
unfolding word_of
other_none = refl

other_one : (first : ℕ) → word_of (first ∷ []) ≡ other_word (first ∷ [])
unfolding word_of
other_one first = rw and-false

other_no_hyphen : (first second : ℕ) (more : List ℕ) → (first ≡ 0x2D → ⊥) → word_of (first ∷ second ∷ more) ≡ other_word (first ∷ second ∷ more)
unfolding word_of
other_no_hyphen first second more other = rw (ne_eqb first 0x2D other)

other_one_hyphen : (second : ℕ) (more : List ℕ) → (second ≡ 0x2D → ⊥) → (second ∷ more ≡ 0x68 ∷ [] → ⊥)
    → word_of (0x2D ∷ second ∷ more) ≡ other_word (0x2D ∷ second ∷ more)
unfolding word_of
other_one_hyphen second more other no_h = rw (ne_eqb second 0x2D other, unlike (second ∷ more) (0x68 ∷ []) no_h)

short_none : is_option [] ≡ false
unfolding is_option
short_none = refl

short_one : (first : ℕ) → is_option (first ∷ []) ≡ false
unfolding is_option
short_one first = rw and-false

first_unlike : (first second : ℕ) (more : List ℕ) → (first ≡ 0x2D → ⊥) → is_option (first ∷ second ∷ more) ≡ false
unfolding is_option
first_unlike first second more other = rw (ne_eqb 0x2D first (λ same. other (sym same)))

second_unlike : (second : ℕ) (more : List ℕ) → (second ≡ 0x2D → ⊥) → is_option (0x2D ∷ second ∷ more) ≡ false
unfolding is_option
second_unlike second more other = rw (ne_eqb 0x2D second (λ same. other (sym same)))

pub all_others : AllOthersAreNames
all_others = (
  named_so [] other_none short_none,
  λ first. named_so (first ∷ []) (other_one first) (short_one first),
  λ first second more other. named_so (first ∷ second ∷ more) (other_no_hyphen first second more other) (first_unlike first second more other),
  λ second more other no_h. named_so (0x2D ∷ second ∷ more) (other_one_hyphen second more other no_h) (second_unlike second more other),
)

-- what is asked for behind words that ask for a listing
module _ (words : List (List ℕ)) (wanted : Wanted) (source : Source) (lists : Lists words wanted source) (next : List ℕ) (more : List (List ℕ)) where
  told : (meaning : Word) → word_of next ≡ meaning → Settled (with_meaning wanted source (length words + 1) meaning)
      → asked_by (words ++ next ∷ more) ≡ with_meaning wanted source (length words + 1) meaning
  unfolding asked_by
  told meaning is settled =
      let place : 1 + length words ≡ length words + 1 = omega arith in
      behind (Ok no_word) 1 words (next ∷ more)
      ∙ ap₂ (λ so_far n. with_words so_far n (next ∷ more)) (these_list words wanted source lists) place
      ∙ ap (λ says. with_words (with_meaning wanted source (length words + 1) says) (suc (length words + 1)) more) is
      ∙ stays (with_meaning wanted source (length words + 1) meaning) (suc (length words + 1)) more settled

  second : (other : Wanted) → (wanted ≡ Line → ⊥) → with_listing wanted source other ≡ Err SecondListing
  second other unlike_line = go wanted unlike_line
    where
      go : (before : Wanted) → (before ≡ Line → ⊥) → with_listing before source other ≡ Err SecondListing
      go Line no_line = absurd (no_line refl)
      go Exchanged no_line = refl
      go Telegrams no_line = refl
      go Blocks no_line = refl

  settles : Settles words wanted source next more
  settles = record {
    help = λ is. told word.Help is tt;
    version = λ is. told word.Version is tt;
    unknown = λ is. told word.UnknownOption is tt;
    long = λ is. told word.LongName is tt;
    file = λ before at is. told word.Name is (rw at tt) ∙ rw at;
    listing = λ other no_line is. told (word.Listing other) is (rw (second other no_line) tt) ∙ second other no_line;
  }

pub first_wrong_is_told : TheFirstWrongWordIsTold
first_wrong_is_told words wanted source lists next more = settles words wanted source lists next more
