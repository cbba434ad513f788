-- The words of a list come one by one, and the first that settles what is asked for settles it. Assumes nothing.
use Rattle.std.proofs.Common.{◌≡◌, ℕ, suc, ◌+◌, List, [], ◌∷◌, ◌++◌, length, Ok, Err, refl, ap, ◌∙◌, arith}
use Rattle.command_line.specs.declared.Asked.TheVariants.{Listing, Help, Version}
use Rattle.command_line.specs.Asking.{Answer, no_word, with_word, with_words, asked_by, WordsComeOneByOne, Settled, TheFirstSettles}

-- some words, and those behind them
pub behind : (so_far : Answer) (place : ℕ) (words more : List (List ℕ))
    → with_words so_far place (words ++ more) ≡ with_words (with_words so_far place words) (place + length words) more
behind so_far place [] more = ap (λ n. with_words so_far n more) (omega arith)
behind so_far place (word ∷ words) more =
    behind (with_word so_far place word) (suc place) words more
    ∙ ap (λ n. with_words (with_words (with_word so_far place word) (suc place) words) n more) (omega arith)

pub one_by_one : WordsComeOneByOne
unfolding asked_by
one_by_one words word = behind (Ok no_word) 1 words (word ∷ []) ∙ ap (λ n. with_word (asked_by words) n word) (omega arith)

pub stays : (so_far : Answer) (place : ℕ) (words : List (List ℕ)) → Settled so_far → with_words so_far place words ≡ so_far
stays so_far place [] settled = refl
stays (Ok Help) place (word ∷ words) settled = stays (Ok Help) (suc place) words settled
stays (Ok Version) place (word ∷ words) settled = stays (Ok Version) (suc place) words settled
stays (Err fault) place (word ∷ words) settled = stays (Err fault) (suc place) words settled
stays (Ok (Listing wanted source)) place (word ∷ words) settled = absurd settled

pub first_settles : TheFirstSettles
unfolding asked_by
first_settles words more settled = behind (Ok no_word) 1 words more ∙ stays (asked_by words) (1 + length words) more settled
