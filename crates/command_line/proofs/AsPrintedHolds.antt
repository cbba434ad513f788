-- The words and the lists of them are as printed, computed from the definitions. Assumes nothing.
use Rattle.std.proofs.Common.{refl}
use Rattle.command_line.specs.Words.{is_option, other_word, word_of}
use Rattle.command_line.specs.Asking.{asked_by}
use Rattle.command_line.specs.AsPrinted.{WordsAreAsPrinted, ListsAreAsPrinted}

pub words_as_printed : WordsAreAsPrinted
unfolding is_option other_word word_of
words_as_printed = (refl, refl, refl, refl, refl)

pub lists_as_printed : ListsAreAsPrinted
unfolding is_option other_word word_of asked_by
lists_as_printed = refl
