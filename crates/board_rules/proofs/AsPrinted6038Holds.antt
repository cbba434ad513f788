-- The parameter byte of a 6038 is as the manual prints it, computed from the definitions. Assumes nothing.
use mathlib.Core.Path.{refl}
use Rattle.refusals.specs.Refusals.{unless}
use Rattle.board_rules.specs.Rates.{rate_row}
use Rattle.board_rules.specs.Settings.{is_offered}
use Rattle.board_rules.specs.Of6038.{parameter_in, switches_for, byte_for}
use Rattle.board_rules.specs.AsPrinted6038.{TheUnusedSwitchIsAsPrinted, TheWordLengthsAreAsPrinted, TheParitiesAreAsPrinted, OffOnIsRefused, TheStopBitsAreAsPrinted}
use Rattle.board_rules.specs.AsPrinted6038.{TheBaudratesAreAsPrinted, Hex20Is9600, TheExampleIsAsPrinted, OthersAreNotOffered, The6038IsAsPrinted}

pub unused_switch_as_printed : TheUnusedSwitchIsAsPrinted
unfolding unless rate_row is_offered parameter_in switches_for byte_for
unused_switch_as_printed = (refl, refl)

pub word_lengths_as_printed : TheWordLengthsAreAsPrinted
unfolding unless rate_row is_offered parameter_in switches_for byte_for
word_lengths_as_printed = ((refl, refl), refl)

pub parities_as_printed : TheParitiesAreAsPrinted
unfolding unless rate_row is_offered parameter_in switches_for byte_for
parities_as_printed = ((refl, refl), refl)

pub off_on_is_refused : OffOnIsRefused
unfolding parameter_in
off_on_is_refused = (refl, refl)

pub stop_bits_as_printed : TheStopBitsAreAsPrinted
unfolding unless rate_row is_offered parameter_in switches_for byte_for
stop_bits_as_printed = ((refl, refl), refl)

pub baudrates_as_printed : TheBaudratesAreAsPrinted
unfolding unless rate_row is_offered parameter_in switches_for byte_for
baudrates_as_printed = ((refl, refl), refl)

pub hex_20_is_9600 : Hex20Is9600
unfolding parameter_in
hex_20_is_9600 = refl

pub example_as_printed : TheExampleIsAsPrinted
unfolding unless rate_row is_offered parameter_in switches_for byte_for
example_as_printed = (refl, refl, refl)

pub others_are_not_offered : OthersAreNotOffered
unfolding unless rate_row is_offered byte_for
others_are_not_offered = refl

pub of_6038_as_printed : The6038IsAsPrinted
of_6038_as_printed =
    record {
      unused_switch = unused_switch_as_printed;
      word_length = word_lengths_as_printed;
      parity = parities_as_printed;
      off_on = off_on_is_refused;
      stop_bit = stop_bits_as_printed;
      baudrate = baudrates_as_printed;
      hex20 = hex_20_is_9600;
      example = example_as_printed;
      others = others_are_not_offered;
    }
