-- The parameter byte of a 6036 is as the manual prints it, computed from the definitions. Assumes nothing.
use mathlib.Core.Path.{refl}
use Rattle.refusals.specs.Refusals.{unless}
use Rattle.board_rules.specs.Rates.{rate_row}
use Rattle.board_rules.specs.Settings.{is_offered}
use Rattle.board_rules.specs.Of6036.{parameter_in, switches_for, byte_for}
use Rattle.board_rules.specs.AsPrinted.{The6036IsAsPrinted}

pub of_6036_as_printed : The6036IsAsPrinted
unfolding unless rate_row is_offered parameter_in switches_for byte_for
of_6036_as_printed =
    ((refl, refl), refl, (refl, refl), refl, (refl, refl), refl, (refl, refl), refl, (refl, refl), refl, refl, refl, refl, refl)
