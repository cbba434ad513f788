-- The requests are as printed, computed from the definitions. Assumes nothing.
use mathlib.Core.Path.{refl}
use Rattle.places_rules.specs.Places.{is_decimal, is_capital, code_value}
use Rattle.requests.specs.Requests.{request_of}
use Rattle.requests.specs.AsPrinted.{RequestsAreAsPrinted}

pub requests_as_printed : RequestsAreAsPrinted
unfolding is_decimal is_capital code_value request_of
requests_as_printed = (refl, refl)
