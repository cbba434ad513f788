-- The rows by their parts are what is said of them. Assumes nothing.
use mathlib.Core.Path.{refl}
use Rattle.listing_of_lines.specs.RowsByTheirParts.{AnyNumberIsTold, WhatIsHeardIsTold}

pub any_number_is_told : AnyNumberIsTold
any_number_is_told rec start size n = (refl, refl, refl, refl)

pub what_is_heard_is_told : WhatIsHeardIsTold
what_is_heard_is_told rec refusal start size = (refl, refl, refl, refl)
