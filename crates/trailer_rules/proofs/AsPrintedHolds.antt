-- The trailer is exchanged as printed, computed from the definitions. Assumes nothing.
use mathlib.Core.Path.{refl}
use Rattle.trailer_rules.specs.AsPrinted.{TrailersAreAsPrinted}

pub as_printed_law : TrailersAreAsPrinted
as_printed_law = record { as_printed = refl; bare = refl; back = refl; framed = refl; places = refl; without = refl; too_short = refl }
