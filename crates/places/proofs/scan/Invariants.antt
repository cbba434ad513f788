-- `places::scan` meets its contract. The loop's invariant: what is left to see, added to what was found, is the whole.
use mathlib.Core.Path.{◌≡◌}
use mathlib.Core.List.{map}
use lib.ListN.{drop}
use Rattle.refusals.specs.Numbers.{number_if}
use Rattle.places_rules.specs.Places.{place, found_in}
use Rattle.places_rules.proofs.Scanning.{onward}
use Rattle.places.proofs.scan.Given as goal

abbrev pub invariant-loop-at : goal.invariant-loop-at
invariant-loop-at l =
    onward (map place (drop l.at l.row)) (drop l.at l.bytes) (record { digits = l.digits; fault = number_if l.fault })
    ≡ found_in (map place l.row) l.bytes
