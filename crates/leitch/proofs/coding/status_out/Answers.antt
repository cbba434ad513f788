-- `leitch::coding::status_out` meets its contract: what the place finds, computed.
use mathlib.Core.Path.{ap}
use lib.ListN.{get_or}
use Rattle.places_rules.specs.Places.{place, found_in}
use Rattle.leitch.proofs.coding.status_out.Goals as goal

pub returns : goal.returns
unfolding found_in place
returns c = ap (λ found. get_or found.digits 0 0) c.scan.ensures
