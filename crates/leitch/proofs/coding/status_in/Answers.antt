-- `leitch::coding::status_in` meets its contract: what the place shows, computed.
use mathlib.Core.Path.{ap}
use lib.ListN.{get_or}
use Rattle.places_rules.specs.Places.{place, render, over}
use Rattle.leitch.proofs.coding.status_in.Goals as goal

pub returns : goal.returns
unfolding over render place
returns c = ap (λ shown. get_or shown 0 0) c.render.ensures
