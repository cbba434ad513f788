-- `layouts::coding::status_in_6021` meets its contract.
use Rattle.layouts_rules.specs.Coding.{status_in6021}
use Rattle.layouts.proofs.coding.status_in_6021.Goals as goal

pub returns : goal.returns
unfolding status_in6021
returns c = rw c.reception_at.ensures
