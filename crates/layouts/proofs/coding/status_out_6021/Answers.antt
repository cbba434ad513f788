-- `layouts::coding::status_out_6021` meets its contract.
use native.Mathlib.Omega.{arith}
use Rattle.std.proofs.lemmas.Grind.{common_steps}
use Rattle.layouts_rules.specs.Coding.{status_out6021}
use Rattle.layouts.proofs.coding.status_out_6021.Goals as goal

pub returns : goal.returns
unfolding status_out6021
returns c = grind (arith, common_steps)
