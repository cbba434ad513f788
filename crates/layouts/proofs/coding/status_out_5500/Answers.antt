-- `layouts::coding::status_out_5500` meets its contract.
use native.Mathlib.Omega.{arith}
use Rattle.std.proofs.lemmas.Grind.{common_steps}
use Rattle.layouts_rules.specs.Coding.{status_out5500}
use Rattle.layouts.proofs.coding.status_out_5500.Goals as goal

pub returns : goal.returns
unfolding status_out5500
returns c = grind (arith, common_steps)
