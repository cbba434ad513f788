-- `remote::rule::position_in_range` meets its contract.
use Rattle.std.proofs.Common.{arith}
use Rattle.std.proofs.lemmas.Grind.{common_steps}
use Rattle.remote_rules.specs.Rule.{position_in_range}
use Rattle.remote.proofs.rule.position_in_range.Goals as goal

pub returns-then-angle_in_range : goal.returns-then-angle_in_range
unfolding position_in_range
returns-then-angle_in_range c = grind (arith, common_steps)

pub returns-else-angle_in_range : goal.returns-else-angle_in_range
unfolding position_in_range
returns-else-angle_in_range c = grind (arith, common_steps)
