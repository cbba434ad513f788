-- `remote::rule::angle_in_range` meets its contract.
use Rattle.std.proofs.Common.{arith}
use Rattle.std.proofs.lemmas.Grind.{common_steps}
use Rattle.remote_rules.specs.Rule.{angle_in_range}
use Rattle.remote.proofs.rule.angle_in_range.Goals as goal

pub returns-then-angle-le99 : goal.returns-then-angle-le99
unfolding angle_in_range
returns-then-angle-le99 c = grind (arith, common_steps)

pub returns-then-angle-eq0 : goal.returns-then-angle-eq0
unfolding angle_in_range
returns-then-angle-eq0 c = grind (arith, common_steps)

pub returns-else-angle-eq0 : goal.returns-else-angle-eq0
unfolding angle_in_range
returns-else-angle-eq0 c = grind (arith, common_steps)
