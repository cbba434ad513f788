-- `remote::rule::is_spelled_well` meets its contract.
use Rattle.std.proofs.Common.{arith}
use Rattle.std.proofs.lemmas.Grind.{common_steps}
use Rattle.remote_rules.specs.Rule.{spelled_well}
use Rattle.remote.proofs.rule.is_spelled_well.Goals as goal

pub returns-in-DifPlus : goal.returns-in-DifPlus
unfolding spelled_well
returns-in-DifPlus c = grind (arith, common_steps)

pub returns-then-hours-gt0 : goal.returns-then-hours-gt0
unfolding spelled_well
returns-then-hours-gt0 c = grind (arith, common_steps)

pub returns-else-hours-gt0 : goal.returns-else-hours-gt0
unfolding spelled_well
returns-else-hours-gt0 c = grind (arith, common_steps)

pub returns-else-minutes-le59 : goal.returns-else-minutes-le59
unfolding spelled_well
returns-else-minutes-le59 c = grind (arith, common_steps)

pub returns-in_default : goal.returns-in_default
unfolding spelled_well
returns-in_default c = grind (arith, common_steps)
