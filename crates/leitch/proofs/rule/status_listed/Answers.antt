-- `leitch::rule::status_listed` meets its contract.
use native.Mathlib.Omega.{arith}
use Rattle.std.proofs.lemmas.Grind.{common_steps}
use Rattle.leitch_rules.specs.Rule.{status_listed}
use Rattle.leitch.proofs.rule.status_listed.Goals as goal

pub returns-then-contains : goal.returns-then-contains
unfolding status_listed
returns-then-contains c = grind (arith, common_steps)

pub returns-else-contains : goal.returns-else-contains
unfolding status_listed
returns-else-contains c = grind (arith, common_steps)
