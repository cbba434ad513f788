-- `record::rule::status_allowed` meets its contract.
use native.Mathlib.Omega.{arith}
use Rattle.std.proofs.lemmas.Grind.{common_steps}
use Rattle.record_rules.specs.Rule.{status_allowed}
use Rattle.record.proofs.rule.status_allowed.Goals as goal

pub returns-then-table_of_6021 : goal.returns-then-table_of_6021
unfolding status_allowed
returns-then-table_of_6021 c = grind (arith, common_steps)

pub returns-else-table_of_6021 : goal.returns-else-table_of_6021
unfolding status_allowed
returns-else-table_of_6021 c = grind (arith, common_steps)
