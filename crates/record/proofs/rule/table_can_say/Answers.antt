-- `record::rule::table_can_say` meets its contract.
use native.Mathlib.Omega.{arith}
use Rattle.std.proofs.lemmas.Grind.{common_steps}
use Rattle.record_rules.specs.Rule.{table_can_say}
use Rattle.record.proofs.rule.table_can_say.Goals as goal

pub returns-then-is_crystal_or_radio : goal.returns-then-is_crystal_or_radio
unfolding table_can_say
returns-then-is_crystal_or_radio c = grind (arith, common_steps)

pub returns-else-is_crystal_or_radio : goal.returns-else-is_crystal_or_radio
unfolding table_can_say
returns-else-is_crystal_or_radio c = grind (arith, common_steps)
