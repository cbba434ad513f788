-- `record::rule::time_allowed` meets its contract.
use native.Mathlib.Omega.{arith}
use Rattle.std.proofs.lemmas.Grind.{common_steps}
use Rattle.record_rules.specs.Rule.{time_allowed}
use Rattle.record.proofs.rule.time_allowed.Goals as goal

pub returns-then-time_in_range : goal.returns-then-time_in_range
unfolding time_allowed
returns-then-time_in_range c = grind (arith, common_steps)

pub returns-else-time_in_range : goal.returns-else-time_in_range
unfolding time_allowed
returns-else-time_in_range c = grind (arith, common_steps)
