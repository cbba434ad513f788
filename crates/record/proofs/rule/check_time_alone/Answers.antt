-- `record::rule::check_time_alone` meets its contract.
use native.Mathlib.Omega.{arith}
use Rattle.std.proofs.lemmas.Grind.{common_steps}
use Rattle.record_rules.specs.Rule.{time_alone_allowed, time_alone_refusal}
use Rattle.record.proofs.rule.check_time_alone.Goals as goal

pub returns-then-time_in_range : goal.returns-then-time_in_range
unfolding time_alone_allowed time_alone_refusal
returns-then-time_in_range c = grind (arith, common_steps)

pub returns : goal.returns
unfolding time_alone_allowed time_alone_refusal
returns c = grind (arith, common_steps)
