-- `record::rule::weekday_allowed` meets its contract.
use native.Mathlib.Omega.{arith}
use Rattle.std.proofs.lemmas.Grind.{common_steps}
use Rattle.record_rules.specs.Rule.{weekday_allowed}
use Rattle.record.proofs.rule.weekday_allowed.Goals as goal

pub returns : goal.returns
unfolding weekday_allowed
returns c = grind (arith, common_steps)
