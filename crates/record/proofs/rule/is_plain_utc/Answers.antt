-- `record::rule::is_plain_utc` meets its contract.
use native.Mathlib.Omega.{arith}
use Rattle.std.proofs.lemmas.Grind.{common_steps}
use Rattle.record_rules.specs.Rule.{plain_utc}
use Rattle.record.proofs.rule.is_plain_utc.Goals as goal

pub returns-then-not-status : goal.returns-then-not-status
unfolding plain_utc
returns-then-not-status c = grind (arith, common_steps)

pub returns-then-status : goal.returns-then-status
unfolding plain_utc
returns-then-status c = grind (arith, common_steps)

pub returns : goal.returns
unfolding plain_utc
returns c = grind (arith, common_steps)
