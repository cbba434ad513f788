-- `record::sixty::up_to_59` meets its contract.
use native.Mathlib.Omega.{arith}
use Rattle.std.proofs.lemmas.Grind.{common_steps}
use Rattle.record_rules.specs.Sixty.{up_to59}
use Rattle.record.proofs.sixty.up_to_59.Goals as goal

pub returns-then-time-ne60 : goal.returns-then-time-ne60
unfolding up_to59
returns-then-time-ne60 c = grind (arith, common_steps)

pub returns : goal.returns
unfolding up_to59
returns c = grind (arith, common_steps)
