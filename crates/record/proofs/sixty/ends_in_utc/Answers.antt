-- `record::sixty::ends_in_utc` meets its contract.
use native.Mathlib.Omega.{arith}
use Rattle.std.proofs.lemmas.Grind.{common_steps}
use Rattle.record_rules.specs.SixtyByFields.{ends_in_utc}
use Rattle.record.proofs.sixty.ends_in_utc.Goals as goal

pub returns-then-time-eq23 : goal.returns-then-time-eq23
unfolding ends_in_utc
returns-then-time-eq23 c = grind (arith, common_steps)

pub returns-else-time-eq23 : goal.returns-else-time-eq23
unfolding ends_in_utc
returns-else-time-eq23 c = grind (arith, common_steps)
