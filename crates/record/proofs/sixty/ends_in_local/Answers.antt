-- `record::sixty::ends_in_local` meets its contract.
use native.Mathlib.Omega.{arith}
use Rattle.std.proofs.lemmas.Grind.{common_steps}
use Rattle.record_rules.specs.SixtyByFields.{ends_in_local}
use Rattle.record.proofs.sixty.ends_in_local.Goals as goal

pub returns-then-date-ne1980 : goal.returns-then-date-ne1980
unfolding ends_in_local
returns-then-date-ne1980 c = grind (arith, common_steps)

pub returns-else-date-ne1980 : goal.returns-else-date-ne1980
unfolding ends_in_local
returns-else-date-ne1980 c = grind (arith, common_steps)

pub returns-else-date-eq1 : goal.returns-else-date-eq1
unfolding ends_in_local
returns-else-date-eq1 c = grind (arith, common_steps)
