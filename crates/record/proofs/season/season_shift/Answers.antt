-- `record::season::season_shift` meets its contract.
use native.Mathlib.Omega.{arith}
use Rattle.std.proofs.lemmas.Grind.{common_steps}
use Rattle.record_rules.specs.Season.{season_shift}
use Rattle.record.proofs.season.season_shift.Goals as goal

pub returns-then-daylight : goal.returns-then-daylight
unfolding season_shift
returns-then-daylight c = grind (arith, common_steps)

pub returns-else-daylight : goal.returns-else-daylight
unfolding season_shift
returns-else-daylight c = grind (arith, common_steps)
