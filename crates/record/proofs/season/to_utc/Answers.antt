-- `record::season::to_utc` meets its contract.
use native.Mathlib.Omega.{arith}
use Rattle.std.proofs.lemmas.Grind.{common_steps}
use Rattle.refusals.specs.Refusals.{unless}
use Rattle.record_rules.specs.Season.{to_utc}
use Rattle.record.proofs.season.to_utc.Goals as goal

pub returns-then-local-shift : goal.returns-then-local-shift
unfolding unless to_utc
returns-then-local-shift c = grind (arith, common_steps)

pub returns : goal.returns
unfolding unless to_utc
returns c = grind (arith, common_steps)
