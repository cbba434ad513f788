-- `record::sixty::behind_59` meets its contract.
use native.Mathlib.Omega.{arith}
use Rattle.std.proofs.lemmas.Grind.{common_steps}
use Rattle.record_rules.specs.Sixty.{sixty_behind59}
use Rattle.record_rules.proofs.SixtyLaws.{hour_decides}
use Rattle.record.proofs.sixty.behind_59.Goals as goal

pub returns-then-time-eq59 : goal.returns-then-time-eq59
unfolding sixty_behind59
returns-then-time-eq59 c = grind (arith, common_steps, hour_decides)

pub returns-else-time-eq59 : goal.returns-else-time-eq59
unfolding sixty_behind59
returns-else-time-eq59 c = grind (arith, common_steps, hour_decides)
