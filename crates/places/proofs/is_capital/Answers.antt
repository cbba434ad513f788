-- `places::is_capital` meets its contract.
use native.Mathlib.Omega.{arith}
use Rattle.std.proofs.lemmas.Grind.{common_steps}
use Rattle.places_rules.specs.Places.{is_capital}
use Rattle.places.proofs.is_capital.Goals as goal

pub returns-in-65-to-70 : goal.returns-in-65-to-70
unfolding is_capital
returns-in-65-to-70 c = grind (arith, common_steps)

pub returns-in_default : goal.returns-in_default
unfolding is_capital
returns-in_default c = grind (arith, common_steps)

pub returns-in_default-2 : goal.returns-in_default-2
unfolding is_capital
returns-in_default-2 c = grind (arith, common_steps)
