-- `leitch::rule::check_day` meets its contract.
use native.Mathlib.Omega.{arith}
use Rattle.std.proofs.lemmas.Grind.{common_steps}
use Rattle.leitch_rules.specs.Rule.{day_agrees, day_refusal}
use Rattle.leitch.proofs.rule.check_day.Goals as goal

pub returns-then-ne : goal.returns-then-ne
unfolding day_refusal day_agrees
returns-then-ne c = grind (arith, common_steps)

pub returns : goal.returns
unfolding day_refusal day_agrees
returns c = grind (arith, common_steps)
