-- `layouts::rows::layout_of` meets its contract.
use native.Mathlib.Omega.{arith}
use Rattle.std.proofs.lemmas.Grind.{common_steps}
use Rattle.layouts_rules.specs.Layouts.{layout_of}
use Rattle.layouts.proofs.rows.layout_of.Goals as goal

pub returns-in-16 : goal.returns-in-16
unfolding layout_of
returns-in-16 c = grind (arith, common_steps)

pub returns-in-8 : goal.returns-in-8
unfolding layout_of
returns-in-8 c = grind (arith, common_steps)

pub returns-in-18 : goal.returns-in-18
unfolding layout_of
returns-in-18 c = grind (arith, common_steps)

pub returns-in-19 : goal.returns-in-19
unfolding layout_of
returns-in-19 c = grind (arith, common_steps)

pub returns-in-23 : goal.returns-in-23
unfolding layout_of
returns-in-23 c = grind (arith, common_steps)

pub returns-in-11 : goal.returns-in-11
unfolding layout_of
returns-in-11 c = grind (arith, common_steps)

pub returns-in_default : goal.returns-in_default
unfolding layout_of
returns-in_default c = grind (arith, common_steps)
