-- `remote::rows::form_of` meets its contract.
use Rattle.std.proofs.Common.{arith}
use Rattle.std.proofs.lemmas.Grind.{common_steps}
use Rattle.remote_rules.specs.Rows.{is_named, form_of}
use Rattle.remote.proofs.rows.form_of.Goals as goal

pub returns-in-84 : goal.returns-in-84
unfolding form_of is_named
returns-in-84 c = grind (arith, common_steps)

pub returns-in-68 : goal.returns-in-68
unfolding form_of is_named
returns-in-68 c = grind (arith, common_steps)

pub returns-in-80 : goal.returns-in-80
unfolding form_of is_named
returns-in-80 c = grind (arith, common_steps)

pub returns-in_default : goal.returns-in_default
unfolding form_of is_named
returns-in_default c = grind (arith, common_steps)

pub returns-in_default-2 : goal.returns-in_default-2
unfolding form_of is_named
returns-in_default-2 c = grind (arith, common_steps)

pub returns-in_default-3 : goal.returns-in_default-3
unfolding form_of is_named
returns-in_default-3 c = grind (arith, common_steps)

pub returns-in_default-4 : goal.returns-in_default-4
unfolding form_of is_named
returns-in_default-4 c = grind (arith, common_steps)

pub returns-in_default-5 : goal.returns-in_default-5
unfolding form_of is_named
returns-in_default-5 c = grind (arith, common_steps)

pub returns-in_default-6 : goal.returns-in_default-6
unfolding form_of is_named
returns-in_default-6 c = grind (arith, common_steps)

pub returns-in_default-7 : goal.returns-in_default-7
unfolding form_of is_named
returns-in_default-7 c = grind (arith, common_steps)

pub returns-in_default-8 : goal.returns-in_default-8
unfolding form_of is_named
returns-in_default-8 c = grind (arith, common_steps)

pub returns-in_default-9 : goal.returns-in_default-9
unfolding form_of is_named
returns-in_default-9 c = grind (arith, common_steps)

pub returns-in_default-10 : goal.returns-in_default-10
unfolding form_of is_named
returns-in_default-10 c = grind (arith, common_steps)

pub returns-in_default-11 : goal.returns-in_default-11
unfolding form_of is_named
returns-in_default-11 c = grind (arith, common_steps)
