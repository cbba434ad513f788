-- `record::sixty::is_taken` meets its contract: it asks for the fields, which say the same.
use mathlib.Core.Path.{sym}
use native.Mathlib.Omega.{arith}
use Rattle.std.proofs.lemmas.Grind.{common_steps}
use Rattle.record_rules.specs.SixtyByFields.{sixty_by_fields}
use Rattle.record_rules.proofs.SixtyLaws.{month_told, month_refused, fields_say_the_same}
use Rattle.record.proofs.sixty.is_taken.Goals as goal

pub returns-then-not-behind_59 : goal.returns-then-not-behind_59
unfolding sixty_by_fields
returns-then-not-behind_59 c =
    let same = fields_say_the_same c.args.status c.args.date c.args.time in
    grind (arith, common_steps)

pub ends_in_utc-requires : goal.ends_in_utc-requires
ends_in_utc-requires c = (month_told _ _ _ (sym c.in-Ok.ensures)).1

pub returns-in-Ok : goal.returns-in-Ok
unfolding sixty_by_fields
returns-in-Ok c =
    let same = fields_say_the_same c.args.status c.args.date c.args.time in
    grind (arith, common_steps, month_told)

pub returns-in-Ok-2 : goal.returns-in-Ok-2
unfolding sixty_by_fields
returns-in-Ok-2 c =
    let same = fields_say_the_same c.args.status c.args.date c.args.time in
    grind (arith, common_steps, month_told)

pub returns-in-Err : goal.returns-in-Err
unfolding sixty_by_fields
returns-in-Err c =
    let same = fields_say_the_same c.args.status c.args.date c.args.time in
    grind (arith, common_steps, month_refused)
