-- `leitch::rule::check_fields` meets its contract.
use mathlib.Core.Path.{◌≡◌, sym, ◌∙◌}
use mathlib.Core.Bool.{true}
use native.Mathlib.Omega.{arith}
use Rattle.std.proofs.lemmas.Grind.{common_steps}
use borrow.Author.Tests.{le-leb}
use Rattle.leitch_rules.specs.Rule.{weekday_listed, all_in_range, fields_refusal}
use Rattle.leitch_rules.proofs.RuleLaws.{date_decides}
use Rattle.leitch.proofs.rule.check_fields.Goals as goal

pub returns-then-not-status_listed : goal.returns-then-not-status_listed
unfolding fields_refusal weekday_listed
returns-then-not-status_listed c = grind (arith, common_steps)

pub returns-then-not-time_in_range : goal.returns-then-not-time_in_range
unfolding fields_refusal weekday_listed all_in_range
returns-then-not-time_in_range c = grind (arith, common_steps)

pub returns : goal.returns
unfolding weekday_listed
returns c =
    let weekday : weekday_listed c.args.reply.weekday ≡ true = grind (arith, common_steps) in
    c.check_date.ensures
    ∙ sym (date_decides c.args.reply (sym c.if-not-status_listed.ensures) weekday (sym c.if-not-time_in_range.ensures) (le-leb _ 999 c.if-reply-gt999.false))
