-- `record::rule::check_dated` meets its contract.
use mathlib.Core.Path.{sym}
use native.Mathlib.Omega.{arith}
use Rattle.std.proofs.lemmas.Grind.{common_steps}
use Rattle.refusals.proofs.Laws.{was_done, was_refused, refused_some, else_some}
use Rattle.refusals.proofs.NumberLaws.{passed_verdict}
use Rattle.calendar_rules.specs.Calendar.{day_number, day_of, date_refusal}
use Rattle.record_rules.specs.Rule.{dated_refusal, weekday_agrees}
use Rattle.record_rules.proofs.RuleLaws.{date_decides}
use Rattle.record.proofs.rule.check_dated.Goals as goal

pub returns-then-not-status_allowed : goal.returns-then-not-status_allowed
unfolding dated_refusal
returns-then-not-status_allowed c = grind (arith, common_steps)

pub returns-then-not-time_allowed : goal.returns-then-not-time_allowed
unfolding dated_refusal
returns-then-not-time_allowed c = grind (arith, common_steps)

pub returns-in_err-day : goal.returns-in_err-day
unfolding day_number
returns-in_err-day c =
    let date = c.args.date in
    let passed = passed_verdict _ _ c.from_residual.ensures.1 in
    let number = was_refused (date_refusal date) _ (day_of date) (sym c.in_err-day.ensures) in
    let some = refused_some (date_refusal date) _ (day_of date) (sym c.in_err-day.ensures) in
    grind (arith, common_steps, date_decides, else_some)

pub returns-then-weekday : goal.returns-then-weekday
unfolding day_number weekday_agrees
returns-then-weekday c =
    let told = was_done _ _ _ (sym c.in_ok-day.ensures) in
    grind (arith, common_steps, date_decides)

pub returns : goal.returns
unfolding day_number weekday_agrees
returns c =
    let told = was_done _ _ _ (sym c.in_ok-day.ensures) in
    grind (arith, common_steps, date_decides)
