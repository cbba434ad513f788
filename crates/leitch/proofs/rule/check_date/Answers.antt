-- `leitch::rule::check_date` meets its contract.
use mathlib.Core.Path.{sym, ap, ◌∙◌}
use borrow.Author.Tests.{eq-eqb, ne_eqb}
use Rattle.refusals.proofs.Laws.{was_done, was_refused, refused_some, else_some}
use Rattle.refusals.proofs.NumberLaws.{passed_verdict}
use Rattle.calendar_rules.specs.Calendar.{day_number, day_of, date_refusal, weekday_of}
use Rattle.leitch_rules.specs.Rule.{weekday_agrees}
use Rattle.leitch.proofs.rule.check_date.Goals as goal

pub returns-in_err-day : goal.returns-in_err-day
unfolding day_number
returns-in_err-day c =
    let date = c.args.date in
    let told = sym c.in_err-day.ensures in
    let number = was_refused (date_refusal date) _ (day_of date) told in
    let some = refused_some (date_refusal date) _ (day_of date) told in
    passed_verdict _ _ c.from_residual.ensures.1 ∙ sym (rw number (else_some _ _ some))

pub returns-then-weekday : goal.returns-then-weekday
unfolding day_number weekday_agrees
returns-then-weekday c =
    let told = was_done _ _ _ (sym c.in_ok-day.ensures) in
    let wrong = ne_eqb _ _ (λ same. c.if-weekday.true (c.weekday.ensures ∙ ap weekday_of (sym told.1) ∙ same)) in
    rw (told.0, wrong)

pub returns : goal.returns
unfolding day_number weekday_agrees
returns c =
    let told = was_done _ _ _ (sym c.in_ok-day.ensures) in
    let right = eq-eqb _ _ (ap weekday_of told.1 ∙ sym c.weekday.ensures ∙ c.if-weekday.false) in
    rw (told.0, right)
