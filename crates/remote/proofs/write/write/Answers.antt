-- `remote::write::write` meets its contract: each way it ends is a law of the definition.
use Rattle.std.proofs.Common.{sym, ap, ◌∙◌}
use Rattle.refusals.proofs.NumberLaws.{number_some, passed_on}
use Rattle.remote_rules.specs.Rows.{row_numbers}
use Rattle.remote_rules.proofs.WriteLaws.{ends_refused, ends_short, ends_written}
use Rattle.remote.proofs.write.write.Goals as goal

pub returns-in_err-check : goal.returns-in_err-check
returns-in_err-check c =
    let start = c.args in
    ends_refused start.command start.out.now _ c.in_err-check.ensures (number_some _)
    ∙ ap (λ told. (told, start.out.now)) (sym (passed_on _ _ c.from_residual.ensures.1))

pub returns-then-out-length : goal.returns-then-out-length
returns-then-out-length c =
    let kept = c.row_of-row.ensures ∙ ap row_numbers c.own_form.ensures in
    ends_short c.args.command c.args.out.now (sym c.in_ok-check.ensures) _ kept c.if-out-length.true

pub returns : goal.returns
returns c =
    let kept = c.row_of-row.ensures ∙ ap row_numbers c.own_form.ensures in
    ends_written c.args.command c.args.out.now (sym c.in_ok-check.ensures) _ kept c.if-out-length.false _ _ c.digits_out.ensures c.render.ensures
