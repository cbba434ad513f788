-- `leitch::write::write` meets its contract: each way it ends is a law of the definition.
use mathlib.Core.Path.{sym, ap, ◌∙◌}
use Rattle.refusals.proofs.NumberLaws.{passed_on}
use Rattle.leitch_rules.proofs.WriteLaws.{ends_refused, ends_short, ends_disagreeing, ends_written}
use Rattle.leitch.proofs.write.write.Goals as goal

pub returns-in_err-check_fields : goal.returns-in_err-check_fields
returns-in_err-check_fields c =
    let out = c.args.out.now in
    ends_refused c.args.reply out _ c.in_err-check_fields.ensures ∙ ap (λ told. (told, out)) (sym (passed_on _ _ c.from_residual.ensures.1))

pub returns-then-out-lt-PLACES : goal.returns-then-out-lt-PLACES
returns-then-out-lt-PLACES c =
    ends_short c.args.reply c.args.out.now (sym c.in_ok-check_fields.ensures) c.if-out-lt-PLACES.true

pub returns-in_err-check_day : goal.returns-in_err-check_day
returns-in_err-check_day c =
    let out = c.args.out.now in
    ends_disagreeing c.args.reply out (sym c.in_ok-check_fields.ensures) c.if-out-lt-PLACES.false _ c.in_err-check_day.ensures
    ∙ ap (λ told. (told, out)) (sym (passed_on _ _ c.from_residual-in_err-check_day.ensures.1))

pub returns : goal.returns
returns c =
    ends_written c.args.reply c.args.out.now (sym c.in_ok-check_fields.ensures) c.if-out-lt-PLACES.false
    (sym c.in_ok-check_day.ensures) _ _ _ c.row.ensures c.digits_out.ensures c.render.ensures
