-- `telegram::write::write` meets its contract.
use Rattle.std.proofs.Common.{sym, ap, ◌∙◌}
use Rattle.refusals.proofs.NumberLaws.{passed_on}
use Rattle.lent_buffer.specs.Laying.{laid}
use Rattle.lent_buffer.proofs.LayingLaws.{laid_refused}
use Rattle.telegram_rules.proofs.WriteLaws.{telegram_refused, telegram_made}
use Rattle.telegram.proofs.write.write.Goals as goal

pub returns-in_err-good : goal.returns-in_err-good
returns-in_err-good c =
    let start = c.args in
    ap (λ o. laid o start.out.now) (telegram_refused start.choice start.rec _ (sym c.in_err-good.ensures))
    ∙ laid_refused _ start.out.now
    ∙ ap (λ told. (told, start.out.now)) (sym (passed_on _ _ c.from_residual.ensures.1))

pub returns-in-AsPrinted : goal.returns-in-AsPrinted
returns-in-AsPrinted c =
    let start = c.args in
    let order = sym c.order_of.ensures ∙ c.in-AsPrinted.is in
    ap (λ o. laid o start.out.now)
    (telegram_made start.choice start.rec _ _ _ (sym c.in_ok-good.ensures) order (sym c.control_of-control.ensures))
    ∙ c.lay.ensures

pub returns-in-Exchanged : goal.returns-in-Exchanged
returns-in-Exchanged c =
    let start = c.args in
    let order = sym c.order_of.ensures ∙ c.in-Exchanged.is in
    ap (λ o. laid o start.out.now)
    (telegram_made start.choice start.rec _ _ _ (sym c.in_ok-good.ensures) order (sym c.control_of-control.ensures))
    ∙ c.lay_exchanged.ensures
