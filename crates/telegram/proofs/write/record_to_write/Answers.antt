-- `telegram::write::record_to_write` meets its contract.
use Rattle.std.proofs.Common.{sym, ap, ◌∙◌}
use Rattle.refusals.specs.Refusals.{after}
use Rattle.refusals.proofs.Laws.{does}
use Rattle.refusals.proofs.NumberLaws.{passed_on, refused_by}
use Rattle.telegram_rules.specs.Writing.{as6021}
use Rattle.telegram.proofs.write.record_to_write.Goals as goal

pub returns-in_err-check-in-Unnamed : goal.returns-in_err-check-in-Unnamed
returns-in_err-check-in-Unnamed c =
    rw c.in-Unnamed.is
    (passed_on _ _ c.from_residual.ensures.1 ∙ ap (λ outcome. after outcome as6021) (refused_by c.args.rec _ c.in_err-check-in-Unnamed.ensures))

pub returns-in_ok-check-in-Unnamed : goal.returns-in_ok-check-in-Unnamed
returns-in_ok-check-in-Unnamed c =
    rw c.in-Unnamed.is
    (c.as_6021.ensures ∙ ap (λ outcome. after outcome as6021) (sym (does c.args.rec (sym c.in_ok-check-in-Unnamed.ensures))))
