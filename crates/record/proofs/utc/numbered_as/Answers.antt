-- `record::utc::numbered_as` meets its contract.
use mathlib.Core.Path.{sym, ◌∙◌}
use Rattle.refusals.proofs.Laws.{does}
use Rattle.refusals.proofs.NumberLaws.{passed_on, refused_by}
use Rattle.record_rules.specs.Utc.{numbered_as}
use Rattle.record.proofs.utc.numbered_as.Goals as goal

pub returns-then-is_60 : goal.returns-then-is_60
unfolding numbered_as
returns-then-is_60 c = rw (sym c.is_60.ensures ∙ c.if-is_60.true) c.next_second.ensures

pub returns-in_err-check : goal.returns-in_err-check
unfolding numbered_as
returns-in_err-check c =
    rw (sym c.is_60.ensures ∙ c.if-is_60.false)
    (passed_on _ _ c.from_residual.ensures.1 ∙ refused_by _ _ c.in_err-check.ensures)

pub returns : goal.returns
unfolding numbered_as
returns c = rw (sym c.is_60.ensures ∙ c.if-is_60.false) (sym (does _ (sym c.in_ok-check.ensures)))
