-- `telegram::write::record_by` meets its contract.
use Rattle.std.proofs.Common.{sym, ◌∙◌}
use Rattle.refusals.proofs.Laws.{does}
use Rattle.refusals.proofs.NumberLaws.{passed_on, refused_by}
use Rattle.telegram.proofs.write.record_by.Goals as goal

pub returns-then-setting : goal.returns-then-setting
returns-then-setting c = rw c.if-setting.true c.next_second.ensures

pub returns-in_err-check : goal.returns-in_err-check
returns-in_err-check c = rw c.if-setting.false (passed_on _ _ c.from_residual.ensures.1 ∙ refused_by _ _ c.in_err-check.ensures)

pub returns : goal.returns
returns c = rw c.if-setting.false (sym (does _ (sym c.in_ok-check.ensures)))
