-- `listing_of_logs::lay_row` meets its contract.
use mathlib.Core.Path.{ap, sym, ◌∙◌}
use Rattle.refusals.proofs.NumberLaws.{passed_on}
use Rattle.lent_buffer.specs.Laying.{laid}
use Rattle.lent_buffer.proofs.LayingLaws.{laid_refused}
use Rattle.log_rules.specs.Good.{telegram_in}
use Rattle.listing_of_logs.proofs.RowLaws.{row_read}
use Rattle.listing_of_logs.proofs.lay_row.Goals as goal

pub returns : goal.returns
returns c =
    let a = c.args in
    ap (λ o. laid o a.out.now) (row_read a.number a.at (telegram_in a.slot.now) _ c.in_ok-read_slot.ensures)
    ∙ c.slot_row.ensures

pub returns-in_err-read_slot : goal.returns-in_err-read_slot
returns-in_err-read_slot c =
    let a = c.args in
    ap (λ o. laid o a.out.now) (row_read a.number a.at (telegram_in a.slot.now) _ c.in_err-read_slot.ensures)
    ∙ laid_refused _ a.out.now
    ∙ ap (λ o. (o, a.out.now)) (sym (passed_on _ _ c.from_residual.ensures.1))
