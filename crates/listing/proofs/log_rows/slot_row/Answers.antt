-- `listing::log_rows::slot_row` meets its contract.
use Rattle.std.proofs.Common.{arith, refl, ap, ◌∙◌}
use Rattle.std.proofs.lemmas.Grind.{common_steps}
use Rattle.lent_buffer.specs.Laying.{laid}
use Rattle.listing_rules.specs.LogRows.{slot_row}
use Rattle.listing_rules.proofs.RowLaws.{rule_passes}
use Rattle.listing.proofs.RefusedLaws.{no_row}
use Rattle.listing.proofs.log_rows.slot_row.Goals as goal

pub returns-in_err-check : goal.returns-in_err-check
returns-in_err-check c =
    let a = c.args in
    no_row a.rec (slot_row a.block a.slot a.rec) a.out.now _ _ c.in_err-check.ensures c.from_residual.ensures.1

pub returns : goal.returns
unfolding slot_row
returns c =
    let a = c.args in
    ap (λ o. laid o a.out.now) (rule_passes a.rec (slot_row a.block a.slot a.rec) _ c.in_ok-check.ensures refl)
    ∙ grind (arith, common_steps)
