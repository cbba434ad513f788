-- `listing::rows::row` meets its contract.
use Rattle.std.proofs.Common.{arith, refl, ap, ◌∙◌}
use Rattle.std.proofs.lemmas.Grind.{common_steps}
use Rattle.lent_buffer.specs.Laying.{laid}
use Rattle.listing_rules.specs.Listing.{record_row, event_row}
use Rattle.listing_rules.proofs.RowLaws.{rule_passes}
use Rattle.listing.proofs.RefusedLaws.{no_row}
use Rattle.listing.specs.Texts.{told_as}
use Rattle.listing.proofs.rows.row.Goals as goal

pub returns-in_err-check-in-Ok : goal.returns-in_err-check-in-Ok
returns-in_err-check-in-Ok c =
    let start = c.args.start in
    let rec = c.in-Ok.rec in
    let out = c.args.out.now in
    ap (λ answer. laid (event_row start (told_as answer)) out) c.in-Ok.is
    ∙ no_row rec (record_row start rec) out _ _ c.in_err-check-in-Ok.ensures c.from_residual.ensures.1

pub returns-in_ok-check-in-Ok : goal.returns-in_ok-check-in-Ok
unfolding record_row
returns-in_ok-check-in-Ok c =
    let start = c.args.start in
    let rec = c.in-Ok.rec in
    let out = c.args.out.now in
    ap (λ answer. laid (event_row start (told_as answer)) out) c.in-Ok.is
    ∙ ap (λ o. laid o out) (rule_passes rec (record_row start rec) _ c.in_ok-check-in-Ok.ensures refl)
    ∙ grind (arith, common_steps)
