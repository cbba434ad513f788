-- `delivery_log::add::add` meets its contract.
use mathlib.Core.Path.{ap, ap₂, sym, ◌∙◌}
use Rattle.refusals.proofs.NumberLaws.{passed_on}
use Rattle.log_rules.specs.Good.{is_done, reads_well}
use Rattle.log_rules.proofs.AddLaws.{add_is, own_refusal, reads_place}
use Rattle.delivery_log.proofs.add.add.Goals as goal

pub add_good-requires : goal.add_good-requires
unfolding reads_well
add_good-requires c = sym (ap is_done c.in_ok-read.ensures)

pub returns-in_err-read : goal.returns-in_err-read
returns-in_err-read c =
    let a = c.args in
    add_is a.region.now a.telegram.now (own_refusal a.region.now a.telegram.now (sym c.in_err-read.ensures))
    ∙ ap (λ o. (o, a.region.now)) (sym (passed_on _ _ c.from_residual.ensures.1))

pub returns : goal.returns
unfolding reads_well
returns c =
    let a = c.args in
    let reads = sym (ap is_done c.in_ok-read.ensures) in
    let added = c.add_good.ensures in
    add_is a.region.now a.telegram.now (reads_place a.region.now a.telegram.now reads) ∙ ap₂ (λ o r. (o, r)) (sym added.0) (sym added.1)
