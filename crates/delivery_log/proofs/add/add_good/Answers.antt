-- `delivery_log::add::add_good` meets its contract.
use mathlib.Core.Path.{ap, sym, ◌∙◌}
use native.Mathlib.Omega.{arith}
use Rattle.refusals.proofs.NumberLaws.{passed_on}
use Rattle.log_rules.specs.Add.{region_after}
use Rattle.log_rules.proofs.PutLaws.{lent_fits, lent_good, lent_count, lent_free, put_back}
use Rattle.delivery_log.proofs.add.add_good.Goals as goal

pub overflow_mul-start : goal.overflow_mul-start
overflow_mul-start c = omega (arith, lent_fits _ _ (sym c.in_ok-place.ensures))

pub overflow_add-end : goal.overflow_add-end
overflow_add-end c = omega (arith, lent_fits _ _ (sym c.in_ok-place.ensures))

pub slice_bounds-enter-end : goal.slice_bounds-enter-end
slice_bounds-enter-end c = omega (arith, lent_fits _ _ (sym c.in_ok-place.ensures))

pub enter-requires : goal.enter-requires
enter-requires c =
    let region = c.args.region.now in
    let place = c.in_ok-place.place in
    let at = sym c.in_ok-place.ensures in
    (lent_good region place at, lent_count region place at, lent_free region place at, c.requires)

pub returns-in_err-place : goal.returns-in_err-place
returns-in_err-place c =
    let a = c.args in
    let none = c.in_err-place.ensures in
    (passed_on _ _ c.from_residual.ensures.1 ∙ none, ap (λ o. region_after o a.region.now a.telegram.now) none)

pub returns : goal.returns
returns c =
    let a = c.args in
    let at = c.in_ok-place.ensures in
    (at, put_back a.region.now c.in_ok-place.place (sym at) a.telegram.now c.enter.new.block c.enter.ensures)
