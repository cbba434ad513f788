-- `delivery_log::add::find_place` meets its contract. The loop's invariant: what is found so far leads on to what the whole search finds.
use mathlib.Core.Path.{sym, ◌∙◌}
use borrow.Author.Tests.{eq-eqb, ne_eqb}
use Rattle.log_rules.proofs.PlaceLaws.{place_broken, search_starts, search_next}
use Rattle.delivery_log.proofs.add.find_place.Goals as goal

pub returns-then-region-ne0 : goal.returns-then-region-ne0
returns-then-region-ne0 c = sym (place_broken _ (ne_eqb _ _ c.if-region-ne0.true))

pub loop-at-init : goal.loop-at-init
loop-at-init c = let whole = search_starts _ (eq-eqb _ _ c.if-region-ne0.false) in (cc, cc)

pub loop-at-preserved : goal.loop-at-preserved
loop-at-preserved c =
    let steps = c.in-Some.ensures.steps in
    let next = search_next _ _ c.in-Some.at _ c.in-Some.block.now _ steps.0.1.0 (steps.0.1.1 ∙ c.loop-at.invariant.0) c.place_with-found.ensures in
    (cc, cc)
