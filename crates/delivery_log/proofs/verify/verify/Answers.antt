-- `delivery_log::verify::verify` meets its contract. The loop's invariant: the blocks that are left say what the whole region says.
use mathlib.Core.Path.{sym, ◌∙◌}
use borrow.Author.Tests.{eq-eqb, ne_eqb}
use Rattle.log_rules.proofs.VerifyLaws.{verify_broken, verify_whole, verify_next}
use Rattle.delivery_log.proofs.verify.verify.Goals as goal

pub returns-then-region-ne0 : goal.returns-then-region-ne0
returns-then-region-ne0 c = sym (verify_broken _ (ne_eqb _ _ c.if-region-ne0.true))

pub loop-at-init : goal.loop-at-init
loop-at-init c = let whole = verify_whole _ (eq-eqb _ _ c.if-region-ne0.false) in (cc, cc)

pub returns-then-not-is_good : goal.returns-then-not-is_good
returns-then-not-is_good c =
    let steps = c.in-Some.ensures.steps in
    let next = verify_next c.in-Some.at _ c.in-Some.block.now _ steps.0.1.0 (steps.0.1.1 ∙ c.loop-at.invariant.0) c.is_good.ensures in
    let bad = rw c.if-not-is_good.true at next in
    cc

pub loop-at-preserved : goal.loop-at-preserved
loop-at-preserved c =
    let steps = c.in-Some.ensures.steps in
    let next = verify_next c.in-Some.at _ c.in-Some.block.now _ steps.0.1.0 (steps.0.1.1 ∙ c.loop-at.invariant.0) c.is_good.ensures in
    let good = rw c.if-not-is_good.false at next in
    (cc, cc)
