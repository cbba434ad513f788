-- `listing_of_logs::fill` meets its contract. The loop's invariant: the rows so far, and the slots that are left.
use mathlib.Core.Path.{◌≡◌, ap, ◌∙◌}
use native.Mathlib.Omega.{arith}
use lib.ListN.{get_or}
use Rattle.log_rules.proofs.BlockLaws.{good_length}
use Rattle.refusals.specs.Numbers.{outcome}
use Rattle.listing_of_logs.proofs.PageLaws.{none_yet, inside_page, full, all_taken, left_behind, not_refused, one_more}
use Rattle.listing_of_logs.proofs.fill.Goals as goal

pub bounds-block-480 : goal.bounds-block-480
bounds-block-480 c = omega (arith, good_length c.args.block.now c.requires.0)

pub loop-at-init : goal.loop-at-init
loop-at-init c =
    let a = c.args in
    let none : c.into_iter-at-iterator.result.count ≡ 0 = cc in
    let all : c.into_iter-at-iterator.result.iter.n ≡ get_or a.block.now 480 0 = cc in
    let left : c.into_iter-at-iterator.result.iter.iter.rest.now ≡ a.block.now = cc in
    (cc, rw none left, omega arith, rw none (none_yet a.number a.block.now a.page.now c.requires.0 c.requires.1))

pub overflow_add-used : goal.overflow_add-used
overflow_add-used c =
    let a = c.args in
    let l = c.loop-at in
    let steps = c.in-Some.ensures.steps in
    let row = c.lay_row in
    let next =
    one_more a.number a.block.now l.page _ _ l.used l.invariant.3 (omega arith) (omega arith) _ c.in-Some.slot.now _ l.invariant.1 steps.0.0.1.0
    (steps.0.0.1.1 ∙ l.invariant.0) _ steps.1 (outcome row.result) row.new.out row.ensures _ (ap outcome c.in-Ok.is) in
    omega (arith, next.few, next.inside, next.fits)

pub loop-at-preserved : goal.loop-at-preserved
loop-at-preserved c =
    let a = c.args in
    let l = c.loop-at in
    let steps = c.in-Some.ensures.steps in
    let row = c.lay_row in
    let size = steps.0.0.1.1 ∙ l.invariant.0 in
    let next =
    one_more a.number a.block.now l.page _ _ l.used l.invariant.3 (omega arith) (omega arith) _ c.in-Some.slot.now _ l.invariant.1 steps.0.0.1.0
    size _ steps.1 (outcome row.result) row.new.out row.ensures _ (ap outcome c.in-Ok.is) in
    let left =
    left_behind a.number a.block.now l.page _ _ l.used l.invariant.3 (omega arith) (omega arith) _ c.in-Some.slot.now _ l.invariant.1 steps.0.0.1.0
    size _ steps.1 (outcome row.result) row.new.out row.ensures in
    (cc, rw steps.2 left, omega arith, rw steps.2 next)

pub returns-in-Err : goal.returns-in-Err
returns-in-Err c =
    let a = c.args in
    let l = c.loop-at in
    let steps = c.in-Some.ensures.steps in
    let row = c.lay_row in
    absurd
    (not_refused a.number a.block.now l.page _ _ l.used l.invariant.3 (omega arith) (omega arith) _ c.in-Some.slot.now _ l.invariant.1 steps.0.0.1.0
    (steps.0.0.1.1 ∙ l.invariant.0) _ steps.1 (outcome row.result) row.new.out row.ensures _ (ap outcome c.in-Err.is))

pub returns : goal.returns
returns c =
    let l = c.loop-at in
    let long = good_length c.args.block.now c.requires.0 in
    let taken =
    all_taken c.args.block.now _ _ _ long l.invariant.3.few l.invariant.1 _ l.invariant.2 (λ more. omega (arith, (c.in-None.ensures.steps.0 more).1.0, l.invariant.0)) in
    (inside_page _ _ _ _ _ _ l.invariant.3, full _ _ _ _ _ _ l.invariant.3 taken)
