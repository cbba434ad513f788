-- `listing_of_logs::verified_row` meets its contract.
use mathlib.Core.Path.{ap, sym, ◌∙◌}
use native.Mathlib.Omega.{arith}
use lib.ListN.{get_or}
use Rattle.refusals.specs.Refusals.{done}
use Rattle.lent_buffer.specs.Laying.{laid}
use Rattle.log_rules.proofs.BlockLaws.{good_length}
use Rattle.listing_rules.specs.LogRows.{good_row, bad_row}
use Rattle.listing_of_logs.proofs.RowLaws.{verified_good, verified_bad}
use Rattle.listing_of_logs.proofs.verified_row.Goals as goal

pub returns-then-not-is_good : goal.returns-then-not-is_good
returns-then-not-is_good c =
    let a = c.args in
    let bad = sym c.is_good.ensures ∙ c.if-not-is_good.true in
    let row = verified_bad a.number a.block.now bad ∙ ap (bad_row a.number) (sym c.offset_of-offset.ensures) in
    (sym bad, ap (λ r. laid (done r) a.out.now) row ∙ c.bad_row.ensures)

pub bounds-block-480 : goal.bounds-block-480
bounds-block-480 c =
    let good = sym c.is_good.ensures ∙ c.if-not-is_good.false in
    omega (arith, good_length c.args.block.now good)

pub returns : goal.returns
returns c =
    let a = c.args in
    let good = sym c.is_good.ensures ∙ c.if-not-is_good.false in
    let row =
    verified_good a.number a.block.now good
    ∙ ap (λ o. good_row a.number o (get_or a.block.now 480 0)) (sym c.offset_of-offset.ensures) in
    (sym good, ap (λ r. laid (done r) a.out.now) row ∙ c.good_row.ensures)
