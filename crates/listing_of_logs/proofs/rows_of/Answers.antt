-- `listing_of_logs::rows_of` meets its contract.
use mathlib.Core.Path.{refl, ap, sym, ◌∙◌}
use Rattle.refusals.specs.Refusals.{done}
use Rattle.lent_buffer.specs.Laying.{laid}
use Rattle.listing_rules.specs.LogRows.{block_row}
use Rattle.listing_of_logs.proofs.RowLaws.{rows_good, rows_bad}
use Rattle.listing_of_logs.proofs.rows_of.Goals as goal

pub returns-then-not-is_good : goal.returns-then-not-is_good
returns-then-not-is_good c =
    let a = c.args in
    let bad = sym c.is_good.ensures ∙ c.if-not-is_good.true in
    ap (λ rows. laid (done rows) a.out.now) (rows_bad a.number a.block.now bad ∙ ap (block_row a.number) (sym c.number.ensures))
    ∙ c.block_row.ensures

pub fill-used-requires : goal.fill-used-requires
fill-used-requires c = (sym c.is_good.ensures ∙ c.if-not-is_good.false, refl)

pub returns : goal.returns
returns c =
    let a = c.args in
    let good = sym c.is_good.ensures ∙ c.if-not-is_good.false in
    let rows = rows_good a.number a.block.now good ∙ sym c.fill-used.ensures.1 in
    ap (λ l. laid (done l) a.out.now) rows ∙ c.lay.ensures
