-- `listing_of_lines::list` meets its contract. The loop's invariant: the rows so far, and what the rest of the piece still gives.
use Rattle.std.proofs.Common.{◌+◌, ◌-◌, ◌<◌, ◌++◌, length, drop, ap, sym, ◌∙◌, arith}
use borrow.Rule.Slice.PartMut.{put_mid}
use Rattle.refusals.specs.Numbers.{outcome}
use Rattle.listing_of_lines.specs.Pages.{rows_in, listed_for}
use Rattle.listing_of_lines.proofs.PageLaws.{Holds, row_stands, row_stops, page_ends, page_refused, page_good}
use Rattle.listing_of_lines.proofs.list.Goals as goal
use Rattle.listing_of_lines.proofs.list.Goals.{In-Ok}

pub returns-then-not-is_well_formed : goal.returns-then-not-is_well_formed
returns-then-not-is_well_formed c =
    let a = c.args in
    let refused = page_refused (length a.out.now) a.reader a.piece.now (sym c.is_well_formed.ensures ∙ c.if-not-is_well_formed.true) in
    (ap listed_for (sym refused), ap (λ page. page.bytes ++ drop 0 a.out.now) (sym refused))

-- a row more stands in the buffer, and its call took a byte
one_row : (c : In-Ok)
    → let a = c.args in
    let l = c.loop-taken in
    Holds (rows_in (length a.out.now) a.reader a.piece.now) a.piece.now a.out.now (put_mid l.used (length l.out - l.used) l.out c.row_of.new.out)
    c.feed-fed.result.reader (l.taken + c.feed-fed.result.taken) (l.used + c.in-Ok.n)
    × (0 < c.feed-fed.result.taken)
one_row c = row_stands _ _ _ _ _ _ _ c.loop-taken.invariant (omega arith) _ c.feed-fed.ensures _ _ c.row_of.ensures _ (ap outcome c.in-Ok.is)

pub overflow_add-used : goal.overflow_add-used
overflow_add-used c =
    let next = one_row c in
    omega (arith, next.0.laying.fits, next.0.laying.size)

pub overflow_add-taken : goal.overflow_add-taken
overflow_add-taken c =
    let next = one_row (goal.at.overflow_add-taken c).In-Ok in
    omega (arith, next.0.inside)

pub loop-taken-smaller : goal.loop-taken-smaller
loop-taken-smaller c =
    let next = one_row (goal.at.loop-taken-smaller c).In-Ok in
    omega (arith, next.0.inside, next.1)

pub loop-taken-preserved : goal.loop-taken-preserved
loop-taken-preserved c = (one_row (goal.at.loop-taken-preserved c).In-Ok).0

pub returns-in-Err : goal.returns-in-Err
returns-in-Err c =
    let a = c.args in
    let good = sym c.is_well_formed.ensures ∙ c.if-not-is_well_formed.false in
    rw (page_good (length a.out.now) a.reader a.piece.now good)
    (row_stops _ _ _ _ _ _ _ c.loop-taken.invariant (omega arith) _ c.feed-fed.ensures _ _ c.row_of.ensures _ (ap outcome c.in-Err.is))

pub returns : goal.returns
returns c =
    let a = c.args in
    let good = sym c.is_well_formed.ensures ∙ c.if-not-is_well_formed.false in
    rw (page_good (length a.out.now) a.reader a.piece.now good) (page_ends _ _ _ _ _ _ _ (omega arith) c.loop-taken.invariant)
