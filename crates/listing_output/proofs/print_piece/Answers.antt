-- `listing_output::print_piece` meets its contract.
use Rattle.std.proofs.Common.{◌≡◌, ◌-◌, [], ◌++◌, length, take, drop, sym, ◌∙◌, arith, drop_of_length-le}
use Rattle.std.proofs.KnownBytes.{Appends-nil, Appends-trans}
use Rattle.line_rules.specs.Line.{places}
use Rattle.listing_of_lines.specs.Pages.{page_of}
use Rattle.listing_output.specs.Printing.{page_room}
use Rattle.listing_output.proofs.SentLaws.{appends_same}
use Rattle.listing_output.proofs.PieceLaws.{begins, all_laid, fits, turn, some_taken}
use Rattle.listing_output.proofs.print_piece.Goals as goal

pub loop-at-init : goal.loop-at-init
loop-at-init g c =
    let a = c.args in
    let good = sym c.is_well_formed.ensures ∙ c.if-not-is_well_formed.false in
    let size : length a.reader.held ≡ places = omega (arith, c.well_formed) in
    record {
      in_piece = omega arith;
      laid = [];
      sent = Appends-nil _;
      follows = begins a.reader a.piece.now good size (omega (arith, c.well_formed)) (omega (arith, c.well_formed));
    }

pub overflow_add-at : goal.overflow_add-at
overflow_add-at g c =
    let a = c.args in
    let l = c.loop-at in
    let page = c.print_page-sheet in
    omega (arith, fits _ _ _ _ a.piece.now l.at l.invariant.follows _ _ page.ensures.reader page.ensures.taken l.invariant.in_piece)

pub loop-at-smaller : goal.loop-at-smaller
loop-at-smaller g c =
    let a = c.args in
    let l = c.loop-at in
    let page = c.print_page-sheet in
    omega (
      arith,
      fits _ _ _ _ a.piece.now l.at l.invariant.follows _ _ page.ensures.reader page.ensures.taken l.invariant.in_piece,
      some_taken _ _ _ _ a.piece.now l.at l.invariant.follows _ _ page.ensures.reader page.ensures.taken (omega arith),
    )

pub loop-at-preserved : goal.loop-at-preserved
loop-at-preserved g c =
    let a = c.args in
    let l = c.loop-at in
    let page = c.print_page-sheet in
    record {
      in_piece = fits _ _ _ _ a.piece.now l.at l.invariant.follows _ _ page.ensures.reader page.ensures.taken l.invariant.in_piece;
      laid = l.invariant.laid ++ (page_of page_room l.next (take (length a.piece.now - l.at) (drop l.at a.piece.now))).bytes;
      sent = Appends-trans _ _ _ _ _ l.invariant.sent (rw c.in_default.is at page.ensures.sent);
      follows = turn _ _ _ _ a.piece.now l.at l.invariant.follows _ _ page.ensures.reader page.ensures.taken;
    }

pub returns-clause-sent : goal.returns-clause-sent
returns-clause-sent g c =
    let a = c.args in
    let l = c.loop-at in
    appends_same _ _ _ _ (all_laid _ _ _ _ _ (drop_of_length-le a.piece.now {i = l.at} (omega arith)) l.invariant.follows) l.invariant.sent
