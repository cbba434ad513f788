-- `dialspark::lines::list` meets its contract.
use Rattle.std.proofs.Common.{◌++◌, take, ap, rules}
use Rattle.std.specs.Io.KnownBytes.{Consumes, IsAtEnd}
use Rattle.std.proofs.KnownBytes.{Consumes-trans}
use Rattle.listing_output.specs.Printing.{end_rows}
use Rattle.dialspark.proofs.ListedLaws.{went_out, printer_on, sent_on, listed}
use Rattle.dialspark.proofs.lines.list.Goals as goal

pub returns-in_default : goal.returns-in_default
returns-in_default g c =
    let so_far = c.loop.invariant in
    let ended : IsAtEnd (g.S.Read.remaining c.loop.capture) = search rules in
    listed c.args.order _ _ _ _ _ so_far.seen so_far.taken ended so_far.sent
    (went_out c.end.result.output _ _ _ _ (ap end_rows so_far.reader) c.in_ok-end.was c.end.ensures.sent)

pub loop-preserved : goal.loop-preserved
loop-preserved g c =
    let so_far = c.loop.invariant in
    let next = c.piece-printer in
    let whole = c.in_ok-printer-2.was in
    let piece = take c.in-Some.count c.next.new.buffer in
    let taken : Consumes (g.S.Read.remaining c.loop.capture) (g.S.Read.remaining c.next.new.source) piece = search rules in
    record {
      whole = whole;
      seen = so_far.seen ++ piece;
      taken = Consumes-trans _ _ _ _ _ so_far.taken taken;
      reader = printer_on c.args.order so_far.seen piece c.loop.printer next.result so_far.reader whole so_far.whole next.ensures.left;
      sent = sent_on c.args.order so_far.seen piece c.loop.printer next.result so_far.reader whole _ _ _ so_far.sent next.ensures.sent;
    }
