-- The bytes that were taken so far, their reader, and their rows, which have gone out.
use Rattle.std.proofs.Common.{◌≡◌, ℕ, List, Ok}
use Rattle.std.specs.Io.KnownBytes.{Appends, Consumes}
use Rattle.dialspark.proofs.ListedLaws.{reader_behind, rows_behind}
use Rattle.dialspark.proofs.lines.list.Given as goal

abbrev pub invariant-loop : goal.invariant-loop
invariant-loop g l = record {
  whole : l.printer.output ≡ Ok tt;
  seen : List ℕ;
  taken : Consumes (g.S.Read.remaining l.fn.capture) (g.S.Read.remaining l.capture) seen;
  reader : l.printer.reader ≡ reader_behind l.fn.order seen;
  sent : Appends (g.W.Write.contents l.fn.to) (g.W.Write.contents l.to) (rows_behind l.fn.order seen);
}
