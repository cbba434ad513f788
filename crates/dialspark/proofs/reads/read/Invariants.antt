-- Reads that a signal broke off took nothing.
use Rattle.std.specs.Io.KnownBytes.{Keeps}
use Rattle.dialspark.proofs.reads.read.Given as goal

abbrev pub invariant-loop : goal.invariant-loop
invariant-loop g l = Keeps (g.S.Read.remaining l.initial.source) (g.S.Read.remaining l.source)
