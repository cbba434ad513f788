-- A turn that takes no byte is the last.
use Rattle.std.proofs.Common.{length}
use Rattle.measured.proofs.events.Given as goal

abbrev pub decreases-loop-rest : goal.decreases-loop-rest
decreases-loop-rest l = length l.rest
