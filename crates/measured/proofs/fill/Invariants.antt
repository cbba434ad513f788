use Rattle.std.proofs.Common.{◌≤◌, length}
use Rattle.measured.proofs.fill.Given as goal

abbrev pub invariant-loop : goal.invariant-loop
invariant-loop g l = l.count ≤ length l.piece
