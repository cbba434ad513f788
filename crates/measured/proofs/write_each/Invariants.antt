use Rattle.std.proofs.Common.{◌≤◌, length}
use Rattle.measured.proofs.write_each.Given as goal

abbrev pub invariant-loop-telegram : goal.invariant-loop-telegram
invariant-loop-telegram l = l.used ≤ length l.out
