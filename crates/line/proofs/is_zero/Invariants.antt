use Rattle.std.proofs.Common.{◌≡◌, ◌&&◌, drop}
use Rattle.line.specs.Readers.{all_zero}
use Rattle.line.proofs.is_zero.Given as goal

abbrev pub invariant-loop-byte : goal.invariant-loop-byte
invariant-loop-byte l = (l.zeros && all_zero (drop l.byte-index l.held)) ≡ all_zero l.held
