use Rattle.std.proofs.Common.{◌≡◌, ◌||◌, drop}
use Rattle.line_rules.specs.Runs.{has_stx}
use Rattle.line.proofs.skip.has_stx.Given as goal

abbrev pub invariant-loop-byte : goal.invariant-loop-byte
invariant-loop-byte l = (l.found || has_stx (drop l.byte-index l.bytes)) ≡ has_stx l.bytes
