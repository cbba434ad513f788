use Rattle.std.proofs.Common.{◌≡◌, ◌&&◌, drop}
use Rattle.line_rules.specs.Line.{all_plain}
use Rattle.line.proofs.runs.is_all_plain.Given as goal

abbrev pub invariant-loop-byte : goal.invariant-loop-byte
invariant-loop-byte l = (l.plain && all_plain (drop l.byte-index l.bytes)) ≡ all_plain l.bytes
