-- `line::skip::stray_blocks` meets its contract. The loop's invariant: what was skipped and what is left is the whole.
use Rattle.std.proofs.Common.{◌≡◌, ◌+◌, ◌-◌, ◌≤◌, length, drop}
use Rattle.line_rules.specs.Runs.{stray_run}
use Rattle.line.proofs.skip.stray_blocks.Given as goal

abbrev pub invariant-loop-at : goal.invariant-loop-at
invariant-loop-at l = (l.at ≤ length l.piece) × (l.at + stray_run (drop l.at l.piece) ≡ stray_run l.piece)

abbrev pub decreases-loop-at : goal.decreases-loop-at
decreases-loop-at l = length l.piece - l.at
