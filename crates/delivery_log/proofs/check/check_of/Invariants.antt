-- `delivery_log::check::check_of` meets its contract. The loop's invariant: the sum of the first bytes, at most 255 · 510 for each.
use mathlib.Core.Path.{◌≡◌}
use Prim.Native.Nat.{◌*◌, ◌≤◌}
use lib.ListN.{take}
use Rattle.log_rules.specs.Check.{weighed}
use Rattle.log_rules.specs.Block.{check_place}
use Rattle.delivery_log.proofs.check.check_of.Given as goal

abbrev pub invariant-loop-at : goal.invariant-loop-at
invariant-loop-at l = (l.sum ≡ weighed 1 (take l.at l.body)) × (l.sum ≤ 255 * check_place * l.at)
