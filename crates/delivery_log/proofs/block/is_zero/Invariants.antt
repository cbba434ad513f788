-- `delivery_log::block::is_zero` meets its contract. The loop's invariant: what is left is zero exactly when all is.
use mathlib.Core.Path.{◌≡◌}
use lib.ListN.{drop}
use Rattle.log_rules.specs.Tests.{all_zero}
use Rattle.delivery_log.proofs.block.is_zero.Given as goal

abbrev pub invariant-loop-byte : goal.invariant-loop-byte
invariant-loop-byte l = all_zero (drop l.byte-index l.bytes) ≡ all_zero l.bytes
