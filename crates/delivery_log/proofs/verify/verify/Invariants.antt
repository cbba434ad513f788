-- `delivery_log::verify::verify` meets its contract. The loop's invariant: the blocks that are left say what the whole region says.
use mathlib.Core.Path.{◌≡◌}
use Rattle.std.specs.Slice.Iter.{chunks_exact_rest, chunks_exact_size}
use Rattle.std.specs.Iterator.Adapters.{enumerate_source, enumerate_count}
use Rattle.log_rules.specs.Block.{block_size}
use Rattle.log_rules.specs.Region.{whole_blocks}
use Rattle.log_rules.specs.Verify.{first_bad, verify_of}
use Rattle.delivery_log.proofs.verify.verify.Given as goal

abbrev pub invariant-loop-at : goal.invariant-loop-at
invariant-loop-at l =
    (chunks_exact_size (enumerate_source l.at-iterator) ≡ block_size)
    × (first_bad (enumerate_count l.at-iterator) (whole_blocks (chunks_exact_rest (enumerate_source l.at-iterator))) ≡ verify_of l.region)
