-- `delivery_log::add::find_place` meets its contract. The loop's invariant: what is found so far leads on to what the whole search finds.
use mathlib.Core.Path.{◌≡◌}
use Rattle.std.specs.Slice.Iter.{chunks_exact_rest, chunks_exact_size}
use Rattle.std.specs.Iterator.Adapters.{enumerate_source, enumerate_count}
use Rattle.log_rules.specs.Block.{block_size}
use Rattle.log_rules.specs.Region.{whole_blocks}
use Rattle.log_rules.specs.Add.{place_in}
use Rattle.refusals.specs.Numbers.{outcome}
use Rattle.log_rules.specs.Tests.{place_then}
use Rattle.delivery_log.proofs.add.find_place.Given as goal

abbrev pub invariant-loop-at : goal.invariant-loop-at
invariant-loop-at l =
    (chunks_exact_size (enumerate_source l.at-iterator) ≡ block_size)
    × (place_then (outcome l.found) (enumerate_count l.at-iterator) (whole_blocks (chunks_exact_rest (enumerate_source l.at-iterator))) ≡ place_in l.region)
