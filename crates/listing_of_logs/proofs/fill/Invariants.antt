-- `listing_of_logs::fill` meets its contract. The loop's invariant: the rows so far, and the slots that are left.
use mathlib.Core.Path.{◌≡◌}
use Prim.Native.Nat.{◌+◌, ◌*◌}
use lib.ListN.{drop}
use Rattle.std.specs.Slice.Iter.{chunks_exact_rest, chunks_exact_size}
use Rattle.std.specs.Iterator.Adapters.{take_source, take_count, enumerate_source, enumerate_count}
use Rattle.log_rules.specs.Block.{slot_size}
use Rattle.listing_of_logs.proofs.PageLaws.{Filling}
use Rattle.listing_of_logs.proofs.fill.Given as goal

abbrev pub invariant-loop-at : goal.invariant-loop-at
invariant-loop-at l =
    (chunks_exact_size (take_source (enumerate_source l.at-iterator)) ≡ slot_size)
    × (chunks_exact_rest (take_source (enumerate_source l.at-iterator)) ≡ drop (slot_size * enumerate_count l.at-iterator) l.block)
    × (take_count (enumerate_source l.at-iterator) + enumerate_count l.at-iterator ≡ l.count)
    × Filling l.number l.block l.page l.count (enumerate_count l.at-iterator) l.used
