-- `listing_of_lines::list` meets its contract. The loop's invariant: the rows so far, and what the rest of the piece still gives.
use Prim.Native.Nat.{◌-◌}
use lib.ListN.{length}
use Rattle.listing_of_lines.specs.Pages.{rows_in}
use Rattle.listing_of_lines.proofs.PageLaws.{Holds}
use Rattle.listing_of_lines.proofs.list.Given as goal

abbrev pub invariant-loop-taken : goal.invariant-loop-taken
invariant-loop-taken l =
    Holds (rows_in (length l.initial.out) l.initial.next l.piece) l.piece l.initial.out l.out l.next l.taken l.used

abbrev pub decreases-loop-taken : goal.decreases-loop-taken
decreases-loop-taken l = length l.piece - l.taken
