-- The rows so far have gone out, and the rest of the piece leads to the whole piece's reader and rows.
use Rattle.std.proofs.Common.{ℕ, ◌-◌, ◌≤◌, List, length, drop}
use Rattle.std.specs.Io.KnownBytes.{Appends}
use Rattle.listing_output.specs.Printing.{after_piece, piece_rows}
use Rattle.listing_output.proofs.PieceLaws.{Follows}
use Rattle.listing_output.proofs.print_piece.Given as goal

abbrev pub invariant-loop-at : goal.invariant-loop-at
invariant-loop-at g l = record {
  in_piece : l.at ≤ length l.piece;
  laid : List ℕ;
  sent : Appends (g.W.Write.contents l.initial.to) (g.W.Write.contents l.to) laid;
  follows : Follows (after_piece l.reader l.piece) l.next (piece_rows l.reader l.piece) laid (drop l.at l.piece);
}

abbrev pub decreases-loop-at : goal.decreases-loop-at
decreases-loop-at g l = length l.piece - l.at
