-- `line::pieces::use_up` meets its contract. The loop's invariant: the events so far, and what the rest of the piece still gives.
use Rattle.std.proofs.Common.{◌≡◌, ◌-◌, ◌≤◌, length, drop}
use Rattle.std.specs.Prelude.{map}
use Rattle.line.specs.Pieces.{room, passing, slot_as, passed_for}
use Rattle.line.proofs.PieceLaws.{behind, Empty}
use Rattle.line.proofs.pieces.use_up.Given as goal

abbrev pub invariant-loop-count : goal.invariant-loop-count
invariant-loop-count l =
    (l.taken ≤ length l.piece) × (length l.events ≡ room) × Empty (map slot_as l.events) l.count
    × (passed_for (passing room l.initial.reader l.piece) ≡ behind (map slot_as l.events) l.count l.taken (passing (room - l.count) l.reader (drop l.taken l.piece)))
