-- No byte and no end changes a line's order. Assumes nothing.
use mathlib.Core.Path.{◌≡◌, refl}
use mathlib.Core.List.{List, [], ◌∷◌}
use Prim.Native.Nat.{ℕ}
use Rattle.line_rules.specs.Events.{line_after}
use Rattle.line_rules.specs.Sentences.{ALineKeepsItsOrder}
use Rattle.line_rules.specs.Line.{Line, Told, nothing, event, Feeding, stop_or, feed_of, told_by, step, start_of}

-- no byte changes it
stays_by : (told : Told) (start : ℕ) (next : Line) (on : Feeding) → on.line.order ≡ next.order → (stop_or told start next on).line.order ≡ next.order
stays_by nothing start next on later = later
stays_by (event outcome size) start next on later = refl

pub line_stays : (line : Line) (piece : List ℕ) → (feed_of line piece).line.order ≡ line.order
line_stays line [] = refl
line_stays line (byte ∷ piece) =
    stays_by (told_by line.order line.held byte) (start_of line) (step line byte) (feed_of (step line byte) piece) (line_stays (step line byte) piece)

after_stays : (line : Line) (piece : List ℕ) → (line_after line piece).order ≡ line.order
after_stays line [] = refl
after_stays line (byte ∷ piece) = after_stays (step line byte) piece

pub a_line_keeps_its_order : ALineKeepsItsOrder
a_line_keeps_its_order line piece = (line_stays line piece, after_stays line piece, refl)
