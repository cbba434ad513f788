-- `places::render` meets its contract. The loop's invariant: the first `at` bytes are laid over the buffer.
use mathlib.Core.Path.{◌≡◌}
use Rattle.places_rules.proofs.Rendering.{laid}
use Rattle.places.proofs.render.Given as goal

abbrev pub invariant-loop-at : goal.invariant-loop-at
invariant-loop-at l = l.out ≡ laid l.row l.digits l.initial.out l.at
