-- `board::rate_at` meets its contract.
use mathlib.Core.Path.{◌∙◌}
use native.Mathlib.Nat.{one-mul}
use Rattle.board.proofs.rate_at.Goals as goal

pub returns : goal.returns
returns c =
    rw (c.weigh.ensures.0, c.weigh-2.ensures.0, c.weigh-3.ensures.0 ∙ one-mul _)
