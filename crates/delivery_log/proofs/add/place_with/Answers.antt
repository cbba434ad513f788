-- `delivery_log::add::place_with` meets its contract: a good block has a byte for its count.
use native.Mathlib.Omega.{arith}
use mathlib.Core.Path.{sym, ◌∙◌}
use Rattle.log_rules.proofs.BlockLaws.{good_length}
use Rattle.delivery_log.proofs.add.place_with.Goals as goal

pub bounds-block-480 : goal.bounds-block-480
bounds-block-480 c =
    let good = sym c.is_good.ensures ∙ c.if-not-is_good.false in
    omega (arith, good_length _ good)
