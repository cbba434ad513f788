-- `trailer::exchange` meets its contract.
use mathlib.Core.Path.{sym, ◌∙◌}
use native.Mathlib.Numerals.{add-one}
use native.Mathlib.Omega.{arith}
use Rattle.trailer_rules.proofs.TrailerLaws.{exchange_stores, exchange_none}
use Rattle.trailer.proofs.exchange.Goals as goal

pub returns-then-at-saturating_sub : goal.returns-then-at-saturating_sub
returns-then-at-saturating_sub c =
    let at = c.args.at in
    c.swap.ensures.by_index.3 0 ∙ rw (add-one at) (exchange_stores at c.args.bytes.now (omega arith))

pub returns-else-at-saturating_sub : goal.returns-else-at-saturating_sub
returns-else-at-saturating_sub c = sym (exchange_none c.args.at c.args.bytes.now (omega arith))
