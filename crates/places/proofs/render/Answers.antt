-- `places::render` meets its contract.
use mathlib.Core.Path.{◌∙◌, ap₂}
use native.Mathlib.Omega.{arith}
use lib.ListN.{set}
use Rattle.places_rules.proofs.Rendering.{laid_none, laid_next, laid_all}
use Rattle.places.proofs.render.Goals as goal

pub loop-at-init : goal.loop-at-init
loop-at-init c = laid_none c.args.row.now c.args.digits.now c.args.out.now

pub loop-at-preserved : goal.loop-at-preserved
loop-at-preserved c =
    let args = c.args in
    ap₂ (λ o v. set o c.loop-at.at v) c.loop-at.invariant c.byte_at.ensures
    ∙ laid_next args.row.now args.digits.now args.out.now c.loop-at.at (omega arith) (omega arith)

pub returns : goal.returns
returns c =
    let args = c.args in
    c.loop-at.invariant ∙ laid_all args.row.now args.digits.now args.out.now c.loop-at.at (omega arith)
