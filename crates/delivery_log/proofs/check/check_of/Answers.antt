-- `delivery_log::check::check_of` meets its contract. The loop's invariant: the sum of the first bytes, at most 255 · 510 for each.
use mathlib.Core.Path.{ap, ◌∙◌}
use Prim.Native.Nat.{◌+◌, ◌*◌, ◌%◌}
use native.Mathlib.Omega.{arith}
use lib.Seq.{take_all}
use Rattle.log_rules.specs.Check.{weighed, modulus, check_of}
use Rattle.log_rules.proofs.CheckLaws.{weighed_next, weight_small}
use Rattle.delivery_log.proofs.check.check_of.Goals as goal

pub loop-at-preserved : goal.loop-at-preserved
loop-at-preserved c =
    let l = c.loop-at in
    let next = weighed_next c.args.body.now l.at (omega arith) in
    let byte = ap (λ b. b * (l.at + 1)) c.from.ensures in
    let small = weight_small c.from.result (l.at + 1) (omega arith) (omega arith) in
    (omega (arith, next, byte, l.invariant.0), omega (arith, small, l.invariant.1))

pub returns : goal.returns
unfolding check_of
returns c =
    let body = c.args.body.now in
    ap (λ n. n % modulus) (c.loop-at.invariant.0 ∙ ap (weighed 1) (take_all c.loop-at.at body (omega arith)))
