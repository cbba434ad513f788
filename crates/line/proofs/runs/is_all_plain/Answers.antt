-- The loop's invariant: what was seen and what is left make the whole.
use Rattle.std.proofs.Common.{◌+◌, true, ◌&&◌, drop, refl, ap, ◌∙◌, arith}
use mathlib.Core.Bool.{and_assoc, and-true}
use Rattle.line_rules.specs.Line.{all_plain}
use Rattle.line.proofs.Forms.{seen_on, seen_all}
use Rattle.line.proofs.runs.is_all_plain.Goals as goal

pub loop-byte-init : goal.loop-byte-init
loop-byte-init c = refl

pub loop-byte-preserved : goal.loop-byte-preserved
loop-byte-preserved c =
    ap (λ t. (c.loop-byte.plain && t) && all_plain (drop (c.loop-byte.byte-index + 1) c.args.bytes.now)) c.is_plain-plain.ensures
    ∙ seen_on all_plain _ ◌&&◌ true refl (λ byte bytes. refl) and_assoc and-true c.args.bytes.now c.loop-byte.byte-index c.loop-byte.plain c.loop-byte.invariant (omega arith)

pub returns : goal.returns
returns c = seen_all all_plain _ ◌&&◌ true refl (λ byte bytes. refl) and_assoc and-true c.args.bytes.now c.loop-byte.byte-index c.loop-byte.plain c.loop-byte.invariant (omega arith)
