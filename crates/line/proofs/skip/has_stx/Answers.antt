-- The loop's invariant: what was found and what is left make the whole.
use Rattle.std.proofs.Common.{false, ◌||◌, refl, arith}
use mathlib.Core.Bool.{or_assoc, or-false}
use Rattle.line_rules.specs.Runs.{has_stx}
use Rattle.line.proofs.Forms.{seen_on, seen_all}
use Rattle.line.proofs.skip.has_stx.Goals as goal

pub loop-byte-init : goal.loop-byte-init
loop-byte-init c = refl

pub loop-byte-preserved : goal.loop-byte-preserved
loop-byte-preserved c = seen_on has_stx _ ◌||◌ false refl (λ byte bytes. refl) or_assoc or-false c.args.bytes.now c.loop-byte.byte-index c.loop-byte.found c.loop-byte.invariant (omega arith)

pub returns : goal.returns
returns c = seen_all has_stx _ ◌||◌ false refl (λ byte bytes. refl) or_assoc or-false c.args.bytes.now c.loop-byte.byte-index c.loop-byte.found c.loop-byte.invariant (omega arith)
