-- The loop's invariant: what was seen and what is left make the whole.
use Rattle.std.proofs.Common.{true, ◌&&◌, refl, arith}
use mathlib.Core.Bool.{and_assoc, and-true}
use Rattle.line.specs.Readers.{all_zero}
use Rattle.line.proofs.Forms.{seen_on, seen_all}
use Rattle.line.proofs.is_zero.Goals as goal

pub loop-byte-init : goal.loop-byte-init
loop-byte-init c = refl

pub loop-byte-preserved : goal.loop-byte-preserved
loop-byte-preserved c = seen_on all_zero _ ◌&&◌ true refl (λ byte bytes. refl) and_assoc and-true c.args.held.now c.loop-byte.byte-index c.loop-byte.zeros c.loop-byte.invariant (omega arith)

pub returns : goal.returns
returns c = seen_all all_zero _ ◌&&◌ true refl (λ byte bytes. refl) and_assoc and-true c.args.held.now c.loop-byte.byte-index c.loop-byte.zeros c.loop-byte.invariant (omega arith)
