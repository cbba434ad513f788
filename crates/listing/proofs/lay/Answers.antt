-- `listing::lay` meets its contract.
use Rattle.std.proofs.Common.{arith}
use Rattle.std.proofs.lemmas.Grind.{common_steps}
use Rattle.lent_buffer.proofs.LayingLaws.{laid_short, laid_fits}
use Rattle.listing.proofs.lay.Goals as goal

pub returns-then-out-bytes : goal.returns-then-out-bytes
returns-then-out-bytes c = laid_short c.args.bytes.now c.args.out.now c.if-out-bytes.true

pub returns : goal.returns
returns c = grind (arith, common_steps, laid_fits c.args.bytes.now c.args.out.now c.if-out-bytes.false)
