-- `delivery_log::block::check_fits` meets its contract.
use mathlib.Core.Path.{sym}
use native.Mathlib.Omega.{arith}
use lib.Seq.{length-take-le}
use Rattle.log_rules.specs.Block.{check_place}
use Rattle.log_rules.proofs.SealLaws.{compared}
use Rattle.delivery_log.proofs.block.check_fits.Goals as goal

pub slice_bounds-check_of-end : goal.slice_bounds-check_of-end
slice_bounds-check_of-end c = sym (length-take-le check_place c.args.block.now (omega arith))

pub returns : goal.returns
returns c = compared c.args.block.now c.requires _ _ (omega (arith, c.type_inv.block 510)) c.from_le_bytes-stored.ensures c.check_of.ensures
