-- `delivery_log::add::seal` meets its contract.
use mathlib.Core.Path.{sym, ◌∙◌}
use native.Mathlib.Omega.{arith}
use lib.Seq.{length-take-le}
use Rattle.log_rules.specs.Block.{check_place}
use Rattle.log_rules.proofs.SealLaws.{laid}
use Rattle.delivery_log.proofs.add.seal.Goals as goal

pub slice_bounds-check_of-end-2 : goal.slice_bounds-check_of-end-2
slice_bounds-check_of-end-2 c = sym (length-take-le check_place c.args.block.now (omega arith))

pub returns : goal.returns
returns c = laid c.args.block.now c.requires _ _ c.check_of-check.ensures (c.copy_from_slice.ensures.after ∙ c.to_le_bytes.ensures)
