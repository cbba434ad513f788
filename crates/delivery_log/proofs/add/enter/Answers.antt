-- `delivery_log::add::enter` meets its contract.
use mathlib.Core.Path.{◌∙◌}
use Prim.Native.Nat.{◌*◌, ◌-◌}
use native.Mathlib.Omega.{arith}
use lib.ListN.{length, drop, length-set, length-take, length-drop}
use Rattle.log_rules.specs.Block.{slot_size, count_place}
use Rattle.log_rules.proofs.BlockLaws.{reads_short, good_length}
use Rattle.log_rules.proofs.LayLaws.{back_length, sealed_again}
use Rattle.delivery_log.proofs.add.enter.Goals as goal

pub lay-requires : goal.lay-requires
lay-requires c =
    let block = c.args.block.now in
    let start = slot_size * c.args.slot in
    let short = reads_short c.args.telegram.now c.requires.3 in
    let size = length-take (length block - start) (drop start block) in
    (omega (arith, size, length-drop start block, short, c.requires.2, good_length block c.requires.0), omega (arith, short))

-- the block come back, with the telegram laid into it
pub bounds-block-480 : goal.bounds-block-480
bounds-block-480 c =
    let a = c.args in
    let given = c.requires in
    omega (arith, back_length a.block.now a.telegram.now given.0 (omega (arith, given.1, given.2)) given.3 a.slot c.lay.new.slot given.1 c.lay.ensures)

pub seal-requires : goal.seal-requires
seal-requires c =
    let a = c.args in
    let given = c.requires in
    length-set _ count_place _
    ∙ back_length a.block.now a.telegram.now given.0 (omega (arith, given.1, given.2)) given.3 a.slot c.lay.new.slot given.1 c.lay.ensures

pub returns : goal.returns
returns c =
    let a = c.args in
    let given = c.requires in
    c.seal.ensures
    ∙ sealed_again a.block.now a.telegram.now given.0 (omega (arith, given.1, given.2)) given.3 a.slot c.lay.new.slot given.1 c.lay.ensures
