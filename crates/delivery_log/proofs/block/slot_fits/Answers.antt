-- `delivery_log::block::slot_fits` meets its contract.
use mathlib.Core.Path.{sym, ◌∙◌}
use Rattle.log_rules.proofs.SlotLaws.{other_size, long_telegram, by_size}
use Rattle.delivery_log.proofs.block.slot_fits.Goals as goal

pub returns-then-slot-ne-SLOT_SIZE : goal.returns-then-slot-ne-SLOT_SIZE
returns-then-slot-ne-SLOT_SIZE c = sym (other_size c.args.slot.now c.if-slot-ne-SLOT_SIZE.true)

pub returns-then-length-ge-SLOT_SIZE : goal.returns-then-length-ge-SLOT_SIZE
returns-then-length-ge-SLOT_SIZE c =
    sym (long_telegram c.args.slot.now c.if-slot-ne-SLOT_SIZE.false c.if-length-ge-SLOT_SIZE.true)

pub returns-then-not-reads_well : goal.returns-then-not-reads_well
returns-then-not-reads_well c =
    let slot = c.args.slot.now in
    let bad = sym c.reads_well.ensures ∙ c.if-not-reads_well.true in
    sym (by_size slot c.if-slot-ne-SLOT_SIZE.false c.if-length-ge-SLOT_SIZE.false ∙ rw bad)

pub returns : goal.returns
returns c =
    let slot = c.args.slot.now in
    let size = c.if-slot-ne-SLOT_SIZE.false in
    let good = sym c.reads_well.ensures ∙ c.if-not-reads_well.false in
    c.is_zero.ensures ∙ sym (by_size slot size c.if-length-ge-SLOT_SIZE.false ∙ rw good)
