-- `listing_of_logs::read_slot` meets its contract.
use mathlib.Core.Path.{ap, ◌∙◌}
use mathlib.Core.Bool.{true}
use Rattle.telegram_rules.specs.Reading.{read_of}
use Rattle.listing_of_logs.proofs.RowLaws.{slot_part}
use Rattle.listing_of_logs.proofs.read_slot.Goals as goal

pub returns : goal.returns
returns c =
    let slot = c.args.slot.now in
    c.read.ensures ∙ ap (read_of true) (slot_part slot _ c.requires c.min-end.ensures)
