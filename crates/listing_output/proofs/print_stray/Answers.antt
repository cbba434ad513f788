-- `listing_output::print_stray` meets its contract.
use Rattle.refusals.specs.Refusals.{done}
use Rattle.listing_rules.specs.Listing.{stray_row}
use Rattle.listing_output.proofs.SentLaws.{row_sent}
use Rattle.listing_output.proofs.print_stray.Goals as goal

pub returns : goal.returns
returns g c = row_sent (done (stray_row c.args.stray)) _ _ _ _ _ _ c.stray_line-made.ensures c.print_made.ensures.told c.print_made.ensures.sent
