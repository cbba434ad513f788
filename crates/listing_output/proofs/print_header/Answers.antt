-- `listing_output::print_header` meets its contract.
use Rattle.refusals.specs.Refusals.{done}
use Rattle.listing_rules.specs.Listing.{header_row}
use Rattle.listing_output.proofs.SentLaws.{row_sent}
use Rattle.listing_output.proofs.print_header.Goals as goal

pub returns : goal.returns
returns g c = row_sent (done header_row) _ _ _ _ _ _ c.header-made.ensures c.print_made.ensures.told c.print_made.ensures.sent
