-- `listing::rows::header` meets its contract.
use Rattle.listing_rules.specs.Listing.{header_row}
use Rattle.listing.proofs.rows.header.Goals as goal

pub returns : goal.returns
unfolding header_row
returns c = c.lay.ensures
