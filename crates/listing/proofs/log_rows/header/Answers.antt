-- `listing::log_rows::header` meets its contract.
use Rattle.listing_rules.specs.LogRows.{log_header}
use Rattle.listing.proofs.log_rows.header.Goals as goal

pub returns : goal.returns
unfolding log_header
returns c = c.lay.ensures
