-- `listing::log_rows::verify_header` meets its contract.
use Rattle.listing_rules.specs.LogRows.{verify_header}
use Rattle.listing.proofs.log_rows.verify_header.Goals as goal

pub returns : goal.returns
unfolding verify_header
returns c = c.lay.ensures
