-- `listing::rows::dated_columns` meets its contract.
use Rattle.std.proofs.Common.{arith}
use Rattle.std.proofs.lemmas.Grind.{common_steps}
use Rattle.listing_rules.specs.Listing.{dated_columns}
use Rattle.listing.proofs.rows.dated_columns.Goals as goal

pub returns : goal.returns
unfolding dated_columns
returns c = grind (arith, common_steps)
