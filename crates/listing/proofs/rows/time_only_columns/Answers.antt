-- `listing::rows::time_only_columns` meets its contract.
use Rattle.std.proofs.Common.{arith}
use Rattle.std.proofs.lemmas.Grind.{common_steps}
use Rattle.listing_rules.specs.Listing.{time_only_columns}
use Rattle.listing.proofs.rows.time_only_columns.Goals as goal

pub returns : goal.returns
unfolding time_only_columns
returns c = grind (arith, common_steps)
