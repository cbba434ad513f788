-- `listing::rows::status_column` meets its contract.
use Rattle.std.proofs.Common.{arith}
use Rattle.std.proofs.lemmas.Grind.{common_steps}
use Rattle.listing_rules.specs.Listing.{status_column}
use Rattle.listing.proofs.rows.status_column.Goals as goal

pub returns-clause-said : goal.returns-clause-said
unfolding status_column
returns-clause-said c = grind (arith, common_steps)
