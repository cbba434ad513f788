-- `listing::rows::refused_row` meets its contract.
use Rattle.std.proofs.Common.{arith}
use Rattle.std.proofs.lemmas.Grind.{common_steps}
use Rattle.listing_rules.specs.Listing.{refused_row}
use Rattle.listing.proofs.rows.refused_row.Goals as goal

pub returns : goal.returns
unfolding refused_row
returns c = grind (arith, common_steps)
