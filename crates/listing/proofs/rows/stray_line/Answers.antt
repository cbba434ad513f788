-- `listing::rows::stray_line` meets its contract.
use Rattle.std.proofs.Common.{arith}
use Rattle.std.proofs.lemmas.Grind.{common_steps}
use Rattle.listing_rules.specs.Listing.{stray_row}
use Rattle.listing.proofs.rows.stray_line.Goals as goal

pub returns : goal.returns
unfolding stray_row
returns c = grind (arith, common_steps)
