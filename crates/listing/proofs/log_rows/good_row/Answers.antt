-- `listing::log_rows::good_row` meets its contract.
use Rattle.std.proofs.Common.{arith}
use Rattle.std.proofs.lemmas.Grind.{common_steps}
use Rattle.listing_rules.specs.LogRows.{good_row}
use Rattle.listing.proofs.log_rows.good_row.Goals as goal

pub returns : goal.returns
unfolding good_row
returns c = grind (arith, common_steps)
