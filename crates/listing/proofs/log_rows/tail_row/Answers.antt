-- `listing::log_rows::tail_row` meets its contract.
use Rattle.std.proofs.Common.{arith}
use Rattle.std.proofs.lemmas.Grind.{common_steps}
use Rattle.listing_rules.specs.LogRows.{tail_row}
use Rattle.listing.proofs.log_rows.tail_row.Goals as goal

pub returns : goal.returns
unfolding tail_row
returns c = grind (arith, common_steps)
