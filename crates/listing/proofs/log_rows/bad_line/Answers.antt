-- `listing::log_rows::bad_line` meets its contract.
use Rattle.std.proofs.Common.{arith}
use Rattle.std.proofs.lemmas.Grind.{common_steps}
use Rattle.listing_rules.specs.LogRows.{bad_count}
use Rattle.listing.proofs.log_rows.bad_line.Goals as goal

pub returns : goal.returns
unfolding bad_count
returns c = grind (arith, common_steps)
