-- `listing_of_logs::offset_of` meets its contract.
use native.Mathlib.Omega.{arith}
use Rattle.listing_of_logs.specs.LogPages.{offset_of}
use Rattle.listing_of_logs.proofs.offset_of.Goals as goal

pub returns : goal.returns
unfolding offset_of
returns c = omega arith
