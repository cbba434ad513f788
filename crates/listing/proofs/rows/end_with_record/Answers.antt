-- `listing::rows::end_with_record` meets its contract.
use Rattle.listing.proofs.rows.end_with_record.Goals as goal

pub returns : goal.returns
returns c = rw (c.columns.ensures) at c.lay.ensures
