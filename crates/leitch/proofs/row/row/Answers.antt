-- `leitch::row::row` meets its contract: the row is the manual's, as antt computes it.
use mathlib.Core.Path.{refl}
use Rattle.leitch_rules.specs.Row.{row_numbers, reply_row}
use Rattle.leitch.proofs.row.row.Goals as goal

pub returns : goal.returns
unfolding row_numbers reply_row
returns c = refl
