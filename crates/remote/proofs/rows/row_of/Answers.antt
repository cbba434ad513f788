-- `remote::rows::row_of` meets its contract: each row is the table's, as antt computes it.
use Rattle.remote_rules.specs.Rows.{inner_row, row_of, row_numbers}
use Rattle.remote.proofs.rows.row_of.Goals as goal

pub returns-in-Tim : goal.returns-in-Tim
unfolding row_numbers row_of inner_row
returns-in-Tim c = rw c.in-Tim.is

pub returns-in-TimAsked : goal.returns-in-TimAsked
unfolding row_numbers row_of inner_row
returns-in-TimAsked c = rw c.in-TimAsked.is

pub returns-in-DifPlus : goal.returns-in-DifPlus
unfolding row_numbers row_of inner_row
returns-in-DifPlus c = rw c.in-DifPlus.is

pub returns-in-DifMinus : goal.returns-in-DifMinus
unfolding row_numbers row_of inner_row
returns-in-DifMinus c = rw c.in-DifMinus.is

pub returns-in-DifAsked : goal.returns-in-DifAsked
unfolding row_numbers row_of inner_row
returns-in-DifAsked c = rw c.in-DifAsked.is

pub returns-in-PosWestNorth : goal.returns-in-PosWestNorth
unfolding row_numbers row_of inner_row
returns-in-PosWestNorth c = rw c.in-PosWestNorth.is

pub returns-in-PosWestSouth : goal.returns-in-PosWestSouth
unfolding row_numbers row_of inner_row
returns-in-PosWestSouth c = rw c.in-PosWestSouth.is

pub returns-in-PosEastNorth : goal.returns-in-PosEastNorth
unfolding row_numbers row_of inner_row
returns-in-PosEastNorth c = rw c.in-PosEastNorth.is

pub returns-in-PosEastSouth : goal.returns-in-PosEastSouth
unfolding row_numbers row_of inner_row
returns-in-PosEastSouth c = rw c.in-PosEastSouth.is

pub returns-in-PosAsked : goal.returns-in-PosAsked
unfolding row_numbers row_of inner_row
returns-in-PosAsked c = rw c.in-PosAsked.is
