-- `layouts::rows::row_of` meets its contract: each row is the table's, as antt computes it.
use Rattle.layouts_rules.specs.Layouts.{places_of, row_numbers}
use Rattle.layouts.proofs.rows.row_of.Goals as goal

pub returns-in-L6021 : goal.returns-in-L6021
unfolding places_of row_numbers
returns-in-L6021 c = rw (c.in-Dated.is, c.in-L6021.is)

pub returns-in-L2000 : goal.returns-in-L2000
unfolding places_of row_numbers
returns-in-L2000 c = rw (c.in-Dated.is, c.in-L2000.is)

pub returns-in-L5500 : goal.returns-in-L5500
unfolding places_of row_numbers
returns-in-L5500 c = rw (c.in-Dated.is, c.in-L5500.is)

pub returns-in-L5050 : goal.returns-in-L5050
unfolding places_of row_numbers
returns-in-L5050 c = rw (c.in-Dated.is, c.in-L5050.is)

pub returns-in-T6021 : goal.returns-in-T6021
unfolding places_of row_numbers
returns-in-T6021 c = rw (c.in-TimeOnly.is, c.in-T6021.is)

pub returns-in-T5500 : goal.returns-in-T5500
unfolding places_of row_numbers
returns-in-T5500 c = rw (c.in-TimeOnly.is, c.in-T5500.is)

pub returns-in-T5050 : goal.returns-in-T5050
unfolding places_of row_numbers
returns-in-T5050 c = rw (c.in-TimeOnly.is, c.in-T5050.is)
