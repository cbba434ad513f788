-- `calendar::month_starts::no_row` meets its contract: no year of the calendar stands behind all rows.
use Rattle.calendar_rules.proofs.TableRows.{no_year_behind}
use Rattle.calendar.proofs.month_starts.no_row.Goals as goal

pub returns : goal.returns
returns c = λ from to. absurd (no_year_behind _ c.requires from to)
