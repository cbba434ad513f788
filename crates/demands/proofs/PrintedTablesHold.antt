-- All that is printed holds, by the theorem of each table. Assumes nothing.
use Rattle.refusals.proofs.NumbersAsPrintedHold as numbers
use Rattle.layouts_rules.proofs.AsPrintedHolds as layouts
use Rattle.telegram_rules.proofs.AsPrintedHolds as telegram
use Rattle.trailer_rules.proofs.AsPrintedHolds as trailer
use Rattle.telegram_rules.proofs.OrderAsPrintedHolds.{orders_as_printed}
use Rattle.record_rules.proofs.AsPrintedHolds as records
use Rattle.record_rules.proofs.LastSixtyHolds.{last_as_printed}
use Rattle.calendar_rules.proofs.AsPrintedHolds as calendar
use Rattle.clock.proofs.AsPrintedHolds as clock
use Rattle.clock.proofs.RunLaws.{last_as_printed as last_step_as_printed}
use Rattle.board_rules.proofs.AsPrintedHolds as board
use Rattle.board_rules.proofs.AsPrinted6038Holds.{of_6038_as_printed}
use Rattle.listing_rules.proofs.AsPrintedHolds as listing
use Rattle.listing_of_lines.proofs.AsPrintedHolds as pages
use Rattle.leitch_rules.proofs.AsPrintedHolds as leitch
use Rattle.leitch_rules.proofs.Spelled.{every_as_printed}
use Rattle.requests.proofs.AsPrintedHolds as requests
use Rattle.log_rules.proofs.AsPrintedHolds as log
use Rattle.listing_of_logs.proofs.AsPrintedHolds as logpages
use Rattle.demands.specs.PrintedTables.{AllIsAsPrinted}
use Rattle.demands.proofs.BoundaryHolds.{boundary_table_law}

pub all_is_as_printed : AllIsAsPrinted
all_is_as_printed = (
  numbers.as_printed_law,
  layouts.as_printed_law,
  records.as_printed_law,
  calendar.month_starts_as_printed,
  calendar.calendar_as_printed,
  calendar.the_months_of_every_year,
  clock.as_printed_law,
  board.of_6036_as_printed,
  listing.listing_as_printed,
  pages.as_printed_law,
  boundary_table_law,
  calendar.days_of_the_year_as_printed,
  leitch.as_printed_law,
  every_as_printed,
  requests.requests_as_printed,
  records.sixties_as_printed,
  last_as_printed,
  last_step_as_printed,
  log.log_as_printed,
  listing.log_as_printed,
  logpages.as_printed_law,
  telegram.as_printed_law,
  of_6038_as_printed,
  trailer.as_printed_law,
  orders_as_printed,
)
