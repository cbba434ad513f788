-- The tables and examples as documents 01 and 02 and the makers' manuals print them, in the documents' order. Each is stated in
-- literal rows in the crate whose definitions it pins (in specs/, in a file with AsPrinted in its name), so that a swap made in
-- definition and code together is refused there. This page names them all, to be held beside the documents.
use Rattle.refusals.specs.NumbersAsPrinted.{TheNumbersAreAsPrinted}
use Rattle.layouts_rules.specs.AsPrinted.{TheTablesAreAsPrinted}
use Rattle.telegram_rules.specs.AsPrinted.{WritesAreAsPrinted}
use Rattle.trailer_rules.specs.AsPrinted.{TrailersAreAsPrinted}
use Rattle.telegram_rules.specs.OrderAsPrinted.{OrdersAreAsPrinted}
use Rattle.record_rules.specs.AsPrinted.{RecordsAreAsPrinted, SixtiesAreAsPrinted, TheLastSixtyIsAsPrinted}
use Rattle.calendar_rules.specs.AsPrinted.{TheMonthStartsAreAsPrinted, TheCalendarIsAsPrinted, TheMonthsOfEveryYear, TheDaysOfTheYearAreAsPrinted}
use Rattle.clock.specs.AsPrinted.{StepsAreAsPrinted, TheLastSixtyIsAsPrinted as TheLastStepIsAsPrinted}
use Rattle.board_rules.specs.AsPrinted.{The6036IsAsPrinted}
use Rattle.board_rules.specs.AsPrinted6038.{The6038IsAsPrinted}
use Rattle.listing_rules.specs.AsPrinted.{TheListingIsAsPrinted}
use Rattle.listing_of_lines.specs.AsPrinted.{TheWholeListingIsAsPrinted}
use Rattle.leitch_rules.specs.AsPrinted.{TheReplyIsAsPrinted, EveryReplyIsAsPrinted}
use Rattle.requests.specs.AsPrinted.{RequestsAreAsPrinted}
use Rattle.log_rules.specs.AsPrinted.{TheLogIsAsPrinted}
use Rattle.listing_rules.specs.LogAsPrinted.{TheLogsListingsAreAsPrinted}
use Rattle.listing_of_logs.specs.AsPrinted.{TheListingsOfALogAreAsPrinted}
use Rattle.demands.specs.Boundary.{TheBoundaryTableHolds}

abbrev pub AllIsAsPrinted : Type 0
AllIsAsPrinted =
    -- "Refusal numbers": each refusal with its number
    TheNumbersAreAsPrinted
    -- "The seven layouts": the status and weekday characters of each table, a telegram of each layout, the two-digit years
    × TheTablesAreAsPrinted
    -- "The seven layouts", "Calendar, UTC and the station clock": what a record may say, its count and its UTC seconds in each season
    × RecordsAreAsPrinted
    -- "Calendar": 1,200 month starts, 0, 31, 60 and 36,494; printed dates, times, the lengths of the months of every year
    × TheMonthStartsAreAsPrinted
    × TheCalendarIsAsPrinted
    × TheMonthsOfEveryYear
    -- "The station clock": steps
    × StepsAreAsPrinted
    -- "6036 parameter byte": every row of the switch tables
    × The6036IsAsPrinted
    -- "Listing, whole": the header, the kinds, the words; then the whole example and the empty input
    × TheListingIsAsPrinted
    × TheWholeListingIsAsPrinted
    -- "Boundary table"
    × TheBoundaryTableHolds
    -- document 02, a: the day of the year, at both ends of each month of a common and of a leap year
    × TheDaysOfTheYearAreAsPrinted
    -- document 02, a, and 000, 6.5: the 31 characters of a reply, each with the values listed for it; of any reply that is read
    × TheReplyIsAsPrinted
    × EveryReplyIsAsPrinted
    -- document 02, a, and 000, 6: the request letters, and bytes that are none
    × RequestsAreAsPrinted
    -- document 02, b: second 60 at the ends of UTC months, beside them, and at the calendar's end
    × SixtiesAreAsPrinted
    × TheLastSixtyIsAsPrinted
    × TheLastStepIsAsPrinted
    -- document 02, c: blocks in literal bytes, their checks, blocks that break one rule each; where adds go, what is read back and
    -- verified; the rows of a log; a small file listed whole
    × TheLogIsAsPrinted
    × TheLogsListingsAreAsPrinted
    × TheListingsOfALogAreAsPrinted
    -- "Refusal numbers", and document 02, e: what each setting writes, and what is written without one; buffers of each length around 18
    × WritesAreAsPrinted
    -- document 02, f, and 003, 1.2: every row of the 6038's switch tables, hex 20; a telegram of each layout written and read in both orders
    × The6038IsAsPrinted
    × TrailersAreAsPrinted
    × OrdersAreAsPrinted
