-- The listing of document 01's example, in either order, and of the empty input, is the printed one. Assumes nothing.
use mathlib.Core.Path.{refl}
use Rattle.refusals.specs.Refusals.{unless}
use Rattle.places_rules.specs.Places.{is_decimal, is_capital, code_value}
use Rattle.calendar_rules.specs.Calendar.{is_leap, month_length, month_in_range, date_in_range, day_exists, month_start, day_of}
use Rattle.calendar_rules.specs.TimeOfDay.{time_in_range}
use Rattle.record_rules.specs.Rule.{plain_utc, table_can_say, status_allowed, weekday_allowed, weekday_agrees, time_allowed, time_alone_allowed, time_alone_refusal, dated_refusal}
use Rattle.layouts_rules.specs.Layouts.{places_of, layout_of}
use Rattle.layouts_rules.specs.Coding.{status_in6021, status_in5500}
use Rattle.telegram_rules.specs.Reading.{carried, body_refusal, read_in}
use Rattle.listing_rules.specs.Decimals.{decimal, decimal_within}
use Rattle.listing_rules.specs.Listing.{header_row, dated_columns, record_row, refused_row, stray_row, status_column}
use Rattle.listing_of_lines.specs.Whole.{listing_in}
use Rattle.listing_of_lines.specs.AsPrinted.{TheWholeListingIsAsPrinted}

pub as_printed_law : TheWholeListingIsAsPrinted
unfolding unless is_decimal is_capital code_value is_leap month_length month_in_range date_in_range day_exists month_start day_of time_in_range time_allowed
    time_alone_allowed time_alone_refusal plain_utc table_can_say status_allowed weekday_allowed weekday_agrees dated_refusal places_of layout_of status_in6021
    status_in5500 carried body_refusal read_in decimal decimal_within header_row dated_columns record_row refused_row stray_row status_column listing_in
as_printed_law = (refl, refl, refl, refl, refl)
