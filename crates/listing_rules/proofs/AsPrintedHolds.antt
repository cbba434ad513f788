-- The listings, of a line and of a log, are as they are printed, computed from the definitions. Assumes nothing.
use mathlib.Core.Path.{refl}
use Rattle.refusals.specs.Refusals.{unless}
use Rattle.calendar_rules.specs.Calendar.{is_leap, month_length, month_in_range, date_in_range, day_exists, month_start, day_of}
use Rattle.calendar_rules.specs.TimeOfDay.{time_in_range}
use Rattle.record_rules.specs.Rule.{plain_utc, table_can_say, status_allowed, weekday_allowed, weekday_agrees, time_allowed, time_alone_allowed, time_alone_refusal, dated_refusal}
use Rattle.listing_rules.specs.Decimals.{decimal_within, decimal}
use Rattle.listing_rules.specs.Listing.{header_row, status_column, dated_columns, time_only_columns, record_row, refused_row, stray_row}
use Rattle.listing_rules.specs.LogRows.{log_header, slot_row, verify_header, good_row, bad_row, tail_row, bad_count}
use Rattle.listing_rules.specs.AsPrinted.{TheListingIsAsPrinted}
use Rattle.listing_rules.specs.LogAsPrinted.{TheLogsListingsAreAsPrinted}

pub listing_as_printed : TheListingIsAsPrinted
unfolding unless is_leap month_length month_in_range date_in_range day_exists month_start day_of time_in_range time_allowed time_alone_allowed time_alone_refusal
    plain_utc table_can_say status_allowed weekday_allowed weekday_agrees dated_refusal decimal_within decimal header_row status_column dated_columns
    time_only_columns record_row refused_row stray_row
listing_as_printed = (refl, refl, refl)

pub log_as_printed : TheLogsListingsAreAsPrinted
unfolding unless is_leap month_length month_in_range date_in_range day_exists month_start day_of time_in_range time_allowed time_alone_allowed time_alone_refusal
    plain_utc table_can_say status_allowed weekday_allowed weekday_agrees dated_refusal decimal_within decimal status_column dated_columns time_only_columns
    refused_row log_header slot_row verify_header good_row bad_row tail_row bad_count
log_as_printed = (refl, refl, refl)
