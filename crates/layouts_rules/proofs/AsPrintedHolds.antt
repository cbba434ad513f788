-- The tables are as printed, computed from the definitions. Assumes nothing.
use mathlib.Core.Path.{refl}
use Rattle.refusals.specs.Refusals.{unless}
use Rattle.places_rules.specs.Places.{is_decimal, is_capital, code_value, code_character, render}
use Rattle.calendar_rules.specs.Calendar.{is_leap, month_length, month_in_range, date_in_range, day_exists, month_start, day_of}
use Rattle.calendar_rules.specs.TimeOfDay.{time_in_range}
use Rattle.record_rules.specs.Rule.{plain_utc, table_can_say, status_allowed, weekday_allowed, weekday_agrees, time_allowed, time_alone_allowed, time_alone_refusal, dated_refusal}
use Rattle.layouts_rules.specs.Layouts.{places_of, layout_of}
use Rattle.layouts_rules.specs.Coding.{status_in6021, status_out6021, status_in5500, status_out5500}
use Rattle.layouts_rules.specs.AsPrinted.{TheTablesAreAsPrinted}

pub as_printed_law : TheTablesAreAsPrinted
unfolding unless is_decimal is_capital code_value code_character render is_leap month_length month_in_range date_in_range day_exists
    month_start day_of time_in_range time_allowed time_alone_allowed time_alone_refusal plain_utc table_can_say status_allowed
    weekday_allowed weekday_agrees dated_refusal places_of layout_of status_in6021 status_out6021 status_in5500 status_out5500
as_printed_law =
    record {
      codes_of6021 = record { all_statuses = refl; all_weekdays = refl; read = refl; written = refl };
      codes_of2000 = record { all_statuses = refl; all_weekdays = refl; read = refl; written = refl };
      codes_of5500 = record { all_statuses = refl; all_weekdays = refl; read = refl; written = refl };
      codes_of5050 = record { all_statuses = refl; all_weekdays = refl; read = refl; written = refl };
      telegrams_read = refl;
      telegrams_written = refl;
    }
