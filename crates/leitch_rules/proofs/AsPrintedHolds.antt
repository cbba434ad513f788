-- The reply is as printed, computed from the definitions. Assumes nothing.
use mathlib.Core.Path.{refl}
use Rattle.refusals.specs.Refusals.{unless}
use Rattle.places_rules.specs.Places.{is_decimal, is_capital, code_value, code_character, render}
use Rattle.calendar_rules.specs.Calendar.{is_leap, month_length, month_in_range, date_in_range, day_exists, date_refusal, month_start, day_of}
use Rattle.calendar_rules.specs.DayOfYear.{days_of_months, year_day, day_of_year}
use Rattle.calendar_rules.specs.TimeOfDay.{time_in_range}
use Rattle.leitch_rules.specs.Row.{reply_row}
use Rattle.leitch_rules.specs.Rule.{status_listed, weekday_listed, all_in_range, weekday_agrees, fields_refusal, day_agrees, day_refusal}
use Rattle.leitch_rules.specs.Reading.{carried, reply_refusal, reply_of}
use Rattle.leitch_rules.specs.Writing.{reply_bytes, written}
use Rattle.leitch_rules.specs.AsPrinted.{TheReplyIsAsPrinted}

pub as_printed_law : TheReplyIsAsPrinted
unfolding unless is_decimal is_capital code_value code_character render is_leap month_length month_in_range date_in_range day_exists
    date_refusal month_start day_of days_of_months year_day day_of_year time_in_range reply_row status_listed weekday_listed
    all_in_range weekday_agrees fields_refusal day_agrees day_refusal carried reply_refusal reply_of reply_bytes written
as_printed_law =
    record {
      numbered = refl;
      taken = refl;
      replies_read = refl;
      replies_written = refl;
      replies_say = refl;
      replies_refused = refl;
      writes_refused = refl;
    }
