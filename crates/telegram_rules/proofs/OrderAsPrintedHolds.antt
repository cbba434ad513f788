-- Telegrams of each layout are written and read in both orders as printed, computed from the definitions. Assumes nothing.
use mathlib.Core.Path.{refl}
use Rattle.refusals.specs.Refusals.{unless}
use Rattle.lent_buffer.specs.Laying.{within}
use Rattle.places_rules.specs.Places.{is_decimal, is_capital, code_value, code_character, render}
use Rattle.calendar_rules.specs.Calendar.{is_leap, month_length, month_in_range, date_in_range, day_exists, month_start, day_of}
use Rattle.calendar_rules.specs.TimeOfDay.{time_in_range}
use Rattle.record_rules.specs.Rule.{plain_utc, table_can_say, status_allowed, weekday_allowed, weekday_agrees, time_allowed, time_alone_allowed, time_alone_refusal, dated_refusal}
use Rattle.layouts_rules.specs.Layouts.{places_of, layout_of}
use Rattle.layouts_rules.specs.Coding.{status_in6021, status_in5500, status_out6021, status_out5500}
use Rattle.telegram_rules.specs.Reading.{carried, body_refusal, read_in}
use Rattle.telegram_rules.specs.Writing.{body_bytes, telegram_for}
use Rattle.telegram_rules.specs.OrderAsPrinted.{OrdersAreAsPrinted}

pub orders_as_printed : OrdersAreAsPrinted
unfolding unless within is_decimal is_capital code_value code_character render is_leap month_length month_in_range date_in_range day_exists month_start day_of
    time_in_range time_allowed time_alone_allowed time_alone_refusal plain_utc table_can_say status_allowed weekday_allowed weekday_agrees dated_refusal places_of
    layout_of status_in6021 status_in5500 status_out6021 status_out5500 carried body_refusal read_in body_bytes telegram_for
orders_as_printed =
    record {
      written_printed = (refl, refl);
      written_exchanged = (refl, refl);
      written_not_named = (refl, refl);
      read_not_named = ((refl, refl), (refl, refl));
      read_printed = ((refl, refl), (refl, refl));
      read_exchanged = ((refl, refl), (refl, refl));
      two_lf = ((refl, refl), (refl, refl));
      two_cr = ((refl, refl), (refl, refl));
      two_spaces = ((refl, refl), (refl, refl));
    }
