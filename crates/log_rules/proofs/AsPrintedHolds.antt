-- The log is as described in literal bytes, computed from the definitions. Assumes nothing.
use mathlib.Core.Path.{refl}
use Rattle.refusals.specs.Refusals.{unless}
use Rattle.places_rules.specs.Places.{is_decimal, is_capital, code_value}
use Rattle.calendar_rules.specs.Calendar.{is_leap, month_length, month_in_range, date_in_range, day_exists, month_start, day_of}
use Rattle.calendar_rules.specs.TimeOfDay.{time_in_range}
use Rattle.record_rules.specs.Rule.{plain_utc, table_can_say, status_allowed, weekday_allowed, weekday_agrees, time_allowed, time_alone_allowed, time_alone_refusal, dated_refusal}
use Rattle.layouts_rules.specs.Layouts.{places_of, layout_of}
use Rattle.layouts_rules.specs.Coding.{status_in6021, status_in5500}
use Rattle.telegram_rules.specs.Reading.{carried, body_refusal, read_in}
use Rattle.log_rules.specs.Check.{check_of}
use Rattle.log_rules.specs.Block.{filled, slot_of, body_of, sealed}
use Rattle.log_rules.specs.Good.{telegram_in, telegrams_of, reads_well, is_kept, is_good}
use Rattle.log_rules.specs.Region.{blocks_of}
use Rattle.log_rules.specs.Verify.{verify_of}
use Rattle.log_rules.specs.Add.{place_in, place_for}
use Rattle.log_rules.specs.ReadBack.{read_back_of}
use Rattle.log_rules.specs.AsPrinted.{TheLogIsAsPrinted}

pub log_as_printed : TheLogIsAsPrinted
unfolding unless is_decimal is_capital code_value is_leap month_length month_in_range date_in_range day_exists month_start day_of
    time_in_range time_allowed time_alone_allowed time_alone_refusal plain_utc table_can_say status_allowed weekday_allowed
    weekday_agrees dated_refusal places_of layout_of status_in6021 status_in5500 carried body_refusal read_in check_of filled
    slot_of body_of sealed telegram_in telegrams_of reads_well is_kept is_good blocks_of verify_of place_in place_for read_back_of
log_as_printed =
    record {
      two = refl;
      fifteen = refl;
      check = refl;
      judged = refl;
      placed = refl;
      own = refl;
      read_by_block = refl;
      read_by_slot = refl;
      verifies = refl;
    }
