-- What a write makes is as printed, computed from the definitions. Assumes nothing.
use mathlib.Core.Path.{refl}
use Rattle.refusals.specs.Refusals.{unless}
use Rattle.lent_buffer.specs.Laying.{within}
use Rattle.places_rules.specs.Places.{code_character, render}
use Rattle.calendar_rules.specs.Calendar.{is_leap, month_length, month_in_range, date_in_range, day_exists, month_start, day_of}
use Rattle.calendar_rules.specs.TimeOfDay.{time_in_range, time_after, is_last_second}
use Rattle.record_rules.specs.Sixty.{sixty_behind59, takes_sixty, up_to59}
use Rattle.record_rules.specs.Rule.{plain_utc, table_can_say, status_allowed, weekday_allowed, weekday_agrees, time_allowed, time_alone_allowed, time_alone_refusal, dated_refusal}
use Rattle.record_rules.specs.Next.{next_second_of}
use Rattle.layouts_rules.specs.Layouts.{places_of}
use Rattle.layouts_rules.specs.Coding.{status_out6021}
use Rattle.telegram_rules.specs.Writing.{body_bytes, telegram_for}
use Rattle.telegram_rules.specs.AsPrinted.{WritesAreAsPrinted}

pub as_printed_law : WritesAreAsPrinted
unfolding unless within code_character render is_leap month_length month_in_range date_in_range day_exists month_start day_of time_in_range time_after is_last_second
    sixty_behind59 takes_sixty up_to59 time_allowed time_alone_allowed time_alone_refusal plain_utc table_can_say status_allowed weekday_allowed weekday_agrees
    dated_refusal next_second_of places_of status_out6021 body_bytes telegram_for
as_printed_law = record { settings = refl; records = refl; rooms = refl; no_room = refl; short_room = refl; room = refl }
