-- What documents 01 and 02 say of the station clock holds of literal records, computed from the definitions. Assumes nothing.
use mathlib.Core.Path.{refl}
use Rattle.refusals.specs.Refusals.{unless}
use Rattle.calendar_rules.specs.Calendar.{is_leap, month_length, month_in_range, date_in_range, day_exists, date_refusal, month_start, day_of, day_number, seek, month_holding, date_at, is_last_day, day_after}
use Rattle.calendar_rules.specs.TimeOfDay.{time_in_range, time_refusal, seconds_of, second_of_day, is_last_second, time_after}
use Rattle.record_rules.specs.Season.{season_shift, to_utc}
use Rattle.record_rules.specs.Moment.{moment_of}
use Rattle.record_rules.specs.Sixty.{sixty_behind59, takes_sixty, up_to59}
use Rattle.record_rules.specs.Rule.{status_allowed, weekday_allowed, weekday_agrees, time_allowed, time_alone_allowed, time_alone_refusal, dated_refusal}
use Rattle.record_rules.specs.Next.{next_second_of}
use Rattle.clock.specs.Stepping.{clock_second, step_of}
use Rattle.clock.specs.AsPrinted.{StepsAreAsPrinted}

pub as_printed_law : StepsAreAsPrinted
unfolding unless is_leap month_length month_in_range date_in_range day_exists date_refusal month_start day_of day_number seek month_holding date_at is_last_day
    day_after time_in_range time_refusal seconds_of second_of_day is_last_second time_after season_shift to_utc moment_of sixty_behind59 takes_sixty up_to59
    status_allowed weekday_allowed weekday_agrees time_allowed time_alone_allowed time_alone_refusal dated_refusal next_second_of clock_second step_of
as_printed_law =
    (refl, (refl, (refl, (refl, (refl, (refl, (refl, (refl, (refl, (refl, (refl, tt)))))))))))
