-- What documents 01 and 02 say of records in numbers holds, computed from the definitions. Assumes nothing.
use mathlib.Core.Path.{refl}
use Rattle.refusals.specs.Refusals.{unless}
use Rattle.refusals.proofs.Tables.{◌also◌}
use Rattle.calendar_rules.specs.Calendar.{is_leap, month_length, month_in_range, date_in_range, day_exists, date_refusal, month_start, day_of, day_number, seek, month_holding, date_at, day_after, is_last_day}
use Rattle.calendar_rules.specs.TimeOfDay.{time_in_range, time_refusal, seconds_of, second_of_day, time_after, is_last_second}
use Rattle.record_rules.specs.Season.{season_shift, to_utc}
use Rattle.record_rules.specs.Moment.{moment_of}
use Rattle.record_rules.specs.Sixty.{sixty_behind59, takes_sixty, up_to59}
use Rattle.record_rules.specs.Rule.{plain_utc, table_can_say, status_allowed, weekday_allowed, weekday_agrees, time_allowed, time_alone_allowed, time_alone_refusal, dated_refusal}
use Rattle.record_rules.specs.Next.{next_second_of}
use Rattle.record_rules.specs.Utc.{numbered_as}
use Rattle.record_rules.specs.AsPrinted.{RecordsAreAsPrinted, SixtiesAreAsPrinted}

pub as_printed_law : RecordsAreAsPrinted
unfolding unless numbered_as moment_of date_refusal day_number second_of_day time_allowed time_alone_allowed
    time_alone_refusal is_leap month_length month_in_range date_in_range day_exists month_start day_of time_in_range time_refusal
    seconds_of plain_utc table_can_say status_allowed weekday_allowed weekday_agrees dated_refusal season_shift to_utc
as_printed_law =
    refl also refl also refl also refl also refl also refl also refl also refl also refl also refl also refl also refl
    also refl also refl also refl also refl also refl also refl also refl also refl also refl also refl also refl also refl
    also refl also refl also refl also tt

pub sixties_as_printed : SixtiesAreAsPrinted
unfolding unless numbered_as moment_of date_refusal day_number second_of_day time_allowed time_alone_allowed time_alone_refusal is_leap month_length month_in_range
    date_in_range day_exists month_start day_of time_in_range time_refusal seconds_of plain_utc table_can_say status_allowed weekday_allowed weekday_agrees
    dated_refusal season_shift to_utc sixty_behind59 takes_sixty up_to59 seek month_holding date_at day_after is_last_day time_after is_last_second next_second_of
sixties_as_printed =
    refl also refl also refl also refl also refl also refl also refl also refl also refl also refl also refl also refl
    also refl also refl also refl also refl also refl also refl also refl also refl also refl also refl also refl also refl
    also refl also refl also refl also refl also refl also refl also refl also tt
