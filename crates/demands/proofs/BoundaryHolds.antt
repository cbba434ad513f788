-- The boundary table holds, computed from the definitions. Assumes nothing.
use mathlib.Core.Path.{refl}
use Rattle.refusals.specs.Refusals.{unless}
use Rattle.places_rules.specs.Places.{is_decimal, is_capital, code_value}
use Rattle.calendar_rules.specs.Calendar.{is_leap, month_length, month_in_range, date_in_range, day_exists, date_refusal, month_start, day_of, day_number}
use Rattle.calendar_rules.specs.TimeOfDay.{time_in_range, time_refusal, seconds_of, second_of_day}
use Rattle.record_rules.specs.Season.{season_shift, to_utc}
use Rattle.record_rules.specs.Moment.{moment_of}
use Rattle.record_rules.specs.Sixty.{sixty_behind59, takes_sixty}
use Rattle.record_rules.specs.Rule.{plain_utc, table_can_say, status_allowed, weekday_allowed, weekday_agrees, time_allowed, time_alone_allowed, time_alone_refusal, dated_refusal}
use Rattle.record_rules.specs.Utc.{numbered_as}
use Rattle.layouts_rules.specs.Layouts.{places_of, layout_of}
use Rattle.layouts_rules.specs.Coding.{status_in6021, status_in5500}
use Rattle.telegram_rules.specs.Reading.{carried, body_refusal, read_in}
use Rattle.board_rules.specs.Of6036.{parameter_in}
use Rattle.demands.specs.Boundary.{TheBoundaryTableHolds}

pub boundary_table_law : TheBoundaryTableHolds
unfolding unless numbered_as moment_of sixty_behind59 takes_sixty day_number second_of_day date_refusal time_refusal is_decimal
    is_capital code_value is_leap month_length month_in_range date_in_range day_exists month_start day_of time_in_range time_allowed
    time_alone_allowed time_alone_refusal seconds_of plain_utc table_can_say status_allowed weekday_allowed weekday_agrees
    dated_refusal season_shift to_utc places_of layout_of status_in6021 status_in5500 carried body_refusal read_in parameter_in
boundary_table_law =
    ((refl, refl), ((refl, refl), ((refl, refl), ((refl, refl), ((refl, refl), ((refl, refl), ((refl, refl), ((refl, refl), ((refl, refl), ((refl, refl), ((refl, refl), (refl, (refl, tt)))))))))))))
