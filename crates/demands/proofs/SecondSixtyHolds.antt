-- Document 02, b, holds. Assumes nothing.
use mathlib.Core.Path.{refl}
use Rattle.refusals.specs.Refusals.{unless}
use Rattle.refusals.proofs.Tables.{◌also◌}
use Rattle.places_rules.specs.Places.{is_decimal, is_capital, code_value}
use Rattle.calendar_rules.specs.Calendar.{is_leap, month_length, month_in_range, date_in_range, day_exists, date_refusal, month_start, day_of, day_number, seek, month_holding, date_at}
use Rattle.calendar_rules.specs.TimeOfDay.{time_in_range, time_refusal, seconds_of, second_of_day}
use Rattle.record_rules.specs.Season.{season_shift, to_utc}
use Rattle.record_rules.specs.Moment.{moment_of}
use Rattle.record_rules.specs.Sixty.{sixty_behind59, takes_sixty}
use Rattle.record_rules.specs.Rule.{plain_utc, table_can_say, status_allowed, weekday_allowed, weekday_agrees, time_allowed, time_alone_allowed, time_alone_refusal, dated_refusal}
use Rattle.layouts_rules.specs.Layouts.{places_of, layout_of}
use Rattle.layouts_rules.specs.Coding.{status_in6021, status_in5500}
use Rattle.telegram_rules.specs.Reading.{carried, body_refusal, read_in}
use Rattle.record_rules.proofs.SixtyLaws.{fields_say_the_same}
use Rattle.record_rules.proofs.FollowingLaws.{accepted_exactly, sixty_goes_to_00, same_with_59_decides, sixty_shares, one_without_follower, no_follower_no_number, counts_in_calendar}
use Rattle.record_rules.proofs.LastSixtyHolds.{last_is_good}
use Rattle.clock.proofs.RunLaws.{last_sixty_gives_12}
use Rattle.leitch_rules.proofs.RuleLaws.{good, time_good}
use Rattle.demands.specs.SecondSixty.{TheSixtyTelegramsAreRead, LeitchAnswersStayAt59, TheLastSixtyIsNotAdvanced, SecondSixtyIsAsAskedFor}
use Rattle.demands.proofs.Demand2Holds.{second_refused_is_not_advanced, neither_makes_a_sixty}

sixty_telegrams_law : TheSixtyTelegramsAreRead
unfolding unless moment_of sixty_behind59 takes_sixty day_number second_of_day date_refusal time_refusal is_decimal is_capital
    code_value is_leap month_length month_in_range date_in_range day_exists month_start day_of time_in_range time_allowed
    time_alone_allowed time_alone_refusal seconds_of plain_utc table_can_say status_allowed weekday_allowed weekday_agrees dated_refusal
    season_shift to_utc places_of layout_of status_in6021 status_in5500 carried body_refusal read_in seek month_holding date_at
sixty_telegrams_law =
    (refl, refl) also (refl, refl) also (refl, refl) also (refl, refl) also (refl, refl) also (refl, refl) also (refl, refl) also (refl, refl)
    also (refl, refl) also (refl, refl) also (refl, refl) also (refl, refl) also (refl, refl) also (refl, refl) also (refl, refl) also tt

leitch_at_59 : LeitchAnswersStayAt59
leitch_at_59 reply none = (time_good reply (good reply none)).to_second

last_not_advanced : TheLastSixtyIsNotAdvanced
last_not_advanced order control layout status room marked fine =
    second_refused_is_not_advanced order control _ room (last_is_good layout status marked fine).1

pub second_sixty : SecondSixtyIsAsAskedFor
second_sixty = (
  sixty_telegrams_law,
  accepted_exactly,
  same_with_59_decides,
  fields_say_the_same,
  sixty_shares,
  one_without_follower,
  last_is_good,
  no_follower_no_number,
  counts_in_calendar,
  sixty_goes_to_00,
  last_sixty_gives_12,
  last_not_advanced,
  neither_makes_a_sixty,
  leitch_at_59,
)
