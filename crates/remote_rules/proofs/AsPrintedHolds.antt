-- The commands are as printed, computed from the definitions. Assumes nothing.
use mathlib.Core.Path.{◌≡◌, refl, ap}
use Prim.Native.Nat.{ℕ}
use native.Mathlib.Omega.{arith}
use lib.ListN.{get_or}
use Rattle.refusals.specs.Refusals.{unless}
use Rattle.lent_buffer.specs.Laying.{within}
use Rattle.places_rules.specs.Places.{is_decimal, is_capital, code_value, code_character, render}
use Rattle.calendar_rules.specs.Calendar.{is_leap, month_length, month_in_range, date_in_range, day_exists, month_start, day_of}
use Rattle.calendar_rules.specs.TimeOfDay.{time_in_range}
use Rattle.record_rules.specs.Rule.{weekday_allowed, weekday_agrees}
use Rattle.remote_rules.specs.Rows.{inner_row, row_of, is_named, form_of}
use Rattle.remote_rules.specs.Rule.{status_refusal, moment_refusal, angle_in_range, position_in_range, spelled_well}
use Rattle.remote_rules.specs.Reading.{digits_in, carried, bytes_refusal, command_of}
use Rattle.remote_rules.specs.Writing.{command_bytes, telegram_for}
use Rattle.remote_rules.specs.declared.EastWest.TheVariants.{West, East}
use Rattle.remote_rules.specs.declared.NorthSouth.TheVariants.{North}
use Rattle.remote_rules.specs.Literals.{position}
use Rattle.remote_rules.specs.RowsAsPrinted.{RowsAreAsPictured}
use Rattle.remote_rules.specs.DifAsPrinted.{OneThirtyIs90, MinusNothingIs6, ZeroIsPlusNothing, TwelveHoursAreTheLast}
use Rattle.remote_rules.specs.PosAsPrinted.{BothSidesOfNothingDiffer}
use Rattle.remote_rules.specs.AsPrinted.{CommandsAreAsPrinted}

pub as_pictured : RowsAreAsPictured
unfolding row_of inner_row
as_pictured = refl

pub as_printed_law : CommandsAreAsPrinted
unfolding unless within is_decimal is_capital code_value code_character render is_leap month_length month_in_range date_in_range day_exists
    month_start day_of time_in_range weekday_allowed weekday_agrees inner_row row_of is_named form_of status_refusal moment_refusal
    angle_in_range position_in_range spelled_well digits_in carried bytes_refusal command_of command_bytes telegram_for
as_printed_law =
    record {
      tim_numbered = refl;
      pos_numbered = refl;
      status_taken = refl;
      tim_taken = refl;
      dif_taken = refl;
      pos_taken = refl;
      printed_read = refl;
      good_read = refl;
      good_written = refl;
      bad_refused = refl;
      writes_refused = refl;
    }

-- what is said of single examples
named : OneThirtyIs90 × MinusNothingIs6 × ZeroIsPlusNothing × TwelveHoursAreTheLast × BothSidesOfNothingDiffer
unfolding unless within is_decimal is_capital code_value code_character render inner_row row_of is_named form_of
    angle_in_range position_in_range spelled_well digits_in carried bytes_refusal command_of command_bytes telegram_for
named = (
  record {
    is90 = refl;
    is_not78 = λ e. let same : ◌≡◌ {A = ℕ} 90 78 = cc in absurd (omega arith);
    is_not130 = λ e. let same : ◌≡◌ {A = ℕ} 90 130 = cc in absurd (omega arith);
    minus_is_minus90 = refl;
  },
  refl,
  (refl, refl),
  record { plus720 = refl; minus720 = refl; plus721 = refl; minus721 = refl; written721 = refl; written_minus721 = refl },
  record {
    west = refl;
    east = refl;
    south = refl;
    west_is_not_east = λ e. let letters = ap (λ bytes. get_or bytes 5 0) e in absurd (omega arith);
    north_is_not_south = λ e. let letters = ap (λ bytes. get_or bytes 17 0) e in absurd (omega arith);
    no_side_for_the_other = λ e.
        let positions : position West 0 0 0 North 0 0 0 ≡ position East 0 0 0 North 0 0 0 = cc in
        let sides : West ≡ East = ap (λ told. told.east_west) positions in
        let z : ◌≡◌ {A = ℕ} 0 1 = cc in absurd (omega arith);
  },
)

pub one_thirty : OneThirtyIs90
one_thirty = named.0

pub minus_nothing : MinusNothingIs6
minus_nothing = named.1

pub zero_is_plus : ZeroIsPlusNothing
zero_is_plus = named.2

pub twelve_hours : TwelveHoursAreTheLast
twelve_hours = named.3

pub both_sides : BothSidesOfNothingDiffer
both_sides = named.4
