-- Document 02, h: what the digits of a command mean, and the digits of a command.
use Rattle.std.specs.Prelude.{true, false, cond, List, ◌∷◌, ℤ, ℕ, ◌+◌, ◌*◌, ◌/◌, ◌%◌}
use Rattle.minutes.specs.Minutes.{signed, is_minus, hours_of, minutes_of}
use Rattle.layouts_rules.specs.Coding.{number, code_at, full_year, time_in, empty_behind}
use Rattle.remote_rules.specs.declared.Moment.{Moment}
use Rattle.remote_rules.specs.declared.Angle.{Angle}
use Rattle.remote_rules.specs.declared.EastWest.{EastWest}
use Rattle.remote_rules.specs.declared.EastWest.TheVariants.{West, East}
use Rattle.remote_rules.specs.declared.NorthSouth.{NorthSouth}
use Rattle.remote_rules.specs.declared.NorthSouth.TheVariants.{North, South}
use Rattle.remote_rules.specs.declared.Position.{Position}
use Rattle.remote_rules.specs.declared.Command.{Command}
use Rattle.remote_rules.specs.declared.Command.TheVariants as command
use Rattle.remote_rules.specs.declared.rows.Form.{Form}
use Rattle.remote_rules.specs.declared.rows.Form.TheVariants.{Tim, TimAsked, DifPlus, DifMinus, DifAsked, PosWestNorth, PosWestSouth, PosEastNorth, PosEastSouth, PosAsked}
use Rattle.remote_rules.specs.Rows.{by_hemispheres}

-- "two hex characters of status": the high one first
abbrev pub status_in : List ℕ → ℕ
status_in digits = 16 * code_at digits 0 + code_at digits 16

-- "time, date and weekday", the year of two digits as in document 01
abbrev pub moment_in : List ℕ → Moment
moment_in digits =
    record {
      time = time_in digits;
      date = record { year = full_year (number digits 14); month = number digits 10; day = number digits 8 };
      weekday = code_at digits 1;
    }

-- "hours, comma, minutes": hours and minutes, and no decimal fraction
abbrev pub minutes_in : List ℕ → ℕ
minutes_in digits = 60 * number digits 2 + number digits 4

-- three digits of degrees, and two
abbrev pub longitude_in : List ℕ → Angle
longitude_in digits = record { degrees = 100 * code_at digits 0 + number digits 1; minutes = number digits 3; fraction = number digits 5 }

abbrev pub latitude_in : List ℕ → Angle
latitude_in digits = record { degrees = number digits 7; minutes = number digits 9; fraction = number digits 11 }

abbrev pub position_in : EastWest → NorthSouth → List ℕ → Position
position_in east_west north_south digits =
    record { east_west = east_west; longitude = longitude_in digits; north_south = north_south; latitude = latitude_in digits }

-- the command that a form's digits carry
abbrev pub command_in : Form → List ℕ → Command
command_in Tim digits = command.Tim (status_in digits) (moment_in digits)
command_in TimAsked digits = command.TimAsked (status_in digits)
command_in DifPlus digits = command.Dif (signed false (minutes_in digits))
command_in DifMinus digits = command.Dif (signed true (minutes_in digits))
command_in DifAsked digits = command.DifAsked
command_in PosWestNorth digits = command.Pos (position_in West North digits)
command_in PosWestSouth digits = command.Pos (position_in West South digits)
command_in PosEastNorth digits = command.Pos (position_in East North digits)
command_in PosEastSouth digits = command.Pos (position_in East South digits)
command_in PosAsked digits = command.PosAsked

-- a command's own form: the sign is that of the number, so that zero is "+00,00"
abbrev pub own_form : Command → Form
own_form (command.Tim status moment) = Tim
own_form (command.TimAsked status) = TimAsked
own_form (command.Dif difference) = cond (is_minus difference) DifMinus DifPlus
own_form command.DifAsked = DifAsked
own_form (command.Pos position) = by_hemispheres position.east_west position.north_south
own_form command.PosAsked = PosAsked

-- the digits that carry a command, 0 in each slot that its row does not use. Of a number with more digits than places the last ones stand
-- here, and no such command is written: the rule refuses it first
abbrev pub tim_digits : ℕ → Moment → List ℕ
tim_digits status moment =
    status / 16 ∷ moment.weekday
    ∷ moment.time.hour / 10 ∷ moment.time.hour % 10
    ∷ moment.time.minute / 10 ∷ moment.time.minute % 10
    ∷ moment.time.second / 10 ∷ moment.time.second % 10
    ∷ moment.date.day / 10 ∷ moment.date.day % 10
    ∷ moment.date.month / 10 ∷ moment.date.month % 10
    ∷ 0 ∷ 0 ∷ moment.date.year % 100 / 10 ∷ moment.date.year % 100 % 10
    ∷ status % 16
    ∷ empty_behind 17

abbrev pub status_digits : ℕ → List ℕ
status_digits status =
    status / 16 ∷ 0 ∷ 0 ∷ 0 ∷ 0 ∷ 0 ∷ 0 ∷ 0 ∷ 0 ∷ 0 ∷ 0 ∷ 0 ∷ 0 ∷ 0 ∷ 0 ∷ 0 ∷ status % 16 ∷ empty_behind 17

abbrev pub difference_digits : ℤ → List ℕ
difference_digits difference =
    0 ∷ 0 ∷ hours_of difference / 10 ∷ hours_of difference % 10 ∷ minutes_of difference / 10 ∷ minutes_of difference % 10 ∷ empty_behind 6

abbrev pub position_digits : Position → List ℕ
position_digits position =
    position.longitude.degrees / 100 % 10 ∷ position.longitude.degrees / 10 % 10 ∷ position.longitude.degrees % 10
    ∷ position.longitude.minutes / 10 ∷ position.longitude.minutes % 10
    ∷ position.longitude.fraction / 10 ∷ position.longitude.fraction % 10
    ∷ position.latitude.degrees / 10 % 10 ∷ position.latitude.degrees % 10
    ∷ position.latitude.minutes / 10 ∷ position.latitude.minutes % 10
    ∷ position.latitude.fraction / 10 ∷ position.latitude.fraction % 10
    ∷ empty_behind 13

abbrev pub digits_out : Command → List ℕ
digits_out (command.Tim status moment) = tim_digits status moment
digits_out (command.TimAsked status) = status_digits status
digits_out (command.Dif difference) = difference_digits difference
digits_out command.DifAsked = empty_behind 0
digits_out (command.Pos position) = position_digits position
digits_out command.PosAsked = empty_behind 0
