-- Document 02, h: what the fields of a command may be, and with which number it is refused.
use Rattle.std.specs.Prelude.{Bool, true, not, ◌&&◌, ◌||◌, List, ℕ, leb, ltb, eqb}
use Rattle.refusals.specs.Refusals.{◌when◌, ◌else◌}
use Rattle.calendar_rules.specs.Calendar.{date_in_range, day_exists}
use Rattle.calendar_rules.specs.TimeOfDay.{time_in_range}
use Rattle.record_rules.specs.Rule.{weekday_allowed, weekday_agrees}
use Rattle.minutes.specs.Minutes.{within12_hours}
use Rattle.layouts_rules.specs.Coding.{number}
use Rattle.remote_rules.specs.declared.Moment.{Moment}
use Rattle.remote_rules.specs.declared.Angle.{Angle}
use Rattle.remote_rules.specs.declared.Position.{Position}
use Rattle.remote_rules.specs.declared.Command.{Command}
use Rattle.remote_rules.specs.declared.Command.TheVariants as command
use Rattle.remote_rules.specs.declared.rows.Form.{Form}
use Rattle.remote_rules.specs.declared.rows.Form.TheVariants.{Tim, TimAsked, DifPlus, DifMinus, DifAsked, PosWestNorth, PosWestSouth, PosEastNorth, PosEastSouth, PosAsked}
use Rattle.remote_rules.specs.Coding.{minutes_in}

-- "two hex characters of status": any number that two of them can say
unfoldable pub status_refusal : ℕ → ℕ
status_refusal status = 5 when ltb 255 status

-- "TIM seconds end at 59, its weekday is 1 to 7", and is the calendar's
unfoldable pub moment_refusal : Moment → ℕ
moment_refusal moment =
    5 when not (weekday_allowed moment.weekday)
    else 6 when not (time_in_range moment.time && date_in_range moment.date)
    else 7 when not (day_exists moment.date)
    else 8 when not (weekday_agrees moment.weekday moment.date)

-- "longitude to 180 degrees, latitude to 90, and at the end of the range all smaller places are zero"; minutes are 0 to 59
unfoldable pub angle_in_range : ℕ → Angle → Bool
angle_in_range top angle =
    (ltb angle.degrees top && (leb angle.minutes 59 && leb angle.fraction 99))
    || (eqb angle.degrees top && (eqb angle.minutes 0 && eqb angle.fraction 0))

unfoldable pub position_in_range : Position → Bool
position_in_range position = angle_in_range 180 position.longitude && angle_in_range 90 position.latitude

-- the rule that refuses a command: 5 to 8
abbrev pub refusal_of : Command → ℕ
refusal_of (command.Tim status moment) = status_refusal status else moment_refusal moment
refusal_of (command.TimAsked status) = status_refusal status
refusal_of (command.Dif difference) = 6 when not (within12_hours difference)
refusal_of command.DifAsked = 0
refusal_of (command.Pos position) = 6 when not (position_in_range position)
refusal_of command.PosAsked = 0

-- what the number of a difference no longer shows: "minutes are 0 to 59", and "-00,00 is refused with 6"
unfoldable pub spelled_well : Form → List ℕ → Bool
spelled_well DifPlus digits = leb (number digits 4) 59
spelled_well DifMinus digits = leb (number digits 4) 59 && ltb 0 (minutes_in digits)
spelled_well Tim digits = true
spelled_well TimAsked digits = true
spelled_well DifAsked digits = true
spelled_well PosWestNorth digits = true
spelled_well PosWestSouth digits = true
spelled_well PosEastNorth digits = true
spelled_well PosEastSouth digits = true
spelled_well PosAsked digits = true
