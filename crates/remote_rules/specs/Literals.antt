-- Commands' fields, written in literal numbers.
use Rattle.std.specs.Prelude.{ℕ}
use Rattle.calendar_rules.specs.declared.date.Date.{Date}
use Rattle.calendar_rules.specs.declared.time.Time.{Time}
use Rattle.remote_rules.specs.declared.Moment.{Moment}
use Rattle.remote_rules.specs.declared.Angle.{Angle}
use Rattle.remote_rules.specs.declared.EastWest.{EastWest}
use Rattle.remote_rules.specs.declared.NorthSouth.{NorthSouth}
use Rattle.remote_rules.specs.declared.Position.{Position}

abbrev pub moment : Time → Date → ℕ → Moment
moment time date weekday = record { time = time; date = date; weekday = weekday }

-- degrees, minutes and the two digits behind them
abbrev pub angle : ℕ → ℕ → ℕ → Angle
angle degrees minutes fraction = record { degrees = degrees; minutes = minutes; fraction = fraction }

-- longitude, and latitude
abbrev pub position : EastWest → ℕ → ℕ → ℕ → NorthSouth → ℕ → ℕ → ℕ → Position
position east_west degrees_east minutes_east fraction_east north_south degrees_north minutes_north fraction_north =
    record {
      east_west = east_west;
      longitude = angle degrees_east minutes_east fraction_east;
      north_south = north_south;
      latitude = angle degrees_north minutes_north fraction_north;
    }
