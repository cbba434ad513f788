-- Document 01, "Calendar, UTC and the station clock": counts of seconds, and the season shift, the one way from local to UTC seconds.
-- It rests on no rule of a record, so that the rule may rest on it.
use Rattle.std.specs.Prelude.{Bool, cond, ◌||◌, ℕ, ◌+◌, ◌-◌, ◌*◌, leb, ltb}
use Rattle.refusals.specs.Refusals.{◌when◌, Outcome, unless}
use Rattle.record_rules.specs.declared.season.LocalSeconds.{LocalSeconds}
use Rattle.record_rules.specs.declared.season.UtcSeconds.{UtcSeconds}
use Rattle.record_rules.specs.declared.season.Count.{Count}
use Rattle.record_rules.specs.declared.season.Count.TheVariants.{Local, Utc}

-- so many seconds later, local or UTC as it was
abbrev pub seconds_later : ℕ → Count → Count
seconds_later n (Local local) = Local (record { 0 = local.0 + n })
seconds_later n (Utc utc) = Utc (record { 0 = utc.0 + n })

-- how many seconds are counted, whichever they are
abbrev pub seconds_in : Count → ℕ
seconds_in (Local local) = local.0
seconds_in (Utc utc) = utc.0

-- the calendar 1980 to 2079: 36,525 days
abbrev pub calendar_seconds : ℕ
calendar_seconds = 36525 * 86400

-- "local is UTC plus 3,600 in standard time, plus 7,200 in daylight time"
unfoldable pub season_shift : Bool → ℕ
season_shift daylight = cond daylight 7200 3600

-- "before 1.1.1980 00:00 UTC", or behind the calendar's last second in UTC
abbrev pub is_outside : LocalSeconds → Bool → Bool
is_outside local daylight = ltb local.0 (season_shift daylight) || leb calendar_seconds (local.0 - season_shift daylight)

-- 12: "the result lies outside the calendar"
unfoldable pub to_utc : LocalSeconds → Bool → Outcome UtcSeconds
to_utc local daylight = unless (12 when is_outside local daylight) (record { 0 = local.0 - season_shift daylight })
