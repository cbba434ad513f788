-- A status in words, for the tables as they are printed.
use Rattle.std.specs.Prelude.{Bool, true, false}
use Rattle.record_rules.specs.declared.Reception.{Reception}
use Rattle.record_rules.specs.declared.Reception.TheVariants.{Radio}
use Rattle.record_rules.specs.declared.Status.{Status}

-- reception, daylight, UTC, announced
abbrev pub status_of : Reception → Bool → Bool → Bool → Status
status_of reception daylight utc announced = record { reception = reception; daylight = daylight; utc = utc; announced = announced }

abbrev pub standard_time : Status
standard_time = status_of Radio false false false

abbrev pub daylight_time : Status
daylight_time = status_of Radio true false false

abbrev pub marked_utc : Status
marked_utc = status_of Radio false true false
