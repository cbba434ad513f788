-- Document 01, "The seven layouts" and "Calendar, UTC and the station clock": the time of day.
use Rattle.std.specs.Prelude.{Bool, cond, not, ◌&&◌, ℕ, ◌+◌, ◌*◌, ltb, eqb}
use Rattle.refusals.specs.Refusals.{◌when◌, Outcome, unless}
use Rattle.calendar_rules.specs.Ranges.{inside}
use Rattle.calendar_rules.specs.declared.time.Time.{Time}

-- "hour 0 to 23, minute 0 to 59, second 0 to 59"
unfoldable pub time_in_range : Time → Bool
time_in_range time = inside 0 time.hour 23 && (inside 0 time.minute 59 && inside 0 time.second 59)

unfoldable pub time_refusal : Time → ℕ
time_refusal time = 6 when not (time_in_range time)

-- "the second of the day"
unfoldable pub seconds_of : Time → ℕ
seconds_of time = 3600 * time.hour + 60 * time.minute + time.second

unfoldable pub second_of_day : Time → Outcome ℕ
second_of_day time = unless (time_refusal time) (seconds_of time)

-- the next second, in the same minute, else in the next minute, else in the next hour, else at midnight
unfoldable pub time_after : Time → Time
time_after time =
    cond (ltb time.second 59)
    (record { hour = time.hour; minute = time.minute; second = time.second + 1 })
    (cond (ltb time.minute 59)
    (record { hour = time.hour; minute = time.minute + 1; second = 0 })
    (cond (ltb time.hour 23)
    (record { hour = time.hour + 1; minute = 0; second = 0 })
    (record { hour = 0; minute = 0; second = 0 })))

-- 23:59:59, behind which the next day begins
unfoldable pub is_last_second : Time → Bool
is_last_second time = eqb time.hour 23 && (eqb time.minute 59 && eqb time.second 59)

-- the next second, and whether it carries to the next day
unfoldable pub next_second : Time → Outcome (Time × Bool)
next_second time = unless (time_refusal time) (time_after time, is_last_second time)
