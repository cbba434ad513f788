-- What the next second is, in numbers: a time, and whether it belongs to the next day.
use Rattle.std.specs.Prelude.{Bool, true, false, Result, Ok, Err}
use Rattle.refusals.specs.declared.Refusal.{Refusal}
use Rattle.refusals.specs.Numbers.{number}
use Rattle.refusals.specs.Refusals.{Outcome, done, refused}
use Rattle.calendar_rules.specs.declared.time.Time.{Time}
use Rattle.calendar_rules.specs.declared.time.NextSecond.{NextSecond}
use Rattle.calendar_rules.specs.declared.time.NextSecond.TheVariants.{SameDay, NextDay}

abbrev pub next_in_numbers : NextSecond → Time × Bool
next_in_numbers (SameDay time) = (time, false)
next_in_numbers (NextDay time) = (time, true)

abbrev pub next_second_answer : Result NextSecond Refusal → Outcome (Time × Bool)
next_second_answer (Ok next) = done (next_in_numbers next)
next_second_answer (Err refusal) = refused (number refusal)
