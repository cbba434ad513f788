-- Document 01, "The line, byte by byte": what a call tells, in the paper's numbers. An event has its outcome, the position of its first
-- byte, and how many bytes it has; a state that is refused gives "no event and nothing else".
use Rattle.std.specs.Prelude.{ℕ, Option, None, Some, Result, Ok, Err}
use Rattle.refusals.specs.declared.Refusal.{Refusal}
use Rattle.refusals.specs.Numbers.{number, outcome}
use Rattle.refusals.specs.Refusals.{Outcome}
use Rattle.record_rules.specs.declared.Record.{Record}
use Rattle.line_rules.specs.declared.Event as code

pub data Heard : Type 0 where
  Nothing : Heard
  Event : Outcome Record → ℕ → ℕ → Heard
  Refused : ℕ → Heard

-- what the code hands out
abbrev pub heard_as : Result (Option code.Event) Refusal → Heard
heard_as (Ok None) = Nothing
heard_as (Ok (Some event)) = Event (outcome event.answer) event.start event.size
heard_as (Err refusal) = Refused (number refusal)
