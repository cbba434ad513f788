-- A whole piece used up: "the caller passes on the rest of the piece that it hasn't taken".
use Rattle.std.specs.Prelude.{ℕ, zero, suc, ◌+◌, ◌-◌, List, [], ◌∷◌, ◌++◌, map, length, take, drop, replicate, Option, Ok}
use Rattle.line.specs.declared.Reader.{Reader}
use Rattle.line_rules.specs.Hearing.{Heard, Nothing, Event, Refused, heard_as}
use Rattle.refusals.specs.Numbers.{number_if}
use Rattle.line_rules.specs.declared.Event as event_code
use Rattle.line.specs.declared.pieces.Passed as code
use Rattle.line.specs.Readers.{feed_reader, Fed}
use Rattle.line.specs.Cuts.{Calls}

-- how many events one call of `use_up` has room for
abbrev pub room : ℕ
room = 32

-- what a piece gives: the events in their order, how many bytes were taken, the reader after them, and 15 or no refusal
pub record Passing : Type 0 where
  pub events : List Heard
  pub taken : ℕ
  pub reader : Reader
  pub refusal : ℕ

-- one call more: after an event the rest is fed again; "takes the whole piece where there is none"; 15 ends it
abbrev pub pass_on : Heard → Fed → Passing → Passing
pass_on Nothing fed later = record { events = []; taken = fed.taken; reader = fed.reader; refusal = 0 }
pass_on (Event answer start size) fed later =
    record { events = Event answer start size ∷ later.events; taken = fed.taken + later.taken; reader = later.reader; refusal = later.refusal }
pass_on (Refused number) fed later = record { events = []; taken = fed.taken; reader = fed.reader; refusal = number }

-- a piece with room for so many events
unfoldable pub passing : ℕ → Reader → List ℕ → Passing
passing zero reader piece = record { events = []; taken = 0; reader = reader; refusal = 0 }
passing (suc more) reader piece =
    pass_on (feed_reader reader piece).heard (feed_reader reader piece)
    (passing more (feed_reader reader piece).reader (drop (feed_reader reader piece).taken piece))

-- what a call hands on: a slot for each event that it has room for, in the paper's numbers
pub record Slot : Type 0 where
  pub heard : Heard

pub record Passed : Type 0 where
  pub slots : List Slot
  pub count : ℕ
  pub reader : Reader
  pub taken : ℕ
  pub refusal : ℕ

-- the events handed on, and nothing in the slots behind them
abbrev pub slot_of : Heard → Slot
slot_of heard = record { heard = heard }

abbrev pub slots_for : List Heard → List Slot
slots_for events = map slot_of events ++ replicate (room - length events) (slot_of Nothing)

abbrev pub passed_for : Passing → Passed
passed_for passing =
    record { slots = slots_for passing.events; count = length passing.events; reader = passing.reader; taken = passing.taken; refusal = passing.refusal }

-- what the code hands out
abbrev pub slot_as : Option event_code.Event → Slot
slot_as event = slot_of (heard_as (Ok event))

abbrev pub passed_as : code.Passed → Passed
passed_as passed =
    record { slots = map slot_as passed.events; count = passed.count; reader = passed.reader; taken = passed.taken; refusal = number_if passed.refusal }

-- one call of `use_up` in a caller's loop: the events that were handed on, and the rest of the piece
abbrev pub handed_on : Passed → List Heard
handed_on passed = map (λ slot. slot.heard) (take passed.count passed.slots)

abbrev pub used_for : Passed → List ℕ → Calls
used_for passed piece = record { reader = passed.reader; rest = drop passed.taken piece; heard = handed_on passed }

abbrev pub using_up : Reader → List ℕ → Calls
using_up reader piece = used_for (passed_for (passing room reader piece)) piece
