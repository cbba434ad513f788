-- Document 02, g: "none that will be accepted is longer than 30, so log blocks stay as they are".
use Rattle.std.specs.Prelude.{Bool, List, ◌≡◌, ℕ, ◌≤◌, length}
use Rattle.refusals.specs.Refusals.{done}
use Rattle.record_rules.specs.declared.Record.{Record}
use Rattle.trailer_rules.specs.declared.Order.{Order}
use Rattle.telegram_rules.specs.Reading.{read_in}
use Rattle.log_rules.specs.Block.{slot_size, slot_of}
use Rattle.log_rules.specs.Good.{telegram_in}

-- "none that will be accepted is longer than 30", with control characters or without, in either order
abbrev pub longest_accepted : ℕ
longest_accepted = 30

abbrev pub NoneAcceptedIsLonger : Type 0
NoneAcceptedIsLonger =
    (order : Order) (control : Bool) (telegram : List ℕ) (rec : Record) → read_in order control telegram ≡ done rec
    → length telegram ≤ longest_accepted

-- "so log blocks stay as they are": so many bytes and their length byte fill no more than a slot, and are found in it again
abbrev pub ThatManyFitASlot : Type 0
ThatManyFitASlot =
    (telegram : List ℕ) → length telegram ≤ longest_accepted → (length (slot_of telegram) ≡ slot_size) × (telegram_in (slot_of telegram) ≡ telegram)
