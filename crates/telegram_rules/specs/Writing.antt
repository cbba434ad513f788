-- Document 01, "Refusal numbers", and document 02, e and f: writing one telegram, and several one behind another.
use Rattle.std.specs.Prelude.{Bool, true, cond, List, [], ◌∷◌, ◌++◌, ℕ, length}
use Rattle.refusals.specs.Refusals.{Outcome, done, refused, unless, after}
use Rattle.lent_buffer.specs.Laying.{within}
use Rattle.lent_buffer.specs.OneBehindAnother.{Next, nothing, part, Standing, one_behind_another}
use Rattle.ascii.specs.Control.{stx, etx}
use Rattle.trailer_rules.specs.declared.Order.{Order}
use Rattle.trailer_rules.specs.declared.Order.TheVariants.{AsPrinted}
use Rattle.trailer_rules.specs.Trailer.{in_order}
use Rattle.places_rules.specs.Places.{render}
use Rattle.record_rules.specs.declared.DatedLayout.TheVariants.{L6021}
use Rattle.record_rules.specs.declared.Record.{Record}
use Rattle.record_rules.specs.declared.Record.TheVariants.{Dated, TimeOnly}
use Rattle.record_rules.specs.Rule.{refusal_of}
use Rattle.record_rules.specs.Next.{next_second_of}
use Rattle.telegram_rules.specs.declared.write.Setting.{Setting}
use Rattle.telegram_rules.specs.declared.write.Choice.{Choice}
use Rattle.telegram_rules.specs.declared.write.Choice.TheVariants.{Named, NamedIn, Unnamed}
use Rattle.layouts_rules.specs.Layouts.{places_of, own_layout}
use Rattle.layouts_rules.specs.Coding.{digits_out}

-- the bytes of a record in its own layout, between STX and ETX
unfoldable pub body_bytes : Record → List ℕ
body_bytes rec = render (places_of (own_layout rec)) (digits_out rec)

-- "STX and ETX. Without control characters both are missing"; the trailer in its order, with them or without
abbrev pub telegram_in : Order → Bool → Record → List ℕ
telegram_in order control rec = cond control (stx ∷ in_order order (body_bytes rec) ++ etx ∷ []) (in_order order (body_bytes rec))

-- "as-printed if not named"
abbrev pub telegram_of : Bool → Record → List ℕ
telegram_of = telegram_in AsPrinted

-- the same fields in the 6021 layout; 14: "a date is needed and the layout carries none"
abbrev pub as6021 : Record → Outcome Record
as6021 (Dated layout status weekday date time) = done (Dated L6021 status weekday date time)
as6021 (TimeOnly layout time) = refused 14

-- a record that no rule refuses, as it is
abbrev pub judged_of : Record → Outcome Record
judged_of rec = unless (refusal_of rec) rec

-- which record a setting writes: with second advance "the telegram carries the next second"
abbrev pub record_by : Setting → Record → Outcome Record
record_by setting rec = cond setting.advance (next_second_of rec) (judged_of rec)

-- and which a choice; "if a caller names no setting, a write is 6021 whatever layout the record has, .. without second advance"
abbrev pub record_to_write : Choice → Record → Outcome Record
record_to_write (Named setting) rec = record_by setting rec
record_to_write (NamedIn setting order) rec = record_by setting rec
record_to_write Unnamed rec = after (judged_of rec) as6021

-- and whether with control characters; document 02, e: "an unnamed setting now means 6021 with control characters"
abbrev pub control_of : Choice → Bool
control_of (Named setting) = setting.control
control_of (NamedIn setting order) = setting.control
control_of Unnamed = true

-- and in which order the trailer stands: "as-printed if not named"
abbrev pub order_of : Choice → Order
order_of (Named setting) = AsPrinted
order_of (NamedIn setting order) = order
order_of Unnamed = AsPrinted

-- the telegram that a choice makes of a record, or why there is none: 5 to 8, 12, 14
unfoldable pub telegram_for : Choice → Record → Outcome (List ℕ)
telegram_for choice rec = after (record_to_write choice rec) (λ r. done (telegram_in (order_of choice) (control_of choice) r))

-- the telegram that is written into a buffer of so many bytes
abbrev pub written : Choice → Record → ℕ → Outcome (List ℕ)
written choice rec room = within room (telegram_for choice rec)

-- Several, one behind another.

-- what comes next of a list: the telegram of its first record
abbrev pub next_telegram : Choice → List Record → Next (List Record)
next_telegram choice [] = nothing
next_telegram choice (rec ∷ recs) = part (telegram_for choice rec) recs

-- the telegrams of a list, in a room of so many bytes
abbrev pub telegrams_in : Choice → ℕ → List Record → Standing (List Record)
telegrams_in choice room recs = one_behind_another (next_telegram choice) (length recs) room recs
