-- Document 01, "Refusal numbers" 1 to 8, and document 02, f: reading one telegram.
use Rattle.std.specs.Prelude.{Bool, cond, not, ◌&&◌, List, ℕ, ◌-◌, eqb, length, take, drop, get_or}
use Rattle.refusals.specs.Refusals.{◌when◌, ◌else◌, Outcome, unless, after}
use Rattle.ascii.specs.Control.{stx, etx}
use Rattle.trailer_rules.specs.declared.Order.{Order}
use Rattle.trailer_rules.specs.declared.Order.TheVariants.{AsPrinted}
use Rattle.trailer_rules.specs.Trailer.{in_order}
use Rattle.places_rules.specs.Places.{gather, row_fault, no_digits}
use Rattle.record_rules.specs.declared.Record.{Record}
use Rattle.record_rules.specs.Rule.{refusal_of}
use Rattle.layouts_rules.specs.declared.Layout.{Layout}
use Rattle.layouts_rules.specs.Layouts.{places_of, layout_of}
use Rattle.layouts_rules.specs.Coding.{record_in}

-- "lengths include STX and ETX. Without control characters both are missing": what stands between them
abbrev pub body_of : Bool → List ℕ → List ℕ
body_of control bytes = cond control (take (length bytes - 2) (drop 1 bytes)) bytes

-- "the trailer order, as-printed or exchanged": the same as the tables print it
abbrev pub body_in : Order → Bool → List ℕ → List ℕ
body_in order control bytes = in_order order (body_of control bytes)

-- STX and ETX in their places
abbrev pub framed : List ℕ → Bool
framed bytes = eqb (get_or bytes 0 0) stx && eqb (get_or bytes (length bytes - 1) 0) etx

-- the record that a body carries in a layout, right or wrong
unfoldable pub carried : Layout → List ℕ → Record
carried layout body = record_in layout (gather (places_of layout) body no_digits)

-- 3 to 5 over all places of the row, then the record's own 5 to 8
unfoldable pub body_refusal : Layout → List ℕ → ℕ
body_refusal layout body = row_fault (places_of layout) body else refusal_of (carried layout body)

-- the body of a telegram whose layout is known
unfoldable pub read_body_as : Layout → List ℕ → Outcome Record
read_body_as layout body = unless (body_refusal layout body) (carried layout body)

-- 1 from the length; 2 "control characters wanted, first isn't STX or last isn't ETX"; then the body's. The order is "a setting of the
-- line for the trailer check and all that rests on it": a layout is found, and its places are held, in the body as printed
unfoldable pub read_in : Order → Bool → List ℕ → Outcome Record
read_in order control bytes =
    after (layout_of (body_in order control bytes))
    (λ layout.
    unless (2 when (control && not (framed bytes)) else body_refusal layout (body_in order control bytes)) (carried layout (body_in order control bytes)))

-- "as-printed if not named"
abbrev pub read_of : Bool → List ℕ → Outcome Record
read_of = read_in AsPrinted
