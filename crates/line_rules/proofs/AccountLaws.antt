-- The account: every byte fed is in an event, stray, or held. Assumes nothing.
use mathlib.Core.Path.{◌≡◌, refl, ap, ◌∙◌}
use mathlib.Core.Bool.{Bool, true, false, cond}
use mathlib.Core.List.{List, [], ◌∷◌, ◌++◌}
use Prim.Native.Nat.{ℕ, ◌+◌, ◌≤◌}
use native.Mathlib.Nat.{zero-add}
use native.Mathlib.Omega.{arith}
use lib.Dec.{eqb, leb}
use lib.ListN.{length, length-append}
use borrow.Author.Tests.{leb-true}
use Rattle.refusals.specs.Refusals.{refused}
use Rattle.ascii.specs.Control.{stx, etx}
use Rattle.trailer_rules.specs.declared.Order.{Order}
use Rattle.line_rules.specs.Hearing.{Heard}
use Rattle.line_rules.specs.Line.{places, judgement, Line, Told, nothing, event, held_after, told_by, stray_by, step, start_of, fresh_line, told_by_end, heard_for}
use Rattle.line_rules.specs.Events.{tells, events_of, line_after, heard_then}
use Rattle.line_rules.specs.Account.{event_size, lengths_of, strays_of, sizes_of}
use Rattle.line_rules.proofs.GoodLines.{Good, good_step}
use Rattle.line_rules.proofs.EventLaws.{good_fresh}

-- one byte
begins : (is_stx : Bool) → 0 + 1 ≡ 0 + cond is_stx 0 1 + length (cond {A = List ℕ} is_stx (stx ∷ []) [])
begins true = refl
begins false = refl

goes_on : (order : Order) (held : List ℕ) (byte : ℕ) (is_etx is_stx is_full_law : Bool) → leb places (length held) ≡ is_full_law → length held ≤ places
    → length held + 1
    ≡ event_size (cond is_etx (event (judgement order held) (length held + 1)) (cond is_stx (event (refused 9) (length held)) (cond is_full_law (event (refused 10) (places + 1)) nothing)))
    + 0
    + length (cond is_etx [] (cond is_stx (stx ∷ []) (cond is_full_law [] (held ++ byte ∷ []))))
goes_on order held byte true is_stx is_full_law e fits = omega arith
goes_on order held byte false true is_full_law e fits = omega arith
goes_on order held byte false false true e fits = omega (arith, leb-true places (length held) e)
goes_on order held byte false false false e fits = omega (arith, length-append held (byte ∷ []))

pub byte_account : (order : Order) (held : List ℕ) (byte : ℕ) → length held ≤ places
    → length held + 1 ≡ event_size (told_by order held byte) + stray_by held byte + length (held_after held byte)
byte_account order [] byte fits = begins (eqb byte stx)
byte_account order (first ∷ held) byte fits = goes_on order (first ∷ held) byte (eqb byte etx) (eqb byte stx) (leb places (length (first ∷ held))) refl fits

-- any bytes
pub account : (line : Line) (bytes : List ℕ) → Good line
    → length line.held + length bytes ≡ lengths_of line bytes + strays_of line bytes + length (line_after line bytes).held
account line [] good = omega arith
account line (byte ∷ bytes) good =
    omega (arith, byte_account line.order line.held byte good.fits, account (step line byte) bytes (good_step line byte good))

pub fed_counts : (line : Line) (bytes : List ℕ) → (line_after line bytes).fed ≡ line.fed + length bytes
fed_counts line [] = omega arith
fed_counts line (byte ∷ bytes) = omega (arith, fed_counts (step line byte) bytes)

pub stray_counts : (line : Line) (bytes : List ℕ) → (line_after line bytes).stray ≡ line.stray + strays_of line bytes
stray_counts line [] = omega arith
stray_counts line (byte ∷ bytes) = omega (arith, stray_counts (step line byte) bytes)

-- what was heard has those lengths
size_by : (told : Told) (start : ℕ) (later : List Heard) → sizes_of (tells told start later) ≡ event_size told + sizes_of later
size_by nothing start later = omega arith
size_by (event outcome size) start later = refl

pub heard_sizes : (line : Line) (bytes : List ℕ) → sizes_of (events_of line bytes) ≡ lengths_of line bytes
heard_sizes line [] = refl
heard_sizes line (byte ∷ bytes) =
    size_by (told_by line.order line.held byte) (start_of line) (events_of (step line byte) bytes)
    ∙ ap (λ n. event_size (told_by line.order line.held byte) + n) (heard_sizes (step line byte) bytes)

-- from a fresh reader on, after any bytes
module _ (order : Order) (bytes : List ℕ) where
  abbrev pub line : Line
  line = line_after (fresh_line order) bytes

  pub stray_is : line.stray ≡ strays_of (fresh_line order) bytes
  stray_is = stray_counts (fresh_line order) bytes ∙ zero-add (strays_of (fresh_line order) bytes)

  pub sum : line.fed ≡ lengths_of (fresh_line order) bytes + strays_of (fresh_line order) bytes + length line.held
  sum = fed_counts (fresh_line order) bytes ∙ account (fresh_line order) bytes (good_fresh order)

pub end_size : (held : List ℕ) (start : ℕ) → length held ≡ sizes_of (heard_then (heard_for (told_by_end held) start) [])
end_size [] start = refl
end_size (first ∷ held) start = omega arith
