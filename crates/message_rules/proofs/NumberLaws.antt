-- What reading refuses with: a number up to 8, or, of a command, 22. Assumes nothing.
use mathlib.Core.Path.{◌≡◌, refl}
use mathlib.Core.Bool.{Bool, true, false, cond, not, ◌&&◌}
use mathlib.Core.List.{List}
use mathlib.Core.Logic.{◌⊎◌, inl, inr}
use Prim.Native.Nat.{ℕ, zero, suc, ◌≤◌}
use native.Mathlib.Omega.{arith}
use lib.Dec.{eqb}
use lib.ListN.{length, get_or}
use Rattle.refusals.specs.Refusals.{◌when◌, ◌else◌, Outcome, done, refused, unless, after}
use Rattle.refusals.proofs.Laws.{was_refused}
use Rattle.calendar_rules.specs.Calendar.{date_in_range, day_exists}
use Rattle.record_rules.specs.declared.Record.{Record}
use Rattle.record_rules.specs.declared.Record.TheVariants.{Dated, TimeOnly}
use Rattle.record_rules.specs.Rule.{status_allowed, weekday_allowed, weekday_agrees, time_allowed, time_alone_allowed, time_alone_refusal, dated_refusal, refusal_of}
use Rattle.places_rules.specs.Places.{fault_of, fixed_holds, decimal_holds, code_holds, every}
use Rattle.layouts_rules.specs.declared.Layout.{Layout}
use Rattle.layouts_rules.specs.Layouts.{places_of, layout_of}
use Rattle.trailer_rules.specs.declared.Order.{Order}
use Rattle.telegram_rules.specs.Reading.{body_in, framed, carried, body_refusal, read_in}
use Rattle.remote_rules.specs.declared.Command.{Command}
use Rattle.remote_rules.specs.declared.rows.Form.{Form}
use Rattle.remote_rules.specs.declared.rows.Form.TheVariants.{Tim, TimAsked, DifAsked, PosAsked}
use Rattle.remote_rules.specs.Rows.{is_command, is_named, by_sign, by_hemispheres, east_west_of, north_south_of, by_length, form_of}
use Rattle.remote_rules.specs.Reading.{digits_in, bytes_refusal, command_of}
use Rattle.remote_rules.specs.Reading as reading
use Rattle.remote_rules.proofs.NamesHold.{number_of, bytes_later}
use Rattle.message_rules.specs.declared.Message.TheVariants.{Stamp, Remote}
use Rattle.message_rules.specs.Messages.{message_of}

when_small : (n : ℕ) (holds : Bool) → n ≤ 8 → (n when holds) ≤ 8
when_small n true h = h
when_small n false h = omega arith

else_small : (a b : ℕ) → a ≤ 8 → b ≤ 8 → (a else b) ≤ 8
else_small zero b ha hb = hb
else_small (suc a) b ha hb = ha

record_small : (rec : Record) → refusal_of rec ≤ 8
unfolding dated_refusal time_alone_refusal
record_small (Dated layout status weekday date time) =
    else_small _ _ (when_small 5 (not (status_allowed layout status && weekday_allowed weekday)) (omega arith))
    (else_small _ _ (when_small 6 (not (time_allowed status date time && date_in_range date)) (omega arith))
    (else_small _ _ (when_small 7 (not (day_exists date)) (omega arith)) (when_small 8 (not (weekday_agrees weekday date)) (omega arith))))
record_small (TimeOnly layout time) = when_small 6 (not (time_alone_allowed time)) (omega arith)

fault_small : (characters decimals codes : Bool) → fault_of characters decimals codes ≤ 8
fault_small characters decimals codes =
    else_small _ _ (when_small 3 (not characters) (omega arith))
    (else_small _ _ (when_small 4 (not decimals) (omega arith)) (when_small 5 (not codes) (omega arith)))

body_small : (layout : Layout) (body : List ℕ) → body_refusal layout body ≤ 8
unfolding body_refusal
body_small layout body =
    else_small _ _ (fault_small (every fixed_holds (places_of layout) body) (every decimal_holds (places_of layout) body) (every code_holds (places_of layout) body)) (record_small (carried layout body))

-- where no length fits, it is 1
abbrev Small : Outcome Layout → Type 0
Small (done layout) = Unit {0}
Small (refused n) = n ≤ 8

cond_small : (t : Bool) (layout : Layout) (later : Outcome Layout) → Small later → Small (cond t (done layout) later)
cond_small true layout later h = tt
cond_small false layout later h = h

layout_small : (body : List ℕ) → Small (layout_of body)
unfolding layout_of
layout_small body =
    cond_small (eqb (length body) 16) _ _
    (cond_small (eqb (length body) 8) _ _
    (cond_small (eqb (length body) 18) _ _
    (cond_small (eqb (length body) 19) _ _
    (cond_small (eqb (length body) 23) _ _
    (cond_small (eqb (length body) 11) _ (refused 1) (omega arith))))))

read_number : (order : Order) (control : Bool) (bytes : List ℕ) (n : ℕ) → read_in order control bytes ≡ refused n → n ≤ 8
unfolding read_in
read_number order control bytes n e = go (layout_of (body_in order control bytes)) (layout_small (body_in order control bytes)) e
  where
    go : (found : Outcome Layout) → Small found
        → after found (λ layout. unless (2 when (control && not (framed bytes)) else body_refusal layout (body_in order control bytes)) (carried layout (body_in order control bytes))) ≡ refused n
        → n ≤ 8
    go (done layout) small e =
        let body = body_in order control bytes in
        let unframed = control && not (framed bytes) in
        let number = 2 when unframed else body_refusal layout body in
        omega (
          arith,
          was_refused number n (carried layout body) e,
          else_small (2 when unframed) (body_refusal layout body) (when_small 2 unframed (omega arith)) (body_small layout body),
        )
    go (refused k) small e = let same : k ≡ n = cc in omega (arith, same, small)

-- the numbers of reading
abbrev pub ReadingNumber : ℕ → Type 0
ReadingNumber n = (n ≤ 8) ⊎ (n ≡ 22)

abbrev OfForm : Outcome Form → Type 0
OfForm (done form) = Unit {0}
OfForm (refused n) = ReadingNumber n

by_length_number : (t u : Bool) (carrying asking : Form) → OfForm (cond t (done carrying) (cond u (done asking) (refused 1)))
by_length_number true u carrying asking = tt
by_length_number false true carrying asking = tt
by_length_number false false carrying asking = inl (omega arith)

form_number : (bytes : List ℕ) → OfForm (form_of bytes)
unfolding form_of
form_number bytes = go (is_named 0x54 0x49 0x4D bytes) (is_named 0x44 0x49 0x46 bytes) (is_named 0x50 0x4F 0x53 bytes)
  where
    size : ℕ
    size = length bytes

    go : (tim dif pos : Bool)
        → OfForm (cond tim (by_length size 30 Tim 10 TimAsked)
        (cond dif (by_length size 14 (by_sign (get_or bytes 5 0)) 8 DifAsked)
        (cond pos (by_length size 30 (by_hemispheres (east_west_of (get_or bytes 5 0)) (north_south_of (get_or bytes 17 0))) 8 PosAsked) (refused 22))))
    go true dif pos = by_length_number (eqb size 30) (eqb size 10) _ _
    go false true pos = by_length_number (eqb size 14) (eqb size 8) _ _
    go false false true = by_length_number (eqb size 30) (eqb size 8) _ _
    go false false false = inr refl

command_number : (bytes : List ℕ) (n : ℕ) → command_of bytes ≡ refused n → ReadingNumber n
unfolding command_of
command_number bytes n e = go (form_of bytes) (form_number bytes) e
  where
    go : (found : Outcome Form) → OfForm found
        → after found (λ form. unless (number_of bytes form) (reading.carried form bytes)) ≡ refused n → ReadingNumber n
    go (done form) small e =
        inl (omega (arith, was_refused (number_of bytes form) n (reading.carried form bytes) e, (bytes_later bytes form).0))
    go (refused k) small e = let same : k ≡ n = cc in rw (← same) small

-- and of a message
pub message_number : (order : Order) (bytes : List ℕ) (n : ℕ) → message_of order bytes ≡ refused n → ReadingNumber n
unfolding message_of
message_number order bytes n = go (is_command bytes)
  where
    of_command : (o : Outcome Command) → command_of bytes ≡ o → after o (λ told. done (Remote told)) ≡ refused n → ReadingNumber n
    of_command (done told) is e = let z : ◌≡◌ {A = ℕ} 0 1 = cc in absurd (omega arith)
    of_command (refused k) is e = let same : k ≡ n = cc in rw (← same) (command_number bytes k is)

    of_stamp : (o : Outcome Record) → read_in order true bytes ≡ o → after o (λ rec. done (Stamp rec)) ≡ refused n → ReadingNumber n
    of_stamp (done rec) is e = let z : ◌≡◌ {A = ℕ} 0 1 = cc in absurd (omega arith)
    of_stamp (refused k) is e = let same : k ≡ n = cc in inl (rw (← same) (read_number order true bytes k is))

    go : (t : Bool)
        → cond t (after (command_of bytes) (λ told. done (Remote told))) (after (read_in order true bytes) (λ rec. done (Stamp rec))) ≡ refused n
        → ReadingNumber n
    go true = of_command (command_of bytes) refl
    go false = of_stamp (read_in order true bytes) refl
