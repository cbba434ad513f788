-- What reading refuses with is no larger than 8, so that its row has room. Assumes nothing.
use mathlib.Core.Path.{◌≡◌}
use mathlib.Core.Bool.{Bool, true, false, cond, not, ◌&&◌}
use mathlib.Core.List.{List}
use Prim.Native.Nat.{ℕ, zero, suc, ◌≤◌}
use native.Mathlib.Omega.{arith}
use lib.Dec.{eqb}
use lib.ListN.{length}
use Rattle.refusals.specs.Refusals.{◌when◌, ◌else◌, Outcome, done, refused, unless, after}
use Rattle.refusals.proofs.Laws.{was_refused}
use Rattle.calendar_rules.specs.Calendar.{date_in_range, day_exists}
use Rattle.record_rules.specs.declared.Record.{Record}
use Rattle.record_rules.specs.declared.Record.TheVariants.{Dated, TimeOnly}
use Rattle.record_rules.specs.Rule.{status_allowed, weekday_allowed, weekday_agrees, time_allowed, time_alone_allowed, time_alone_refusal, dated_refusal, refusal_of}
use Rattle.places_rules.specs.Places.{fault_of, fixed_holds, decimal_holds, code_holds, every}
use Rattle.layouts_rules.specs.declared.Layout.{Layout}
use Rattle.layouts_rules.specs.Layouts.{places_of, layout_of}
use Rattle.trailer_rules.specs.declared.Order.{Order}
use Rattle.telegram_rules.specs.Reading.{body_in, framed, carried, body_refusal, read_in}

when_small : (n : ℕ) (holds : Bool) → n ≤ 8 → (n when holds) ≤ 8
when_small n true h = h
when_small n false h = omega arith

else_small : (a b : ℕ) → a ≤ 8 → b ≤ 8 → (a else b) ≤ 8
else_small zero b ha hb = hb
else_small (suc a) b ha hb = ha

record_small : (rec : Record) → refusal_of rec ≤ 8
unfolding dated_refusal time_alone_refusal
record_small (Dated layout status weekday date time) =
    else_small _ _ (when_small 5 (not (status_allowed layout status && weekday_allowed weekday)) (omega arith))
    (else_small _ _ (when_small 6 (not (time_allowed status date time && date_in_range date)) (omega arith))
    (else_small _ _ (when_small 7 (not (day_exists date)) (omega arith)) (when_small 8 (not (weekday_agrees weekday date)) (omega arith))))
record_small (TimeOnly layout time) = when_small 6 (not (time_alone_allowed time)) (omega arith)

fault_small : (characters decimals codes : Bool) → fault_of characters decimals codes ≤ 8
fault_small characters decimals codes =
    else_small _ _ (when_small 3 (not characters) (omega arith))
    (else_small _ _ (when_small 4 (not decimals) (omega arith)) (when_small 5 (not codes) (omega arith)))

body_small : (layout : Layout) (body : List ℕ) → body_refusal layout body ≤ 8
unfolding body_refusal
body_small layout body =
    else_small _ _ (fault_small (every fixed_holds (places_of layout) body) (every decimal_holds (places_of layout) body) (every code_holds (places_of layout) body)) (record_small (carried layout body))

-- where no length fits, it is 1
abbrev Small : Outcome Layout → Type 0
Small (done layout) = Unit {0}
Small (refused n) = n ≤ 8

cond_small : (t : Bool) (layout : Layout) (later : Outcome Layout) → Small later → Small (cond t (done layout) later)
cond_small true layout later h = tt
cond_small false layout later h = h

layout_small : (body : List ℕ) → Small (layout_of body)
unfolding layout_of
layout_small body =
    cond_small (eqb (length body) 16) _ _
    (cond_small (eqb (length body) 8) _ _
    (cond_small (eqb (length body) 18) _ _
    (cond_small (eqb (length body) 19) _ _
    (cond_small (eqb (length body) 23) _ _
    (cond_small (eqb (length body) 11) _ (refused 1) (omega arith))))))

pub read_number : (order : Order) (control : Bool) (bytes : List ℕ) (n : ℕ) → read_in order control bytes ≡ refused n → n ≤ 8
unfolding read_in
read_number order control bytes n e = go (layout_of (body_in order control bytes)) (layout_small (body_in order control bytes)) e
  where
    go : (found : Outcome Layout) → Small found
        → after found (λ layout. unless (2 when (control && not (framed bytes)) else body_refusal layout (body_in order control bytes)) (carried layout (body_in order control bytes))) ≡ refused n
        → n ≤ 8
    go (done layout) small e =
        let body = body_in order control bytes in
        let unframed = control && not (framed bytes) in
        let number = 2 when unframed else body_refusal layout body in
        omega (
          arith,
          was_refused number n (carried layout body) e,
          else_small (2 when unframed) (body_refusal layout body) (when_small 2 unframed (omega arith)) (body_small layout body),
        )
    go (refused k) small e = let same : k ≡ n = cc in omega (arith, same, small)
