-- `places::scan` meets its contract.
use native.Mathlib.Omega.{arith}
use mathlib.Core.Path.{◌≡◌, ap, sym, ◌∙◌}
use Prim.Native.Nat.{◌%◌}
use lib.ListN.{get_or, set}
use Rattle.std.specs.Prelude.{ℕ, false, Option}
use Rattle.std.specs.Option.{is_some}
use Rattle.refusals.specs.declared.Refusal.{Refusal}
use Rattle.refusals.specs.Refusals.{lower}
use Rattle.refusals.specs.Numbers.{number_if}
use Rattle.refusals.proofs.NumberLaws.{number_if_none}
use Rattle.places_rules.specs.Places.{Finding, slots}
use Rattle.places_rules.proofs.Scanning.{onward_all, onward_step, onward_ends}
use Rattle.places.proofs.scan.Goals as goal
use Rattle.places.proofs.scan.Goals.{then-is_some, else-is_some}

pub loop-at-init : goal.loop-at-init
loop-at-init c = onward_all _ _

-- where there is no fault, what stood before is the lower of the two
none_lowers : (here : Option Refusal) (before : ℕ) → is_some here ≡ false → before ≡ lower (number_if here) before
none_lowers here before e = rw (number_if_none here e)

pub loop-at-preserved : goal.loop-at-preserved
loop-at-preserved c =
    let l = c.loop-at in
    let args = c.args in
    let so_far : Finding = record { digits = l.digits; fault = number_if l.fault } in
    let lowered : number_if c.if-is_some.fault ≡ lower (number_if c.see-seen.result.fault) (number_if l.fault) =
    elim c.if-is_some.branch [
      | then-is_some w ↦ ap number_if w.fault-is ∙ w.lowest-fault.ensures
      | else-is_some w ↦ ap number_if w.fault-is ∙ none_lowers c.see-seen.result.fault _ (sym c.is_some.ensures ∙ w.if-is_some.false)
    ] in
    onward_step args.row.now args.bytes.now l.at so_far _ (omega arith) (omega arith)
    (ap (set l.digits (get_or args.row.now l.at 0 % slots)) c.see-seen.ensures.0)
    (lowered ∙ ap (λ f. lower f (number_if l.fault)) c.see-seen.ensures.1)
    ∙ l.invariant

pub returns : goal.returns
returns c =
    let args = c.args in
    sym (onward_ends args.row.now args.bytes.now c.loop-at.at _ (omega arith)) ∙ c.loop-at.invariant
