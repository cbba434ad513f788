-- `line::pieces::use_up` meets its contract. The loop's invariant: the events so far, and what the rest of the piece still gives.
use Rattle.std.proofs.Common.{◌≡◌, ℕ, zero, suc, ◌-◌, ◌<◌, List, [], ◌∷◌, length, take, drop, set, sym, refl, ap, ◌∙◌, arith, length-drop, length-set, length-take}
use Rattle.std.specs.Prelude.{map, Option, None, Some, Result, Ok}
use Rattle.refusals.specs.declared.Refusal.{Refusal}
use lib.ListN.{length-map}
use Rattle.line_rules.specs.declared.Event.{Event}
use Rattle.line_rules.specs.Hearing.{heard_as}
use Rattle.line.specs.Readers.{fed_as}
use Rattle.line.specs.Pieces.{room, pass_on, passing, slot_as, passed_for}
use Rattle.line.proofs.PieceLaws.{feed_fits, at_first, still_empty, ends_with, goes_on, full_ends}
use Rattle.line.proofs.pieces.use_up.Goals as goal

-- an event put into its place is put into its slot
slots_set : (events : List (Option Event)) (at : ℕ) (event : Option Event) → map slot_as (set events at event) ≡ set (map slot_as events) at (slot_as event)
slots_set [] at event = refl
slots_set (first ∷ events) zero event = refl
slots_set (first ∷ events) (suc at) event = ap (◌∷◌ (slot_as first)) (slots_set events at event)

heard_is : (heard : Result (Option Event) Refusal) (found event : Option Event) → heard ≡ Ok found → found ≡ event → heard_as heard ≡ heard_as (Ok event)
heard_is heard found event is same = ap heard_as (is ∙ ap Ok same)

pub loop-count-init : goal.loop-count-init
loop-count-init c = (omega arith, refl, refl, sym (at_first (passing room c.args.reader c.args.piece.now)))

pub overflow_add-taken : goal.overflow_add-taken
overflow_add-taken c =
    let l = c.loop-count in
    let piece = c.args.piece.now in
    let left = drop l.taken piece in
    let rest = take (length piece - l.taken) left in
    omega (
      arith,
      ap (λ f. f.taken) c.feed-fed.ensures,
      feed_fits l.reader rest,
      length-take (length piece - l.taken) left,
      length-drop l.taken piece,
      l.invariant.0,
    )

pub returns-in-Ok-None : goal.returns-in-Ok-None
returns-in-Ok-None c =
    let l = c.loop-count in
    let fed = fed_as c.feed-fed.result in
    let piece = c.args.piece.now in
    let passed = passed_for (passing room c.args.reader piece) in
    let free : l.count < room = omega arith in
    let nothing = heard_is _ _ None c.in-Ok-None.is (rw c.in-Ok-None.is at c.in-Ok-None.field-0-is) in
    ends_with passed (map slot_as l.events) l.count l.taken l.reader piece fed free l.invariant.2 l.invariant.3 c.feed-fed.ensures
    0 (λ on. ap (λ h. pass_on h fed on) nothing)

pub returns-in-Err : goal.returns-in-Err
returns-in-Err c =
    let l = c.loop-count in
    let fed = fed_as c.feed-fed.result in
    let piece = c.args.piece.now in
    let passed = passed_for (passing room c.args.reader piece) in
    let free : l.count < room = omega arith in
    ends_with passed (map slot_as l.events) l.count l.taken l.reader piece fed free l.invariant.2 l.invariant.3 c.feed-fed.ensures
    _ (λ on. ap (λ h. pass_on h fed on) (ap heard_as c.in-Err.is))

pub loop-count-preserved : goal.loop-count-preserved
loop-count-preserved c =
    let l = c.loop-count in
    let fed = fed_as c.feed-fed.result in
    let piece = c.args.piece.now in
    let passed = passed_for (passing room c.args.reader piece) in
    let left = drop l.taken piece in
    let rest = take (length piece - l.taken) left in
    let free : l.count < room = omega arith in
    let event = Some c.in-Ok-Some.event in
    let told = heard_is _ _ event c.in-Ok-Some.is (rw c.in-Ok-Some.is at c.in-Ok-Some.field-0-is) in
    let put = slots_set l.events l.count event in
    let slots = map slot_as l.events in
    let all = length-map l.events slot_as ∙ l.invariant.1 in (
      omega (
        arith,
        ap (λ f. f.taken) c.feed-fed.ensures,
        feed_fits l.reader rest,
        length-take (length piece - l.taken) left,
        length-drop l.taken piece,
        l.invariant.0,
      ),
      length-set l.events l.count event ∙ l.invariant.1,
      rw put (still_empty slots l.count (slot_as event) free l.invariant.2),
      rw (put, ← told)
          (goes_on passed slots l.count l.taken l.reader piece fed free l.invariant.2 l.invariant.3 c.feed-fed.ensures told all),
    )

pub returns : goal.returns
returns c =
    let l = c.loop-count in
    let slots = map slot_as l.events in
    let all : room ≡ l.count = omega arith in
    (λ i. record { slots = slots; count = all i; reader = l.reader; taken = l.taken; refusal = 0 })
    ∙ full_ends slots l.count l.taken l.reader (drop l.taken c.args.piece.now) (omega arith) l.invariant.2
    ∙ sym l.invariant.3
