-- `delivery_log::block::slots_fit` meets its contract.
use Rattle.std.proofs.Common.{◌≡◌, refl, ap, ap₂, ◌∙◌, ℕ, zero, suc, ◌*◌, ◌+◌, ◌<◌, ◌≤◌, List, [], ◌∷◌, ◌++◌, length, take, drop, arith, rules, tests, length-append}
use Rattle.std.specs.List.{list_all}
use Rattle.std.specs.Iterator.Adapters.{take_source, take_count, take_steps}
use Rattle.std.specs.Slice.Iter.{chunks_exact_rest, chunks_exact_size, chunks_exact_steps}
use Rattle.std.proofs.lemmas.Iterator.Search.{all_from_yields_List}
use Rattle.std.proofs.lemmas.Iterator.Splits.{YieldsList-from_shown_while}
use lib.Seq.{take_at, drop_at}
use Rattle.log_rules.specs.Block.{slot_size}
use Rattle.log_rules.specs.Tests.{slot_fits, slots_fit}
use Rattle.delivery_log.proofs.block.slots_fit.Goals as goal

-- so many slots, one by one
abbrev slots_in : ℕ → List ℕ → List (List ℕ)
slots_in zero bytes = []
slots_in (suc n) bytes = take slot_size bytes ∷ slots_in n (drop slot_size bytes)

each_fits : (n : ℕ) (bytes : List ℕ) → list_all slot_fits (slots_in n bytes) ≡ slots_fit n bytes
each_fits zero bytes = refl
each_fits (suc n) bytes = rw (each_fits n (drop slot_size bytes))

first_in : (count more : ℕ) (left slot rest : List ℕ) → more + 1 ≡ count → left ≡ slot ++ rest → length slot ≡ slot_size
    → slots_in count left ≡ slot ∷ slots_in more rest
first_in count more left slot rest one parted size =
    let next : count ≡ suc more = omega arith in
    rw (next, parted, take_at slot rest slot_size size, drop_at slot rest slot_size size)

none_in : (n : ℕ) (bytes : List ℕ) → slot_size * n ≤ length bytes → (0 < n → length bytes < slot_size) → length (slots_in n bytes) ≡ 0
none_in zero bytes fits none = refl
none_in (suc n) bytes fits none = absurd (omega (arith, none (omega arith)))

pub returns : goal.returns
returns c =
    let source = c.take.ensures.source in
    let left = ap chunks_exact_rest source ∙ c.chunks_exact.ensures.rest in
    all_from_yields_List slot_fits _ _ _ c.all.ensures.ran
    (YieldsList-from_shown_while (take_steps chunks_exact_steps) (λ slot. slot.now)
    (λ t. slots_in (take_count t) (chunks_exact_rest (take_source t)))
    (λ t. (chunks_exact_size (take_source t) ≡ slot_size) × (slot_size * take_count t ≤ length (chunks_exact_rest (take_source t))))
    (λ t u held step. none_in _ _ held.1 (λ some. omega (arith, (step some).1.0, held.0)))
    (λ t slot u held step. (
      (step.0.0 ∙ held.0, omega (arith, held.1, step.1, ap length step.0.1.0 ∙ length-append slot.now _)),
      first_in _ _ _ slot.now _ step.1 step.0.1.0 (step.0.1.1 ∙ held.0),
    ))
    c.take.result
    (ap chunks_exact_size source ∙ c.chunks_exact.ensures.size, omega (arith, c.requires, ap length left, c.take.ensures.count)))
    (λ slot fits q called. search (rules, tests))
    ∙ ap₂ (λ n bytes. list_all slot_fits (slots_in n bytes)) c.take.ensures.count left
    ∙ each_fits c.args.count c.args.block.now
