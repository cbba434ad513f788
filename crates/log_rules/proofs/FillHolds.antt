-- Adds into zeroed blocks fill 15 a block in order. Assumes nothing.
use mathlib.Core.Path.{◌≡◌, refl, ap, sym, ◌∙◌}
use mathlib.Core.Bool.{true}
use mathlib.Core.List.{List, [], ◌∷◌, ◌++◌, append-nil, append_assoc}
use Prim.Native.Nat.{ℕ, suc, ◌+◌, ◌*◌, ◌%◌, ◌/◌, ◌≤◌}
use native.Mathlib.Omega.{arith}
use lib.ListN.{length, length-append}
use Rattle.refusals.specs.Refusals.{done}
use Rattle.refusals.proofs.Laws.{both}
use Rattle.log_rules.specs.Block.{slots}
use Rattle.log_rules.specs.Good.{reads_well, all_read_well}
use Rattle.log_rules.specs.Add.{place_at, place_for}
use Rattle.log_rules.specs.OfTheLog.{add_all, places_from, AddsFillZeroedBlocksInOrder}
use Rattle.log_rules.proofs.BlockLaws.{all_more}
use Rattle.log_rules.proofs.FillLaws.{packed, zeroed_packed, no_place, add_packed}

-- telegrams behind those that a region holds
fills : (blocks : ℕ) (held telegrams : List (List ℕ)) → all_read_well held ≡ true → all_read_well telegrams ≡ true
    → length held + length telegrams ≤ slots * blocks
    → add_all telegrams (packed blocks held) ≡ (places_from (length held) (length telegrams), packed blocks (held ++ telegrams))
fills blocks held [] all all_too room = ap (λ both. ([], packed blocks both)) (sym (append-nil held))
fills blocks held (telegram ∷ telegrams) all all_too room =
    let parts = both (reads_well telegram) (all_read_well telegrams) all_too in
    let one : all_read_well (telegram ∷ []) ≡ true = rw parts.0 in
    let size : length (held ++ telegram ∷ []) ≡ suc (length held) = omega (arith, length-append held (telegram ∷ [])) in
    let place = place_at (length held / slots) (length held % slots) in
    ap (λ added. (added.0 ∷ (add_all telegrams added.1).0, (add_all telegrams added.1).1))
    (add_packed blocks held telegram all parts.0 (omega arith))
    ∙ ap (λ later. (done place ∷ later.0, later.1))
    (fills blocks (held ++ telegram ∷ []) telegrams (all_more held (telegram ∷ []) all one) parts.1 (omega arith))
    ∙ (λ i. (done place ∷ places_from (size i) (length telegrams), packed blocks (append_assoc held (telegram ∷ []) telegrams i)))

pub adds_fill_zeroed_blocks_in_order : AddsFillZeroedBlocksInOrder
adds_fill_zeroed_blocks_in_order blocks telegrams all room =
    let filled = ap (add_all telegrams) (zeroed_packed blocks) ∙ fills blocks [] telegrams refl all (omega arith) in (
      ap (λ answers. answers.0) filled,
      λ telegram full reads.
          ap (λ answers. place_for answers.1 telegram) filled ∙ no_place blocks telegrams telegram all reads full,
    )
