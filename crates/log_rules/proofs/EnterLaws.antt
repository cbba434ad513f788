-- Laws of one telegram more in a good block: what is read back, how it comes to stand there, and which bytes change.
-- Assumes nothing.
use mathlib.Core.Path.{◌≡◌, refl, ap, ap₂, sym, ◌∙◌}
use mathlib.Core.Bool.{true}
use mathlib.Core.List.{List, [], ◌∷◌, ◌++◌, append_assoc}
use mathlib.Core.Logic.{⊎_elim, inl, inr}
use Prim.Native.Nat.{ℕ, suc, ◌+◌, ◌*◌, ◌-◌, ◌≤◌, ◌<◌}
use native.Mathlib.Omega.{arith}
use lib.ListN.{length, take, drop, get_or, set, replicate, length-append, length-replicate}
use lib.ListN.{get_or-append}
use lib.Seq.{take-append-add, get_or-set_other, get_or-take, drop-drop, set_at, take_at, drop_at}
use Rattle.refusals.specs.Refusals.{done}
use Rattle.log_rules.specs.Check.{check_of, low_first}
use Rattle.log_rules.specs.Block.{slots, slot_size, count_place, check_place, block_size, filled, slot_of, slots_of, body_of, sealed}
use Rattle.log_rules.specs.Good.{count_in, telegrams_of, reads_well, is_kept, is_good}
use Rattle.log_rules.specs.Add.{entered}
use Rattle.log_rules.specs.ReadBack.{numbered, telegram_at}
use Rattle.log_rules.proofs.EitherLaws.{Beside}
use Rattle.log_rules.proofs.PartLaws.{put_length, put_byte}
use Rattle.log_rules.proofs.SameLaws.{fewer, zeros_join}
use Rattle.log_rules.proofs.BlockLaws.{reads_short, length_slot, length_slots, slots_more, count_telegrams}
use Rattle.log_rules.proofs.BlockLaws.{kept_short, kept_more, body_length, body_shape, block_shape}
use Rattle.log_rules.proofs.BlockLaws.{made_length, made_telegrams, made_good, good_kept, good_made, good_length}
use Rattle.log_rules.proofs.ReadBackLaws.{numbered_kept, numbered_last, good_slot}

-- a slot with a telegram laid at its front
abbrev pub laid_into : List ℕ → List ℕ → List ℕ
laid_into telegram slot = length telegram ∷ telegram ++ drop (suc (length telegram)) slot

-- another count, and what stands before the check
counted : (front last : List ℕ) (old new : ℕ) → length front ≡ count_place
    → take check_place (set (front ++ (old ∷ (replicate 29 0 ++ last))) count_place new) ≡ front ++ (new ∷ replicate 29 0)
counted front last old new size =
    let rest : List ℕ = replicate 29 0 ++ last in
    let whole : check_place ≡ length front + 30 = omega (arith, size) in
    ap (take check_place) (set_at front old rest new count_place size)
    ∙ ap (λ n. take n (front ++ (new ∷ rest))) whole
    ∙ take-append-add front (new ∷ rest) 30
    ∙ ap (λ z. front ++ (new ∷ z)) (take_at (replicate 29 0) last 29 (length-replicate {A = ℕ} 29 0))

module _ (block telegram : List ℕ) (good : is_good block ≡ true) (free : count_in block < slots)
    (reads : reads_well telegram ≡ true) where
  abbrev telegrams : List (List ℕ)
  telegrams = telegrams_of block

  abbrev more : List (List ℕ)
  more = telegrams ++ telegram ∷ []

  abbrev count : ℕ
  count = count_in block

  how_many : length telegrams ≡ count
  how_many = count_telegrams block

  more_kept : is_kept more ≡ true
  more_kept = kept_more telegrams telegram (good_kept block good) (omega (arith, how_many, free)) reads

  pub entered_length : length (entered block telegram) ≡ block_size
  entered_length = made_length more more_kept

  pub entered_good : is_good (entered block telegram) ≡ true
  entered_good = made_good more more_kept

  -- what is read back: the telegram behind those that were there, and those
  entered_slot : (slot : ℕ) → telegram_at slot (entered block telegram) ≡ numbered slot more
  entered_slot slot = good_slot (entered block telegram) slot entered_good ∙ ap (numbered slot) (made_telegrams more more_kept)

  pub entered_read : telegram_at count (entered block telegram) ≡ done telegram
  entered_read = entered_slot count ∙ ap (λ slot. numbered slot more) (sym how_many) ∙ numbered_last telegrams telegram

  pub entered_keeps : (slot : ℕ) (bytes : List ℕ) → telegram_at slot block ≡ done bytes
      → telegram_at slot (entered block telegram) ≡ done bytes
  entered_keeps slot bytes e =
      entered_slot slot ∙ numbered_kept slot telegrams (telegram ∷ []) bytes (sym (good_slot block slot good) ∙ e)

  -- the block with the telegram laid into its first free slot
  abbrev start : ℕ
  start = slot_size * count

  abbrev line : List ℕ
  line = length telegram ∷ telegram

  abbrev pub laid : List ℕ
  laid = take start block ++ laid_into telegram (drop start block)

  short : length telegram < slot_size
  short = reads_short telegram reads

  fits : start + suc (length telegram) ≤ length block
  fits = omega (arith, short, free, good_length block good)

  as_put : laid ≡ take start block ++ (line ++ drop (start + suc (length telegram)) block)
  as_put = ap (λ rest. take start block ++ (line ++ rest)) (drop-drop (suc (length telegram)) start block)

  pub laid_length : length laid ≡ block_size
  laid_length =
      ap length as_put
      ∙ put_length start (start + suc (length telegram)) line block refl fits
      ∙ good_length block good

  -- its bytes: the slots, the telegram and zeros, and what stood behind the slots
  abbrev bytes : List ℕ
  bytes = slots_of telegrams

  abbrev gap : List ℕ
  gap = replicate (count_place - start - suc (length telegram)) 0

  abbrev front : List ℕ
  front = bytes ++ (line ++ gap)

  abbrev last : List ℕ
  last = low_first (check_of (body_of telegrams))

  size : length bytes ≡ start
  size = length_slots telegrams (kept_short telegrams (good_kept block good)) ∙ ap (λ n. slot_size * n) how_many

  front_length : length front ≡ count_place
  front_length =
      omega (
        arith,
        length-append bytes (line ++ gap),
        length-append line gap,
        length-replicate {A = ℕ} (count_place - start - suc (length telegram)) 0,
        size,
        short,
        free,
      )

  shape : block ≡ bytes ++ (replicate (count_place - start) 0 ++ (count ∷ (replicate 29 0 ++ last)))
  shape =
      good_made block good
      ∙ block_shape telegrams (good_kept block good)
      ∙ ap₂ (λ k n. bytes ++ (replicate (count_place - k) 0 ++ (n ∷ (replicate 29 0 ++ last)))) size how_many

  laid_shape : laid ≡ front ++ (count ∷ (replicate 29 0 ++ last))
  laid_shape =
      let rest = count ∷ (replicate 29 0 ++ last) in
      let all : List ℕ = replicate (count_place - start) 0 ++ rest in
      let before = ap (take start) shape ∙ take_at bytes all start size in
      let behind = ap (drop start) shape ∙ drop_at bytes all start size in
      ap₂ (λ f b. f ++ laid_into telegram b) before behind
      ∙ ap (λ b. bytes ++ (line ++ b)) (fewer (count_place - start) (suc (length telegram)) rest (omega (arith, free, short)))
      ∙ ap (λ b. bytes ++ b) (sym (append_assoc line gap rest))
      ∙ sym (append_assoc bytes (line ++ gap) rest)

  -- and those of the block that the telegrams make
  more_front : slots_of more ++ replicate (count_place - length (slots_of more)) 0 ≡ front
  unfolding slot_of filled
  more_front =
      let inner = slot_size - suc (length telegram) in
      let outer = count_place - (start + slot_size) in
      let on = slots_more telegrams telegram in
      let total : length (slots_of more) ≡ start + slot_size =
      ap length on ∙ omega (arith, length-append bytes (slot_of telegram), size, length_slot telegram short) in
      let sum : inner + outer ≡ count_place - start - suc (length telegram) = omega (arith, short, free) in
      ap₂ (λ s n. s ++ replicate (count_place - n) 0) on total
      ∙ zeros_join bytes line inner outer
      ∙ ap (λ n. bytes ++ (line ++ replicate n 0)) sum

  more_body : body_of more ≡ front ++ ((count + 1) ∷ replicate 29 0)
  more_body =
      let total : length more ≡ count + 1 = omega (arith, length-append telegrams (telegram ∷ []), how_many) in
      body_shape more more_kept ∙ ap₂ (λ f n. f ++ (n ∷ replicate 29 0)) more_front total

  -- so with the count it is that block up to the check
  pub laid_body : take check_place (set laid count_place (count + 1)) ≡ body_of more
  laid_body =
      ap (λ b. take check_place (set b count_place (count + 1))) laid_shape
      ∙ counted front last count (count + 1) front_length
      ∙ sym more_body

  -- and only the bytes of the slot, the count and the check change
  pub entered_byte : (at : ℕ) → Beside at start slot_size → at < check_place → (at ≡ count_place → ⊥)
      → get_or (entered block telegram) at 0 ≡ get_or block at 0
  unfolding sealed
  entered_byte at apart unchecked uncounted =
      get_or-append (body_of more) (low_first (check_of (body_of more))) 0 at (omega (arith, body_length more more_kept))
      ∙ ap (λ body. get_or body at 0) (sym laid_body)
      ∙ get_or-take check_place (set laid count_place (count + 1)) at 0 unchecked
      ∙ get_or-set_other laid count_place at (count + 1) 0 uncounted
      ∙ ap (λ b. get_or b at 0) as_put
      ∙ put_byte start (start + suc (length telegram)) line block refl fits at
      (⊎_elim inl (λ past. inr (omega (arith, past, short))) apart)
