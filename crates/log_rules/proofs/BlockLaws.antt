-- Laws of a block and its telegrams: the block that they make is good and has them. Assumes nothing.
use mathlib.Core.Path.{◌≡◌, refl, ap, ap₂, sym, ◌∙◌}
use mathlib.Core.Bool.{true, false}
use mathlib.Core.List.{List, [], ◌∷◌, ◌++◌, append_assoc, append-nil}
use Prim.Native.Nat.{ℕ, zero, suc, ◌*◌, ◌-◌, ◌≤◌, ◌<◌}
use native.Mathlib.Omega.{arith}
use lib.Dec.{leb}
use lib.ListN.{length, take, drop, get_or, replicate, length-append}
use lib.Seq.{take-append_seam, ext_get_or, take_at, drop_at, get_or_at}
use borrow.Author.Tests.{leb-true, le-leb}
use Rattle.refusals.specs.Refusals.{Outcome, done, refused}
use Rattle.refusals.proofs.Laws.{both}
use Rattle.record_rules.specs.declared.Record.{Record}
use Rattle.layouts_rules.specs.Layouts.{own_layout}
use Rattle.layouts_rules.proofs.RowLaws.{row_length}
use Rattle.trailer_rules.specs.declared.Order.TheVariants.{AsPrinted}
use Rattle.telegram_rules.specs.Reading.{read_of}
use Rattle.telegram_rules.specs.Writing.{telegram_in as written}
use Rattle.telegram_rules.proofs.WriteLaws.{length_body, length_framed}
use Rattle.telegram_rules.proofs.InOrder.{length_telegram, accepted}
use Rattle.log_rules.specs.Check.{check_of, low_first}
use Rattle.log_rules.specs.Block.{slots, slot_size, count_place, check_place, block_size, filled, slot_of, slots_of, body_of, sealed, block_of}
use Rattle.log_rules.specs.Good.{count_in, telegram_in, telegrams_from, telegrams_of, is_done, reads_well, all_read_well, same, is_kept, is_good}
use Rattle.log_rules.specs.LongestTelegram.{NoneAcceptedIsLonger, ThatManyFitASlot}
use Rattle.log_rules.proofs.PartLaws.{behind_first}
use Rattle.log_rules.proofs.SameLaws.{same_true, same_refl, length_filled}

-- an accepted telegram has at most 30 bytes, and so it fits a slot
pub none_accepted_is_longer : NoneAcceptedIsLonger
none_accepted_is_longer order true telegram rec e =
    let size : length (written order true rec) ≡ length telegram = ap length (accepted order true telegram rec e).is_written in
    omega (arith, size, length_telegram order true rec, length_framed rec, length_body rec, (row_length (own_layout rec)).1)
none_accepted_is_longer order false telegram rec e =
    let size : length (written order false rec) ≡ length telegram = ap length (accepted order false telegram rec e).is_written in
    omega (arith, size, length_telegram order false rec, length_body rec, (row_length (own_layout rec)).1)

pub reads_short : (telegram : List ℕ) → reads_well telegram ≡ true → length telegram < slot_size
unfolding reads_well
reads_short telegram = go (read_of true telegram) refl
  where
    go : (o : Outcome Record) → read_of true telegram ≡ o → is_done o ≡ true → length telegram < slot_size
    go (done rec) e reads = omega (arith, none_accepted_is_longer AsPrinted true telegram rec e)
    go (refused n) e reads = let z : ◌≡◌ {A = ℕ} 0 1 = cc in absurd (omega arith)

-- telegrams that fit their slots
abbrev pub AllShort : List (List ℕ) → Type 0
AllShort [] = Unit {0}
AllShort (telegram ∷ telegrams) = (length telegram < slot_size) × AllShort telegrams

read_are_short : (telegrams : List (List ℕ)) → all_read_well telegrams ≡ true → AllShort telegrams
read_are_short [] e = tt
read_are_short (telegram ∷ telegrams) e =
    let parts = both (reads_well telegram) (all_read_well telegrams) e in
    (reads_short telegram parts.0, read_are_short telegrams parts.1)

pub length_slot : (telegram : List ℕ) → length telegram < slot_size → length (slot_of telegram) ≡ slot_size
unfolding slot_of
length_slot telegram short = length_filled slot_size (length telegram ∷ telegram) (omega arith)

pub length_slots : (telegrams : List (List ℕ)) → AllShort telegrams → length (slots_of telegrams) ≡ slot_size * length telegrams
length_slots [] short = refl
length_slots (telegram ∷ telegrams) short =
    omega (
      arith,
      length-append (slot_of telegram) (slots_of telegrams),
      length_slot telegram short.0,
      length_slots telegrams short.1,
    )

-- what a slot holds is the telegram that it was made of
slot_holds : (telegram : List ℕ) → telegram_in (slot_of telegram) ≡ telegram
unfolding telegram_in slot_of filled
slot_holds telegram = take-append_seam telegram (replicate (slot_size - suc (length telegram)) 0)

pub that_many_fit_a_slot : ThatManyFitASlot
that_many_fit_a_slot telegram short = (length_slot telegram (omega arith), slot_holds telegram)

-- the slot of a number
pub slot_at : (telegrams : List (List ℕ)) (rest : List ℕ) (at : ℕ) → AllShort telegrams → at < length telegrams
    → take slot_size (drop (slot_size * at) (slots_of telegrams ++ rest)) ≡ slot_of (get_or telegrams at [])
slot_at [] rest at short h = absurd (omega arith)
slot_at (telegram ∷ telegrams) rest zero short h =
    ap (take slot_size) (append_assoc (slot_of telegram) (slots_of telegrams) rest)
    ∙ take_at (slot_of telegram) (slots_of telegrams ++ rest) slot_size (length_slot telegram short.0)
slot_at (telegram ∷ telegrams) rest (suc at) short h =
    let bytes = slots_of (telegram ∷ telegrams) ++ rest in
    let behind : drop slot_size bytes ≡ slots_of telegrams ++ rest =
    ap (drop slot_size) (append_assoc (slot_of telegram) (slots_of telegrams) rest)
    ∙ drop_at (slot_of telegram) (slots_of telegrams ++ rest) slot_size (length_slot telegram short.0) in
    ap (take slot_size) (sym (behind_first slot_size at bytes) ∙ ap (drop (slot_size * at)) behind)
    ∙ slot_at telegrams rest at short.1 (omega arith)

-- so many telegrams, and the one of a number
count_from : (n : ℕ) (bytes : List ℕ) → length (telegrams_from n bytes) ≡ n
count_from zero bytes = refl
count_from (suc n) bytes = ap suc (count_from n (drop slot_size bytes))

pub count_telegrams : (block : List ℕ) → length (telegrams_of block) ≡ count_in block
unfolding telegrams_of
count_telegrams block = count_from (count_in block) block

telegram_at_law : (n at : ℕ) (bytes : List ℕ) → at < n
    → get_or (telegrams_from n bytes) at [] ≡ telegram_in (take slot_size (drop (slot_size * at) bytes))
telegram_at_law zero at bytes h = absurd (omega arith)
telegram_at_law (suc n) zero bytes h = refl
telegram_at_law (suc n) (suc at) bytes h =
    telegram_at_law n at (drop slot_size bytes) (omega arith)
    ∙ ap (λ rest. telegram_in (take slot_size rest)) (behind_first slot_size at bytes)

pub telegrams_at : (block : List ℕ) (at : ℕ) → at < count_in block
    → get_or (telegrams_of block) at [] ≡ telegram_in (take slot_size (drop (slot_size * at) block))
unfolding telegrams_of
telegrams_at block at h = telegram_at_law (count_in block) at block h

slots_hold : (telegrams : List (List ℕ)) (rest : List ℕ) → AllShort telegrams
    → telegrams_from (length telegrams) (slots_of telegrams ++ rest) ≡ telegrams
slots_hold telegrams rest short =
    let bytes = slots_of telegrams ++ rest in
    let size = count_from (length telegrams) bytes in
    ext_get_or [] (telegrams_from (length telegrams) bytes) telegrams size
    (λ at h.
    telegram_at_law (length telegrams) at bytes (omega (arith, size, h))
    ∙ ap telegram_in (slot_at telegrams rest at short (omega (arith, size, h)))
    ∙ slot_holds (get_or telegrams at []))

-- the slots with one telegram more
pub slots_more : (telegrams : List (List ℕ)) (telegram : List ℕ)
    → slots_of (telegrams ++ telegram ∷ []) ≡ slots_of telegrams ++ slot_of telegram
slots_more [] telegram = append-nil (slot_of telegram)
slots_more (first ∷ telegrams) telegram =
    ap (◌++◌ (slot_of first)) (slots_more telegrams telegram)
    ∙ sym (append_assoc (slot_of first) (slots_of telegrams) (slot_of telegram))

-- The sizes of what at most 15 telegrams that fit their slots make.
module _ (telegrams : List (List ℕ)) (few : length telegrams ≤ slots) (short : AllShort telegrams) where
  pub length_slot_part : length (filled count_place (slots_of telegrams)) ≡ count_place
  length_slot_part = length_filled count_place (slots_of telegrams) (omega (arith, length_slots telegrams short))

  pub length_counted : length (filled count_place (slots_of telegrams) ++ length telegrams ∷ []) ≡ suc count_place
  length_counted =
      omega (arith, length-append (filled count_place (slots_of telegrams)) (length telegrams ∷ []), length_slot_part)

  pub length_body_of : length (body_of telegrams) ≡ check_place
  unfolding body_of
  length_body_of =
      length_filled check_place (filled count_place (slots_of telegrams) ++ length telegrams ∷ []) (omega (arith, length_counted))

-- telegrams that read well, part by part
pub all_take : (n : ℕ) (telegrams : List (List ℕ)) → all_read_well telegrams ≡ true → all_read_well (take n telegrams) ≡ true
all_take zero telegrams all = refl
all_take (suc n) [] all = refl
all_take (suc n) (telegram ∷ telegrams) all =
    let parts = both (reads_well telegram) (all_read_well telegrams) all in
    rw parts.0 (all_take n telegrams parts.1)

pub all_drop : (n : ℕ) (telegrams : List (List ℕ)) → all_read_well telegrams ≡ true → all_read_well (drop n telegrams) ≡ true
all_drop zero telegrams all = all
all_drop (suc n) [] all = refl
all_drop (suc n) (telegram ∷ telegrams) all =
    all_drop n telegrams (both (reads_well telegram) (all_read_well telegrams) all).1

pub all_more : (telegrams more : List (List ℕ)) → all_read_well telegrams ≡ true → all_read_well more ≡ true
    → all_read_well (telegrams ++ more) ≡ true
all_more [] more all all_too = all_too
all_more (telegram ∷ telegrams) more all all_too =
    let parts = both (reads_well telegram) (all_read_well telegrams) all in
    rw parts.0 (all_more telegrams more parts.1 all_too)

-- telegrams that one block keeps
kept_parts : (telegrams : List (List ℕ)) → is_kept telegrams ≡ true → (length telegrams ≤ slots) × (all_read_well telegrams ≡ true)
unfolding is_kept
kept_parts telegrams kept =
    let parts = both (leb (length telegrams) slots) (all_read_well telegrams) kept in
    (leb-true (length telegrams) slots parts.0, parts.1)

pub kept_by : (telegrams : List (List ℕ)) → length telegrams ≤ slots → all_read_well telegrams ≡ true → is_kept telegrams ≡ true
unfolding is_kept
kept_by telegrams few all = rw (le-leb (length telegrams) slots few) all

pub kept_more : (telegrams : List (List ℕ)) (telegram : List ℕ) → is_kept telegrams ≡ true → length telegrams < slots
    → reads_well telegram ≡ true
    → is_kept (telegrams ++ telegram ∷ []) ≡ true
kept_more telegrams telegram kept free reads =
    kept_by (telegrams ++ telegram ∷ [])
    (omega (arith, length-append telegrams (telegram ∷ [])))
    (all_more telegrams (telegram ∷ []) (kept_parts telegrams kept).1 (rw reads))

-- What they make.
module _ (telegrams : List (List ℕ)) (kept : is_kept telegrams ≡ true) where
  pub kept_count : length telegrams ≤ slots
  kept_count = (kept_parts telegrams kept).0

  pub kept_short : AllShort telegrams
  kept_short = read_are_short telegrams (kept_parts telegrams kept).1

  pub body_length : length (body_of telegrams) ≡ check_place
  body_length = length_body_of telegrams kept_count kept_short

  pub made_length : length (block_of telegrams) ≡ block_size
  unfolding sealed
  made_length = omega (arith, length-append (body_of telegrams) (low_first (check_of (body_of telegrams))), body_length)

  abbrev bytes : List ℕ
  bytes = slots_of telegrams

  abbrev gap : List ℕ
  gap = replicate (count_place - length bytes) 0

  abbrev last : List ℕ
  last = low_first (check_of (body_of telegrams))

  -- the slots, zeros, the count, zeros
  pub body_shape : body_of telegrams ≡ (bytes ++ gap) ++ (length telegrams ∷ replicate 29 0)
  unfolding body_of filled
  body_shape =
      let counted = length_counted telegrams kept_count kept_short in
      let left : check_place - length (filled count_place bytes ++ length telegrams ∷ []) ≡ 29 = omega (arith, counted) in
      ap (λ k. ((bytes ++ gap) ++ length telegrams ∷ []) ++ replicate k 0) left
      ∙ append_assoc (bytes ++ gap) (length telegrams ∷ []) (replicate 29 0)

  -- and behind them the check
  whole_shape : block_of telegrams ≡ (bytes ++ gap) ++ (length telegrams ∷ (replicate 29 0 ++ last))
  unfolding sealed
  whole_shape =
      ap (λ body. body ++ last) body_shape ∙ append_assoc (bytes ++ gap) (length telegrams ∷ replicate 29 0) last

  pub block_shape : block_of telegrams ≡ bytes ++ (gap ++ (length telegrams ∷ (replicate 29 0 ++ last)))
  block_shape = whole_shape ∙ append_assoc bytes gap (length telegrams ∷ (replicate 29 0 ++ last))

  pub made_count : count_in (block_of telegrams) ≡ length telegrams
  unfolding filled
  made_count =
      ap (λ block. get_or block count_place 0) whole_shape
      ∙ get_or_at (bytes ++ gap) (length telegrams) (replicate 29 0 ++ last) 0 count_place
      (length_slot_part telegrams kept_count kept_short)

  pub made_telegrams : telegrams_of (block_of telegrams) ≡ telegrams
  unfolding telegrams_of
  made_telegrams = ap₂ telegrams_from made_count block_shape ∙ slots_hold telegrams _ kept_short

  pub made_good : is_good (block_of telegrams) ≡ true
  unfolding is_good
  made_good = rw (made_telegrams, kept) (same_refl (block_of telegrams))

-- A good block is made by its telegrams.
module _ (block : List ℕ) (good : is_good block ≡ true) where
  good_parts : (is_kept (telegrams_of block) ≡ true) × (same block (block_of (telegrams_of block)) ≡ true)
  unfolding is_good
  good_parts = both (is_kept (telegrams_of block)) (same block (block_of (telegrams_of block))) good

  pub good_kept : is_kept (telegrams_of block) ≡ true
  good_kept = good_parts.0

  pub good_made : block ≡ block_of (telegrams_of block)
  good_made = same_true block (block_of (telegrams_of block)) good_parts.1

  pub good_length : length block ≡ block_size
  good_length = ap length good_made ∙ made_length (telegrams_of block) good_kept

-- a zeroed block is the one that no telegrams make
pub none_kept : is_kept [] ≡ true
none_kept = kept_by [] (omega arith) refl

pub zeroed_made : replicate block_size 0 ≡ block_of []
unfolding sealed body_of filled check_of
zeroed_made = refl
