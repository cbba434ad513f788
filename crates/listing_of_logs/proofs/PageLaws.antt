-- Laws of the rows of a good block, laid one behind another in a page. Assumes nothing.
use mathlib.Core.Path.{◌≡◌, ap, ap₂, sym, ◌∙◌}
use mathlib.Core.Bool.{true}
use mathlib.Core.List.{List, ◌∷◌, ◌++◌, append_assoc, append-nil}
use Prim.Native.Nat.{ℕ, zero, suc, ◌+◌, ◌*◌, ◌-◌, ◌^◌, ◌≤◌, ◌<◌}
use native.Mathlib.Numerals.{add-one}
use native.Mathlib.Omega.{arith}
use lib.Dec.{leb}
use lib.ListN.{length, take, drop, length-append, length-drop}
use lib.Seq.{drop-drop, length-take-le, take_at, drop_at}
use borrow.Rule.Slice.PartMut.{put_mid}
use Rattle.refusals.specs.Refusals.{Outcome, done, refused}
use Rattle.refusals.proofs.Laws.{both}
use Rattle.lent_buffer.specs.Laying.{laid}
use Rattle.lent_buffer.proofs.LayingLaws.{laid_fits}
use Rattle.lent_buffer.proofs.TailLaws.{tail_lent, tail_back}
use Rattle.log_rules.specs.Block.{slots, slot_size, block_size}
use Rattle.log_rules.specs.Good.{count_in, telegram_in, telegrams_from, telegrams_of, reads_well, all_read_well, is_kept, is_good}
use Rattle.log_rules.proofs.BlockLaws.{count_telegrams, good_kept, kept_count}
use Rattle.listing_rules.specs.LogRows.{longest_log_row}
use Rattle.listing_of_logs.specs.LogPages.{row_of, bytes_of, rows_from, page_room}
use Rattle.listing_of_logs.proofs.RowLaws.{HasRow, has_row}

-- the telegrams from a slot on
abbrev pub left : ℕ → ℕ → List ℕ → List (List ℕ)
left count at block = telegrams_from (count - at) (drop (slot_size * at) block)

-- while a page is filled: so many rows stand in its front
pub record Filling (number : ℕ) (block page : List ℕ) (count at used : ℕ) : Type 0 where
  pub inside : at ≤ count
  pub few : count ≤ slots
  pub room : length page ≡ page_room
  pub fits : used ≤ longest_log_row * at
  pub reads : all_read_well (left count at block) ≡ true
  pub so_far : take used page ++ rows_from number at (left count at block) ≡ rows_from number 0 (telegrams_of block)

all_left : (block : List ℕ) → left (count_in block) 0 block ≡ telegrams_of block
unfolding telegrams_of
all_left block = let all : count_in block - 0 ≡ count_in block = omega arith in ap (λ n. telegrams_from n block) all

good_reads : (telegrams : List (List ℕ)) → is_kept telegrams ≡ true → all_read_well telegrams ≡ true
unfolding is_kept
good_reads telegrams kept = (both (leb (length telegrams) slots) (all_read_well telegrams) kept).1

pub none_yet : (number : ℕ) (block page : List ℕ) → is_good block ≡ true → length page ≡ page_room → Filling number block page (count_in block) 0 0
none_yet number block page good room =
    let kept = good_kept block good in
    record {
      inside = omega arith;
      few = omega (arith, count_telegrams block, kept_count (telegrams_of block) kept);
      room = room;
      fits = omega arith;
      reads = ap all_read_well (all_left block) ∙ good_reads (telegrams_of block) kept;
      so_far = ap (rows_from number 0) (all_left block);
    }

-- where no slot comes, all are taken
pub all_taken : (block left : List ℕ) (count at : ℕ) → length block ≡ block_size → count ≤ slots → left ≡ drop (slot_size * at) block
    → (n : ℕ) → n + at ≡ count → (0 < n → length left < slot_size) → count ≤ at
all_taken block left count at long few behind zero sum none = omega arith
all_taken block left count at long few behind (suc n) sum none =
    absurd (omega (arith, none (omega arith), ap length behind, length-drop (slot_size * at) block))

module _ (number : ℕ) (block page : List ℕ) (count at used : ℕ) (filling : Filling number block page count at used) where
  pub inside_page : used ≤ length page
  inside_page = omega (arith, filling.inside, filling.few, filling.room, filling.fits)

  -- all rows stand
  pub full : count ≤ at → take used page ≡ rows_from number 0 (telegrams_of block)
  full over =
      let none : count - at ≡ 0 = omega arith in
      sym (append-nil (take used page))
      ∙ ap (λ n. take used page ++ rows_from number at (telegrams_from n (drop (slot_size * at) block))) (sym none)
      ∙ filling.so_far

  -- one more
  module _ (wide : number < 2 ^ 64) (more : at < count) (left_slots slot rest : List ℕ) (behind : left_slots ≡ drop (slot_size * at) block)
      (parted : left_slots ≡ slot ++ rest) (size : length slot ≡ slot_size) (now : ℕ) (is_now : now ≡ at) (answer : Outcome ℕ) (last : List ℕ)
      (told : laid (row_of number now (telegram_in slot)) (take (length page - used) (drop used page)) ≡ (answer, last)) where
    cut : drop (slot_size * at) block ≡ slot ++ rest
    cut = sym behind ∙ parted

    slot_is : slot ≡ take slot_size (drop (slot_size * at) block)
    slot_is = sym (ap (take slot_size) cut ∙ take_at slot rest slot_size size)

    pub left_behind : rest ≡ drop (slot_size * (at + 1)) block
    left_behind =
        let on : slot_size * at + slot_size ≡ slot_size * (at + 1) = omega arith in
        sym (drop_at slot rest slot_size size)
        ∙ ap (drop slot_size) (sym cut)
        ∙ drop-drop slot_size (slot_size * at) block
        ∙ ap (λ n. drop n block) on

    abbrev others : List (List ℕ)
    others = left count (at + 1) block

    first_left : left count at block ≡ telegram_in slot ∷ others
    first_left =
        let less : count - at ≡ suc (count - (at + 1)) = omega arith in
        let on : slot_size * at + slot_size ≡ slot_size * (at + 1) = omega arith in
        ap (λ n. telegrams_from n (drop (slot_size * at) block)) less
        ∙ ap₂ (λ s rest. telegram_in s ∷ telegrams_from (count - (at + 1)) rest) (sym slot_is)
        (drop-drop slot_size (slot_size * at) block ∙ ap (λ n. drop n block) on)

    read_on : (reads_well (telegram_in slot) ≡ true) × (all_read_well others ≡ true)
    read_on = both (reads_well (telegram_in slot)) (all_read_well others) (ap all_read_well (sym first_left) ∙ filling.reads)

    here : HasRow number at (telegram_in slot)
    here = has_row number at (telegram_in slot) wide (omega (arith, filling.few)) read_on.0

    abbrev row : List ℕ
    row = here.row

    laid_so : laid (row_of number at (telegram_in slot)) (take (length page - used) (drop used page)) ≡ (done (length row), row ++ drop (length row) (drop used page))
    laid_so =
        ap₂ laid here.is (tail_lent used page used (omega (arith, inside_page)))
        ∙ laid_fits row (drop used page) (omega (arith, here.short, length-drop used page, filling.few, filling.room, filling.fits))

    told_here : laid (row_of number at (telegram_in slot)) (take (length page - used) (drop used page)) ≡ (answer, last)
    told_here = ap (λ n. laid (row_of number n (telegram_in slot)) (take (length page - used) (drop used page))) (sym is_now) ∙ told

    answer_is : answer ≡ done (length row)
    answer_is = ap (λ p. p.0) (sym told_here ∙ laid_so)

    last_is : last ≡ row ++ drop (length row) (drop used page)
    last_is = ap (λ p. p.1) (sym told_here ∙ laid_so)

    pub not_refused : (n : ℕ) → answer ≡ refused n → ⊥
    not_refused n e = let z : ◌≡◌ {A = ℕ} 0 1 = cc (answer_is) in omega arith

    abbrev next_page : List ℕ
    next_page = put_mid used (length page - used) page last

    next_is_law : next_page ≡ (take used page ++ row) ++ drop (length row) (drop used page)
    next_is_law =
        tail_back used page used last (omega (arith, inside_page))
        ∙ ap (◌++◌ (take used page)) last_is
        ∙ sym (append_assoc (take used page) row (drop (length row) (drop used page)))

    front : length (take used page ++ row) ≡ used + length row
    front = length-append (take used page) row ∙ ap (λ n. n + length row) (length-take-le used page inside_page)

    pub one_more : (n : ℕ) → answer ≡ done n → Filling number block next_page count (at + 1) (used + n)
    one_more n e =
        let size : length row ≡ n = cc (answer_is) in
        record {
          inside = omega arith;
          few = filling.few;
          room =
              ap length next_is_law ∙ length-append (take used page ++ row) (drop (length row) (drop used page))
              ∙ omega (arith, front, length-drop (length row) (drop used page), length-drop used page, here.short, filling.few, filling.room, filling.fits);
          fits = omega (arith, here.short, filling.fits);
          reads = read_on.1;
          so_far =
              ap₂ (λ l k. l ++ rows_from number k others)
              (ap (λ k. take (used + k) next_page) (sym size)
              ∙ ap (take (used + length row)) next_is_law
              ∙ take_at (take used page ++ row) (drop (length row) (drop used page)) (used + length row) front)
              (add-one at)
              ∙ append_assoc (take used page) row (rows_from number (suc at) others)
              ∙ ap (λ o. take used page ++ (bytes_of o ++ rows_from number (suc at) others)) (sym here.is)
              ∙ ap (λ ts. take used page ++ rows_from number at ts) (sym first_left)
              ∙ filling.so_far;
        }
