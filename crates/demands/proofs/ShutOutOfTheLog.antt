-- The wrong add, read back and verify do not meet what document 02, c, asks for. Assumes nothing.
use mathlib.Core.Path.{◌≡◌, refl, ap, sym, ◌∙◌}
use mathlib.Core.Bool.{true, false}
use mathlib.Core.List.{List, [], ◌∷◌}
use Prim.Native.Nat.{ℕ, ◌*◌, ◌%◌}
use native.Mathlib.Omega.{arith}
use lib.Dec.{eqb}
use lib.ListN.{length, set, replicate, length-set, length-replicate}
use lib.Seq.{take_all}
use Rattle.refusals.specs.Refusals.{Outcome, done, refused}
use Rattle.calendar_rules.specs.TimeOfDay.{time_in_range}
use Rattle.record_rules.specs.Rule.{time_alone_allowed, time_alone_refusal, refusal_of}
use Rattle.telegram_rules.specs.Writing.{telegram_of}
use Rattle.telegram_rules.proofs.BackAndForth.{written_reads_back}
use Rattle.log_rules.specs.Verify.{AllGood, Bad}
use Rattle.log_rules.specs.Block.{block_size}
use Rattle.log_rules.specs.Good.{is_done, reads_well, is_good}
use Rattle.log_rules.specs.Add.{place_at, add_of}
use Rattle.log_rules.specs.OfTheLog.{FirstBad, FirstFreeBehindTheLastUsed}
use Rattle.log_rules.proofs.BlockHolds.{a_zeroed_block_is_good_and_empty}
use Rattle.log_rules.proofs.CheckLaws.{noticed}
use Rattle.log_rules.proofs.PlaceHolds.{an_add_goes_behind_the_last_used}
use Rattle.log_rules.proofs.AddLaws.{reads_place}
use Rattle.log_rules.proofs.FillHolds.{adds_fill_zeroed_blocks_in_order}
use Rattle.demands.specs.Wrong.{fixed_record}
use Rattle.demands.specs.WrongOfTheLog.{idle_add, refusing_add, refusing_read_back, trusting_verify}
use Rattle.demands.specs.TheLog.{ReadsBackWhatIsAdded, TakesTheFreeSlot, NamesTheFirstBad}

-- an add that does nothing: whatever reads back, it hands out one telegram for all
pub idle_add_is_shut_out : (read_back : List ℕ → ℕ → ℕ → Outcome (List ℕ)) → ReadsBackWhatIsAdded idle_add read_back → ⊥
idle_add_is_shut_out read_back demand =
    let none : read_back [] 0 0 ≡ done [] = demand [] [] (place_at 0 0) refl in
    let some : read_back [] 0 0 ≡ done (0 ∷ []) = demand [] (0 ∷ []) (place_at 0 0) refl in
    cc

-- a read back that refuses everything: one telegram, added to a zeroed block
abbrev telegram : List ℕ
telegram = telegram_of true fixed_record

is_good_law : refusal_of fixed_record ≡ 0
unfolding time_in_range time_alone_allowed time_alone_refusal
is_good_law = refl

reads_well_law : reads_well telegram ≡ true
unfolding reads_well
reads_well_law = ap is_done (written_reads_back fixed_record is_good_law true)

added : (add_of (replicate (block_size * 1) 0) telegram).0 ≡ done (place_at 0 0)
added =
    let answers : (add_of (replicate (block_size * 1) 0) telegram).0 ∷ [] ≡ done (place_at 0 0) ∷ [] =
    (adds_fill_zeroed_blocks_in_order 1 (telegram ∷ []) (rw reads_well_law) (omega arith)).0 in
    cc

-- an add that refuses everything: the same telegram and block
is_free : FirstFreeBehindTheLastUsed (replicate (block_size * 1) 0) (place_at 0 0)
unfolding add_of
is_free =
    an_add_goes_behind_the_last_used (replicate (block_size * 1) 0) (place_at 0 0)
    (sym (reads_place (replicate (block_size * 1) 0) telegram reads_well_law) ∙ added)

pub refusing_add_is_shut_out : TakesTheFreeSlot refusing_add → ⊥
refusing_add_is_shut_out demand =
    let told : refused 21 ≡ done (place_at 0 0) = demand (replicate (block_size * 1) 0) telegram (place_at 0 0) reads_well_law refl is_free in
    cc

pub refusing_read_back_is_shut_out : ReadsBackWhatIsAdded add_of refusing_read_back → ⊥
refusing_read_back_is_shut_out demand =
    let told : refused 27 ≡ done telegram = demand (replicate (block_size * 1) 0) telegram (place_at 0 0) added in
    cc

-- a verify that always says that all is good: a zeroed block with one byte changed
abbrev zeroed : List ℕ
zeroed = replicate block_size 0

abbrev changed : List ℕ
changed = set zeroed 0 1

size_so : length changed ≡ block_size
size_so = length-set zeroed 0 1 ∙ length-replicate {A = ℕ} block_size 0

is_noticed : is_good changed ≡ false
is_noticed =
    noticed zeroed 0 1 a_zeroed_block_is_good_and_empty.0 (omega arith) (omega arith) (omega arith) (omega arith)

is_first_bad : FirstBad changed 0
is_first_bad =
    record {
      there = omega (arith, size_so);
      bad = ap is_good (take_all block_size changed (omega (arith, size_so))) ∙ is_noticed;
      none_before = λ before h. absurd (omega arith);
    }

pub trusting_verify_is_shut_out : NamesTheFirstBad trusting_verify → ⊥
trusting_verify_is_shut_out demand =
    let told : AllGood ≡ Bad 20 0 = (demand changed (ap (λ n. eqb (n % block_size) 0) size_so)).0 0 is_first_bad in
    cc
