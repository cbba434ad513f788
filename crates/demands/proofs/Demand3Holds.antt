-- Demand 3 holds. Assumes nothing.
use mathlib.Core.Path.{◌≡◌, refl}
use mathlib.Core.Bool.{true}
use mathlib.Core.List.{List, [], ◌∷◌}
use Prim.Native.Nat.{ℕ}
use borrow.Author.Tests.{eq-eqb}
use Rattle.record_rules.specs.Rule.{refusal_of}
use Rattle.line.specs.declared.Reader.{Reader}
use Rattle.line.specs.Readers.{fresh_in, feed_reader}
use Rattle.line_rules.specs.Line.{fresh_line}
use Rattle.line.specs.Cuts.{Calls, feeding}
use Rattle.line.specs.Pieces.{using_up}
use Rattle.line_rules.specs.SentLine.{Sent, all_good}
use Rattle.line_rules.proofs.EventLaws.{good_fresh}
use Rattle.line.proofs.CutLaws.{Splitting, feeding_splits, a_feeding_is}
use Rattle.line.proofs.UsesUp.{using_up_splits, using_up_tells_the_line, using_up_is_such_a_feeding}
use Rattle.line_rules.proofs.SentGives.{same_line_same_records}
use Rattle.line.proofs.HandsBack.{exactly_those, true_stray, end_then}
use Rattle.demands.specs.Demand3.{GoodTelegrams, NoStxAround, HandsBack, TheReaderHandsBackThatList, EveryCutCanBeUsedUp}
use Rattle.demands.specs.Demand3.{UsingUpIsAFeedingToo, UsingUpHandsBackThatList, TwoListsThatDifferNeverMakeTheSameLine}

-- the two conditions, as the one test of the line's laws
all_good_law : (sents : List Sent) (behind : List ℕ) → GoodTelegrams sents → NoStxAround sents behind → all_good sents behind ≡ true
all_good_law [] behind good clear = clear
all_good_law (sent ∷ others) behind good clear =
    rw (clear.0, eq-eqb (refusal_of sent.rec) 0 good.0) (all_good_law others behind good.1 clear.1)

-- by any call that splits what a piece tells
hands_back : (call : Reader → List ℕ → Calls) → Splitting call → HandsBack call
hands_back call splitting order sents behind good clear served cut used =
    let fine = all_good_law sents behind good clear in (
      exactly_those call splitting order sents behind fine served cut used,
      true_stray call splitting order sents behind fine served cut used,
      end_then call splitting order sents behind fine served cut used,
    )

pub demand_3_hands_back_that_list : TheReaderHandsBackThatList
demand_3_hands_back_that_list = hands_back (feeding feed_reader) feeding_splits

pub demand_3_every_cut : EveryCutCanBeUsedUp
demand_3_every_cut order pieces = a_feeding_is (feeding feed_reader) feeding_splits pieces (fresh_line order) (fresh_in order) (good_fresh order) refl

pub demand_3_using_up : UsingUpIsAFeedingToo
demand_3_using_up = (using_up_is_such_a_feeding, using_up_tells_the_line.1)

pub demand_3_using_up_hands_back : UsingUpHandsBackThatList
demand_3_using_up_hands_back = hands_back using_up using_up_splits

pub demand_3_never_the_same_line : TwoListsThatDifferNeverMakeTheSameLine
demand_3_never_the_same_line order a b behind_a behind_b good_a clear_a good_b clear_b differ same =
    differ (same_line_same_records order a b behind_a behind_b (all_good_law a behind_a good_a clear_a) (all_good_law b behind_b good_b clear_b) same)
