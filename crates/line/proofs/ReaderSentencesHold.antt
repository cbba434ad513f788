-- Document 01's sentences on the reader hold, but for the account (AccountHolds) and the cuts (CutLaws, UsesUp). Assumes nothing.
use Rattle.std.proofs.Common.{sym, refl, ap, ◌∙◌, arith}
use Rattle.line_rules.specs.Hearing.{Nothing}
use Rattle.line.specs.Readers.{reader_of, line_of, well_formed, feed_reader_at, end_reader_at}
use Rattle.line_rules.specs.Line.{fresh_line}
use Rattle.line.specs.Pieces.{room, passing}
use Rattle.line.specs.ReaderSentences.{AFreshOneHoldsNone, AGoodStateStaysGood, ACallStopsAfterTheFirstEvent, AnEmptyPieceGivesNothing, TheEndLeavesItOutside}
use Rattle.line.proofs.ReaderLaws.{reader_back}
use Rattle.line.proofs.StaysGood.{good_line, reader_of_good, feed_stays_good, end_stays_good}
use Rattle.line_rules.proofs.EventLaws.{good_fresh}
use Rattle.line.proofs.UsesUp.{taken_line, passing_splits}
use Rattle.line_rules.proofs.SentencesHold.{feed_stops}

pub a_fresh_one_holds_none : AFreshOneHoldsNone
a_fresh_one_holds_none order = (reader_of_good (fresh_line order) (good_fresh order), refl, refl, refl, refl, refl)

pub a_good_state_stays_good : AGoodStateStaysGood
a_good_state_stays_good reader piece declared well =
    let line = line_of reader in
    let split = passing_splits room line (good_line reader declared.0 well) piece in
    let is = reader_back reader well declared.0 declared.1 declared.2 in (
      feed_stays_good reader declared.0 well piece,
      ap (λ r. well_formed (passing room r piece).reader) (sym is) ∙ ap well_formed split.reader ∙ reader_of_good split.left split.good,
      end_stays_good reader declared.0 well,
    )

pub a_call_stops_after_the_first_event : ACallStopsAfterTheFirstEvent
unfolding feed_reader_at
a_call_stops_after_the_first_event reader piece declared well =
    let stops = feed_stops (line_of reader) piece in
    rw well
    (record { heard = stops.0; none_before = stops.1; or_all = stops.2; reader = ap reader_of (taken_line (line_of reader) piece) })

pub an_empty_piece_gives_nothing : AnEmptyPieceGivesNothing
unfolding feed_reader_at
an_empty_piece_gives_nothing reader declared well =
    rw well (λ i. record { reader = reader_back reader well declared.0 declared.1 declared.2 i; taken = 0; heard = Nothing })

pub the_end_leaves_it_outside : TheEndLeavesItOutside
unfolding end_reader_at
the_end_leaves_it_outside reader declared well = rw well (refl, omega (arith, declared.1), omega (arith, declared.2), omega (arith, declared.1))
