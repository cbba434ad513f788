-- The order is a setting of the line: every one is well formed, and no call changes it. Assumes nothing.
use Rattle.std.proofs.Common.{◌≡◌, ℕ, zero, suc, Bool, true, false, cond, List, drop, refl, ◌∙◌}
use Rattle.trailer_rules.specs.declared.Order.{Order}
use Rattle.line_rules.specs.Hearing.{Heard, Nothing, Event, Refused}
use Rattle.line.specs.Readers.{Ended, Fed, reader_of, line_of, fed_for, well_formed, well_formed_at, feed_reader, feed_reader_at, end_reader, end_reader_at}
use Rattle.line.specs.declared.Reader.{Reader}
use Rattle.line_rules.specs.Line.{feed_of, ended, told_by_end, heard_for}
use Rattle.line.specs.Pieces.{Passing, pass_on, passing}
use Rattle.line.specs.ReaderSentences.{AFreshOneIsAsPrintedIfNotNamed, EveryOrderIsWellFormed, TheOrderStays}
use Rattle.line_rules.proofs.OrderStays.{line_stays}

pub a_fresh_one_is_as_printed : AFreshOneIsAsPrintedIfNotNamed
a_fresh_one_is_as_printed = refl

pub every_order_is_well_formed : EveryOrderIsWellFormed
unfolding well_formed_at
every_order_is_well_formed reader order = refl

feed_stays : (reader : Reader) (piece : List ℕ) → (feed_reader reader piece).reader.order ≡ reader.order
unfolding feed_reader_at
feed_stays reader piece = go (well_formed reader)
  where
    go : (well : Bool) → (cond well (fed_for (feed_of (line_of reader) piece)) (record { reader = reader; taken = 0; heard = Refused 15 })).reader.order ≡ reader.order
    go true = line_stays (line_of reader) piece
    go false = refl

passes_by : (heard : Heard) (fed : Fed) (later : Passing) (order : Order) → fed.reader.order ≡ order → later.reader.order ≡ order
    → (pass_on heard fed later).reader.order ≡ order
passes_by Nothing fed later order here on = here
passes_by (Event answer start size) fed later order here on = on
passes_by (Refused number) fed later order here on = here

passing_stays : (more : ℕ) (reader : Reader) (piece : List ℕ) → (passing more reader piece).reader.order ≡ reader.order
unfolding passing
passing_stays zero reader piece = refl
passing_stays (suc more) reader piece =
    let fed = feed_reader reader piece in
    let here = feed_stays reader piece in
    let rest = drop fed.taken piece in
    passes_by fed.heard fed (passing more fed.reader rest) reader.order here (passing_stays more fed.reader rest ∙ here)

end_stays : (reader : Reader) → (end_reader reader).reader.order ≡ reader.order
unfolding end_reader_at
end_stays reader = go (well_formed reader) (record { reader = reader_of (ended (line_of reader)); heard = heard_for (told_by_end (line_of reader).held) reader.start }) refl
  where
    go : (well : Bool) (told : Ended) → told.reader.order ≡ reader.order
        → (cond well told (record { reader = reader; heard = Refused 15 })).reader.order ≡ reader.order
    go true told same = same
    go false told same = refl

pub the_order_stays : TheOrderStays
the_order_stays reader piece more = (feed_stays reader piece, passing_stays more reader piece, end_stays reader)
