-- Demand 1 holds of the rows of the listing. Assumes nothing.
use mathlib.Core.Path.{◌≡◌, refl, ap, sym, ◌∙◌}
use mathlib.Core.Bool.{Bool, true, false, cond}
use mathlib.Core.List.{List, [], ◌∷◌}
use Prim.Native.Nat.{ℕ, zero, suc}
use lib.Dec.{ltb}
use lib.ListN.{length}
use Rattle.refusals.specs.Refusals.{◌when◌, Outcome, done, refused, unless, after}
use Rattle.lent_buffer.specs.Endings as ending
use Rattle.lent_buffer.specs.Laying.{size_of, laid}
use Rattle.lent_buffer.specs.OneBehindAnother.{ending_in}
use Rattle.lent_buffer.proofs.LayingLaws.{within_unless, within_refused, laid_answer, refused_is_untouched}
use Rattle.record_rules.specs.declared.Record.{Record}
use Rattle.record_rules.specs.declared.Record.TheVariants.{Dated, TimeOnly}
use Rattle.record_rules.specs.Rule.{refusal_of}
use Rattle.line.specs.Readers.{well_formed, line_of}
use Rattle.line_rules.specs.Line.{Line}
use Rattle.line_rules.specs.Events.{events_of}
use Rattle.line.proofs.ReaderLaws.{reader_back}
use Rattle.line.proofs.StaysGood.{good_line}
use Rattle.listing_rules.specs.Listing.{header_row, record_row, refused_row, event_row, stray_row}
use Rattle.listing_of_lines.specs.Pages.{row_for, page_of}
use Rattle.listing_of_lines.specs.Whole.{rows_of}
use Rattle.listing_of_lines.proofs.PageLaws.{nothing_laid, refused_laid, page_refused}
use Rattle.listing_of_lines.proofs.RoomLaws.{call_ends_by_room}
use Rattle.demands.specs.Numbers.{◌given_when◌, ◌refused_by◌, ◌by_first◌}
use Rattle.demands.specs.Rules.{record_rules}
use Rattle.demands.specs.Demand1OfTheListing.{row_rules, room_rules, TheHeaderRefuses, TheStrayLineRefuses, ARowRefuses}
use Rattle.demands.specs.Demand1OfTheListing.{ARowForRefuses, ListingRefuses, ARefusedRowChangesNoByte, ARefusedStateIsNotListed}
use Rattle.demands.proofs.Refusing.{else_nothing, by_lowest, unless_by, then_by, tested, refuses}
use Rattle.demands.proofs.RulesHold.{record_rules_law}

-- a row is laid where there is room for it
abbrev sized : List ℕ → List ℕ → Outcome ℕ
sized buffer row = unless (13 when ltb (length buffer) (length row)) (length row)

size_unless : (row : List ℕ) (n : ℕ) → size_of (unless n row) ≡ unless n (length row)
unfolding unless
size_unless row zero = refl
size_unless row (suc n) = refl

answer_so : (row : Outcome (List ℕ)) (buffer : List ℕ) → (laid row buffer).0 ≡ after row (sized buffer)
answer_so (done row) buffer =
    laid_answer (done row) buffer ∙ ap size_of (within_unless (length buffer) row) ∙ size_unless row (13 when ltb (length buffer) (length row))
answer_so (refused n) buffer = laid_answer (refused n) buffer ∙ ap size_of (within_refused (length buffer) n)

room_rule : (row buffer : List ℕ) → sized buffer row by_first 13 given_when ltb (length buffer) (length row) ∷ []
room_rule row buffer =
    let short = 13 when ltb (length buffer) (length row) in
    unless_by short (length row) (13 given_when ltb (length buffer) (length row) ∷ []) (sym (else_nothing short))

room_holds : (row buffer : List ℕ) → (laid (done row) buffer).0 refused_by room_rules (length buffer) row
room_holds row buffer =
    by_lowest (laid (done row) buffer).0 (room_rules (length buffer) row) refl (ap (λ o. after o (λ v. done tt)) (answer_so (done row) buffer) ∙ room_rule row buffer)

pub demand_1_header : TheHeaderRefuses
demand_1_header buffer = room_holds header_row buffer

pub demand_1_stray_line : TheStrayLineRefuses
demand_1_stray_line stray buffer = room_holds (stray_row stray) buffer

row_rules_law : (start : ℕ) (told : Outcome Record) (buffer : List ℕ) → (laid (event_row start told) buffer).0 by_first row_rules start told (length buffer)
row_rules_law start (done rec) buffer =
    ap (λ o. after o (λ v. done tt)) (answer_so (event_row start (done rec)) buffer)
    ∙ then_by (refusal_of rec) (record_row start rec) (sized buffer) (record_rules rec) _ (record_rules_law rec) (room_rule (record_row start rec) buffer)
row_rules_law start (refused number) buffer =
    ap (λ o. after o (λ v. done tt)) (answer_so (done (refused_row start number)) buffer) ∙ room_rule (refused_row start number) buffer

row_tested : (start : ℕ) (told : Outcome Record) (room : ℕ) → tested (5 ∷ 6 ∷ 7 ∷ 8 ∷ 13 ∷ []) (row_rules start told room) ≡ true
row_tested start (done (Dated layout status weekday date time)) room = refl
row_tested start (done (TimeOnly layout time)) room = refl
row_tested start (refused number) room = refl

pub demand_1_row : ARowRefuses
demand_1_row start told buffer =
    refuses (5 ∷ 6 ∷ 7 ∷ 8 ∷ 13 ∷ []) (laid (event_row start told) buffer).0 (row_rules start told (length buffer)) (row_rules_law start told buffer)
    (row_tested start told (length buffer))

pub demand_1_no_byte_of_a_row : ARefusedRowChangesNoByte
demand_1_no_byte_of_a_row start told buffer n e = refused_is_untouched (event_row start told) buffer n e

-- the row of what was heard
pub demand_1_row_for : ARowForRefuses
demand_1_row_for heard buffer = (
  (λ is. ap (λ p. p.0) (nothing_laid buffer is)),
  (λ told start size is. ap (λ h. (laid (row_for h) buffer).0) is),
  (λ n is. ap (λ p. p.0) (refused_laid buffer is)),
)

-- a piece
pub demand_1_listing : ListingRefuses
demand_1_listing room reader piece declared = go (well_formed reader) refl
  where
    line : Line
    line = line_of reader

    go : (good : Bool) → well_formed reader ≡ good
        → (page_of room reader piece).ending ≡ cond good (ending_in room (rows_of (events_of line piece))) (ending.Refused 15)
    go true e =
        ap (λ r. (page_of room r piece).ending) (sym (reader_back reader e declared.0 declared.1 declared.2))
        ∙ call_ends_by_room room line (good_line reader declared.0 e) piece
    go false e = ap (λ page. page.ending) (page_refused room reader piece e)

pub demand_1_not_listed : ARefusedStateIsNotListed
demand_1_not_listed room reader piece bad = page_refused room reader piece bad
