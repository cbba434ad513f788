-- Document 02, f, "The 6038 board", sentence by sentence. That the trailer's order is a setting of the line stands in the demands
-- themselves: demand 1's rules of reading and writing, and demands 2 and 3, are of both orders. The tables of 003 stand in
-- board_rules/specs/AsPrinted6038.antt, and telegrams of each layout in both orders in telegram_rules/specs/OrderAsPrinted.antt.
use Rattle.std.specs.Prelude.{Bool, true, false, cond, ◌&&◌, ◌||◌, List, [], ◌∷◌, ◌++◌, map, ◌≡◌, ℕ, eqb, length}
use Rattle.refusals.specs.Refusals.{done, refused}
use Rattle.ascii.specs.Control.{stx, etx, lf, cr, lf_cr, cr_lf}
use Rattle.calendar_rules.specs.declared.time.Time.{Time}
use Rattle.record_rules.specs.declared.DatedLayout.TheVariants.{L6021, L2000, L5500, L5050}
use Rattle.record_rules.specs.declared.TimeLayout.{TimeLayout}
use Rattle.record_rules.specs.declared.TimeLayout.TheVariants.{T6021, T5500, T5050}
use Rattle.record_rules.specs.declared.Record.{Record}
use Rattle.record_rules.specs.declared.Record.TheVariants.{TimeOnly}
use Rattle.layouts_rules.specs.declared.Layout.{Layout}
use Rattle.layouts_rules.specs.declared.Layout.TheVariants as layouts
use Rattle.layouts_rules.specs.Layouts.{own_layout}
use Rattle.board_rules.specs.RoundTrip6038.{All256ReadOrRefused, Switch1IsReadAsNothing, Switch1IsWrittenOff, ReadingThenWritingClearsSwitch1}
use Rattle.board_rules.specs.RoundTrip6038.{ASettingWrittenReadsBack, OffOnIsNeverWritten, ASettingNotOfferedIs16}
use Rattle.trailer_rules.specs.declared.Order.{Order}
use Rattle.trailer_rules.specs.declared.Order.TheVariants.{AsPrinted, Exchanged}
use Rattle.telegram_rules.specs.declared.write.Setting.{Setting}
use Rattle.telegram_rules.specs.declared.write.Choice.TheVariants.{Named, NamedIn}
use Rattle.telegram_rules.specs.Reading.{read_of}
use Rattle.telegram.specs.SeveralTelegrams.{Several, several_after}
use Rattle.telegram_rules.specs.Writing.{telegram_in}
use Rattle.leitch_rules.specs.declared.Reply.{Reply}
use Rattle.leitch_rules.specs.Writing.{reply_bytes}
use Rattle.line.specs.Readers.{fresh_in, fresh_reader}
use Rattle.line.specs.ReaderSentences.{EveryOrderIsWellFormed, TheOrderStays}
use Rattle.line_rules.specs.SentLine.{Sent, bytes_sent}
use Rattle.listing_of_lines.specs.Whole.{listing_in, listing_of}
use Rattle.demands.specs.Programs.{reads, writes}
use Rattle.demands.specs.ProgramsOfTheLog.{adds}
use Rattle.demands.specs.Lengths.{seven_layouts, length_of}
use Rattle.demands.specs.Numbers.{among}
use Rattle.demands.specs.Demand2.{Good}
use Rattle.demands.specs.Demand3.{GoodTelegrams, records_of}

-- "Its second data string byte can exchange CR and LF": the table's trailers, and each exchanged
abbrev pub printed_trailer : Layout → List ℕ
printed_trailer (layouts.Dated L6021) = lf_cr
printed_trailer (layouts.TimeOnly T6021) = lf_cr
printed_trailer (layouts.Dated L2000) = lf_cr
printed_trailer (layouts.Dated L5500) = cr_lf
printed_trailer (layouts.TimeOnly T5500) = cr_lf
printed_trailer (layouts.Dated L5050) = cr_lf
printed_trailer (layouts.TimeOnly T5050) = cr_lf

abbrev pub exchanged_trailer : Layout → List ℕ
exchanged_trailer (layouts.Dated L6021) = cr_lf
exchanged_trailer (layouts.TimeOnly T6021) = cr_lf
exchanged_trailer (layouts.Dated L2000) = cr_lf
exchanged_trailer (layouts.Dated L5500) = lf_cr
exchanged_trailer (layouts.TimeOnly T5500) = lf_cr
exchanged_trailer (layouts.Dated L5050) = lf_cr
exchanged_trailer (layouts.TimeOnly T5050) = lf_cr

-- between STX and ETX, or without them
abbrev pub in_frame : Bool → List ℕ → List ℕ
in_frame control body = cond control (stx ∷ body ++ etx ∷ []) body

-- of any record, with control characters and without: the same bytes, and behind them the one trailer or the other
abbrev pub OnlyTheTrailerIsExchanged : Type 0
OnlyTheTrailerIsExchanged =
    (control : Bool) (rec : Record)
    → (text : List ℕ)
    × (telegram_in AsPrinted control rec ≡ in_frame control (text ++ printed_trailer (own_layout rec)))
    × (telegram_in Exchanged control rec ≡ in_frame control (text ++ exchanged_trailer (own_layout rec)))

-- "as-printed if not named": a setting that is named without an order writes as printed, alone and among several
abbrev pub ASettingWithoutAnOrderIsAsPrinted : Type 0
ASettingWithoutAnOrderIsAsPrinted =
    (setting : Setting) (rec : Record) (room : ℕ) → writes (Named setting) rec room ≡ writes (NamedIn setting AsPrinted) rec room

abbrev pub SeveralWithoutAnOrderAreAsPrinted : Type 0
SeveralWithoutAnOrderAreAsPrinted =
    (setting : Setting) (several : Several) (recs : List Record) (buffer : List ℕ)
    → several_after (Named setting) several recs buffer ≡ several_after (NamedIn setting AsPrinted) several recs buffer

-- and so a telegram is read, a fresh reader made and a line listed where no order is named
abbrev pub NotNamedIsAsPrinted : Type 0
NotNamedIsAsPrinted =
    (control : Bool) (bytes : List ℕ)
    → (read_of control bytes ≡ reads AsPrinted control bytes) × (fresh_reader ≡ fresh_in AsPrinted) × (listing_of bytes ≡ listing_in AsPrinted bytes)

-- "In exchanged order a 5500t looks like an as-printed 6021t.": byte for byte, whatever the time; and the other way round
abbrev pub AnExchanged5500tIsAnAsPrinted6021t : Type 0
AnExchanged5500tIsAnAsPrinted6021t =
    (control : Bool) (time : Time)
    → (telegram_in Exchanged control (TimeOnly T5500 time) ≡ telegram_in AsPrinted control (TimeOnly T6021 time))
    × (telegram_in Exchanged control (TimeOnly T6021 time) ≡ telegram_in AsPrinted control (TimeOnly T5500 time))

-- so a good one is read as the other where the order is not the line's, either way round
abbrev pub other : Order → Order
other AsPrinted = Exchanged
other Exchanged = AsPrinted

abbrev pub ReadInTheOtherOrderItIsTheOther : Type 0
ReadInTheOtherOrderItIsTheOther =
    (order : Order) (control : Bool) (time : Time) → Good (TimeOnly T5500 time)
    → (reads (other order) control (telegram_in order control (TimeOnly T5500 time)) ≡ done (TimeOnly T6021 time))
    × (reads (other order) control (telegram_in order control (TimeOnly T6021 time)) ≡ done (TimeOnly T5500 time))

-- "Demand 3 therefore reads: for a line whose order is known to the reader": of two good lists that differ, the one makes in exchanged
-- order the line that the other makes as printed
abbrev pub one_time : TimeLayout → Time → List Sent
one_time layout time = record { before = []; rec = TimeOnly layout time } ∷ []

abbrev pub InTwoOrdersTwoListsMakeTheSameLine : Type 0
InTwoOrdersTwoListsMakeTheSameLine =
    (time : Time) (behind : List ℕ) → Good (TimeOnly T5500 time)
    → GoodTelegrams (one_time T5500 time)
    × GoodTelegrams (one_time T6021 time)
    × (records_of (one_time T5500 time) ≡ records_of (one_time T6021 time) → ⊥)
    × (bytes_sent Exchanged (one_time T5500 time) behind ≡ bytes_sent AsPrinted (one_time T6021 time) behind)

-- "for the trailer check": a telegram of any layout but these two, whatever its record, is refused with 3 in the other order
abbrev pub is_alone_at_its_length : Layout → Bool
is_alone_at_its_length (layouts.Dated layout) = true
is_alone_at_its_length (layouts.TimeOnly T6021) = false
is_alone_at_its_length (layouts.TimeOnly T5500) = false
is_alone_at_its_length (layouts.TimeOnly T5050) = true

abbrev pub TheOtherOrderIs3 : Type 0
TheOtherOrderIs3 =
    (order : Order) (control : Bool) (rec : Record) → is_alone_at_its_length (own_layout rec) ≡ true
    → reads (other order) control (telegram_in order control rec) ≡ refused 3

-- and what ends in neither CR LF nor LF CR is 3 in both, at each length of the table
abbrev pub is_trailer : ℕ → ℕ → Bool
is_trailer first second = (eqb first lf && eqb second cr) || (eqb first cr && eqb second lf)

abbrev pub NeitherOrderIs3 : Type 0
NeitherOrderIs3 =
    (order : Order) (control : Bool) (text : List ℕ) (first second : ℕ)
    → among (map (length_of false) seven_layouts) (length (text ++ first ∷ second ∷ [])) ≡ true → is_trailer first second ≡ false
    → reads order control (in_frame control (text ++ first ∷ second ∷ [])) ≡ refused 3

-- "The log takes as-printed order only.": an exchanged telegram of any layout but those two is refused by an add, and the region is as
-- it was; one of those is what its bytes are as printed
abbrev pub TheLogTakesAsPrintedOnly : Type 0
TheLogTakesAsPrintedOnly =
    (region : List ℕ) (rec : Record) → is_alone_at_its_length (own_layout rec) ≡ true
    → adds region (telegram_in Exchanged true rec) ≡ (refused 3, region)

abbrev pub TheLogTakesTheOtherForIt : Type 0
TheLogTakesTheOtherForIt =
    (region : List ℕ) (time : Time)
    → (adds region (telegram_in Exchanged true (TimeOnly T5500 time)) ≡ adds region (telegram_in AsPrinted true (TimeOnly T6021 time)))
    × (adds region (telegram_in Exchanged true (TimeOnly T6021 time)) ≡ adds region (telegram_in AsPrinted true (TimeOnly T5500 time)))

-- the reply to a Leitch generator has no order: "with CR LF" on every line
abbrev pub TheReplyKeepsCrLf : Type 0
TheReplyKeepsCrLf = (reply : Reply) → (text : List ℕ) × (reply_bytes reply ≡ text ++ cr_lf)

abbrev pub The6038IsAsAskedFor : Type 0
The6038IsAsAskedFor =
    -- "switch 1 unused", "read as nothing and written off"
    Switch1IsReadAsNothing
    × Switch1IsWrittenOff
    -- "16 for off/on when read", and no write makes it; each of the 256 is read or refused
    × All256ReadOrRefused
    × OffOnIsNeverWritten
    -- writing then reading gives the setting back, reading then writing clears switch 1 and nothing else; other settings are 16
    × ASettingWrittenReadsBack
    × ReadingThenWritingClearsSwitch1
    × ASettingNotOfferedIs16
    -- "can exchange CR and LF"
    × OnlyTheTrailerIsExchanged
    -- "as-printed if not named"
    × ASettingWithoutAnOrderIsAsPrinted
    × SeveralWithoutAnOrderAreAsPrinted
    × NotNamedIsAsPrinted
    -- "becomes a setting of the line": a state carries it, well formed whatever it is, and no call changes it
    × EveryOrderIsWellFormed
    × TheOrderStays
    -- "in exchanged order a 5500t looks like an as-printed 6021t", "for a line whose order is known to the reader"
    × AnExchanged5500tIsAnAsPrinted6021t
    × ReadInTheOtherOrderItIsTheOther
    × InTwoOrdersTwoListsMakeTheSameLine
    × TheOtherOrderIs3
    × NeitherOrderIs3
    × TheLogTakesAsPrintedOnly
    × TheLogTakesTheOtherForIt
    × TheReplyKeepsCrLf
