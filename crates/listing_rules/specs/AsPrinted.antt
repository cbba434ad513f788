-- Document 01, "Listing, whole": its lines as text, and the one statement over them.
use Rattle.std.specs.Prelude.{◌≡◌, true, false, List, [], ◌∷◌, ◌++◌, map, ℕ, length}
use Prim.Native.String.{String}
use Rattle.refusals.specs.Refusals.{Outcome, done, refused}
use Rattle.calendar_rules.specs.Literals.{date, time}
use Rattle.record_rules.specs.declared.DatedLayout.{DatedLayout}
use Rattle.record_rules.specs.declared.DatedLayout.TheVariants.{L6021, L2000, L5500, L5050}
use Rattle.record_rules.specs.declared.TimeLayout.{TimeLayout}
use Rattle.record_rules.specs.declared.TimeLayout.TheVariants.{T6021, T5500, T5050}
use Rattle.record_rules.specs.declared.Reception.TheVariants.{Invalid, Crystal, Radio, High}
use Rattle.record_rules.specs.declared.Status.{Status}
use Rattle.record_rules.specs.declared.Record.TheVariants.{Dated, TimeOnly}
use Rattle.record_rules.specs.Literals.{status_of}
use Rattle.ascii.specs.Ascii.{ascii}
use Rattle.ascii.specs.Control.{lf}
use Rattle.listing_rules.specs.Listing.{header_row, event_row, stray_row, longest_row}
use Rattle.record_rules.specs.declared.Record.{Record}

-- a line of the listing: the header, an event by its start and answer, the count of stray bytes
pub data ListingLine : Type 0 where
  header : ListingLine
  event : ℕ → Outcome Record → ListingLine
  stray : ℕ → ListingLine

-- what stands in that line
abbrev pub made : ListingLine → Outcome (List ℕ)
made header = done header_row
made (event start answer) = event_row start answer
made (stray count) = done (stray_row count)

-- "each line ends in LF"
abbrev pub line : String → List ℕ
line text = ascii text ++ lf ∷ []

-- 17 April 1996, 12:34:56: a Wednesday, 3
abbrev pub april : DatedLayout → Status → ℕ → Outcome Record
april layout status weekday =
    done (Dated layout status weekday (date 1996 4 17) (time 12 34 56))

-- 1 January 2000, 00:00:05: a Saturday, 6
abbrev pub new_year : DatedLayout → Status → ℕ → Outcome Record
new_year layout status weekday =
    done (Dated layout status weekday (date 2000 1 1) (time 0 0 5))

abbrev pub time_only : TimeLayout → Outcome Record
time_only layout = done (TimeOnly layout (time 12 34 56))

abbrev pub longest_line : String
longest_line = "4294967295;6021;1996-04-17;12:34:56;3;crystal,daylight,utc,announced"

-- a status: reception, daylight, utc, announced
abbrev pub lines : List (ListingLine × String)
lines =
    -- the listing that document 01 prints
    (header, "start;kind;date;time;weekday;status")
    ∷ (event 1 (april L6021 (status_of High true false false) 3), "1;6021;1996-04-17;12:34:56;3;high,daylight")
    ∷ (event 19 (refused 11), "19;refused 11")
    ∷ (stray 1, "stray 1")
    -- "empty input gives the header and `stray 0`"
    ∷ (stray 0, "stray 0")
    -- the other kinds, and "a time-only line has `-` for date, weekday and status"
    ∷ (event 2 (april L2000 (status_of Radio false false false) 3), "2;2000;1996-04-17;12:34:56;3;radio,standard")
    ∷ (event 3 (april L5500 (status_of Crystal true false false) 3), "3;5500;1996-04-17;12:34:56;3;crystal,daylight")
    ∷ (event 4 (april L5050 (status_of Radio false true false) 3), "4;5050;1996-04-17;12:34:56;3;radio,standard,utc")
    ∷ (event 30 (time_only T6021), "30;6021t;-;12:34:56;-;-")
    ∷ (event 40 (time_only T5500), "40;5500t;-;12:34:56;-;-")
    ∷ (event 50 (time_only T5050), "50;5050t;-;12:34:56;-;-")
    -- the other words of a status; dates and times are padded, the start is not
    ∷ (event 100 (new_year L2000 (status_of Invalid false false true) 6), "100;2000;2000-01-01;00:00:05;6;invalid,standard,announced")
    ∷ (event 4294967295 (april L6021 (status_of Crystal true true true) 3), longest_line)
    ∷ []

abbrev pub TheListingIsAsPrinted : Type 0
TheListingIsAsPrinted =
    (map (λ row. made row.0) lines ≡ map (λ row. done (line row.1)) lines)
    × (length (line longest_line) ≡ longest_row)
    -- a record that no telegram could carry: the first on a Thursday
    × (made (event 1 (april L6021 (status_of High true false false) 4)) ≡ refused 8)
