-- Document 01, "Listing, whole": the rows of the listing, as bytes.
use Rattle.std.specs.Prelude.{Bool, cond, List, [], ◌∷◌, ◌++◌, ℕ}
use Rattle.refusals.specs.Refusals.{Outcome, done, unless, refused}
use Rattle.calendar_rules.specs.declared.date.Date.{Date}
use Rattle.calendar_rules.specs.declared.time.Time.{Time}
use Rattle.record_rules.specs.declared.DatedLayout.{DatedLayout}
use Rattle.record_rules.specs.declared.DatedLayout.TheVariants.{L6021, L2000, L5500, L5050}
use Rattle.record_rules.specs.declared.TimeLayout.{TimeLayout}
use Rattle.record_rules.specs.declared.TimeLayout.TheVariants.{T6021, T5500, T5050}
use Rattle.record_rules.specs.declared.Reception.{Reception}
use Rattle.record_rules.specs.declared.Reception.TheVariants.{Invalid, Crystal, Radio, High}
use Rattle.record_rules.specs.declared.Status.{Status}
use Rattle.record_rules.specs.declared.Record.{Record}
use Rattle.record_rules.specs.declared.Record.TheVariants.{Dated, TimeOnly}
use Rattle.record_rules.specs.Rule.{refusal_of}
use Rattle.ascii.specs.Ascii.{ascii}
use Rattle.listing_rules.specs.Decimals.{digit, two, four, decimal}

-- the first line of the listing
unfoldable pub header_row : List ℕ
header_row = ascii "start;kind;date;time;weekday;status\n"

-- the kind is the layout's name
abbrev pub dated_kind : DatedLayout → List ℕ
dated_kind L6021 = ascii "6021"
dated_kind L2000 = ascii "2000"
dated_kind L5500 = ascii "5500"
dated_kind L5050 = ascii "5050"

abbrev pub time_kind : TimeLayout → List ℕ
time_kind T6021 = ascii "6021t"
time_kind T5500 = ascii "5500t"
time_kind T5050 = ascii "5050t"

-- as in "1996-04-17"
abbrev pub date_column : Date → List ℕ
date_column date = four date.year ++ ascii "-" ++ two date.month ++ ascii "-" ++ two date.day

-- as in "12:34:56"
abbrev pub time_column : Time → List ℕ
time_column time = two time.hour ++ ascii ":" ++ two time.minute ++ ascii ":" ++ two time.second

-- "invalid, crystal, radio or high"
abbrev pub reception_word : Reception → List ℕ
reception_word Invalid = ascii "invalid"
reception_word Crystal = ascii "crystal"
reception_word Radio = ascii "radio"
reception_word High = ascii "high"

-- "standard or daylight"
abbrev pub season_word : Bool → List ℕ
season_word daylight = cond daylight (ascii ",daylight") (ascii ",standard")

-- the reception, the season, "then utc; then announced"
unfoldable pub status_column : Status → List ℕ
status_column status =
    reception_word status.reception
    ++ season_word status.daylight
    ++ cond status.utc (ascii ",utc") []
    ++ cond status.announced (ascii ",announced") []

-- "kind;date;time;weekday;status", as in "6021;1996-04-17;12:34:56;3;high,daylight"; each line ends in LF
unfoldable pub dated_columns : DatedLayout → Status → ℕ → Date → Time → List ℕ
dated_columns layout status weekday date time =
    dated_kind layout ++ ascii ";"
    ++ date_column date ++ ascii ";"
    ++ time_column time ++ ascii ";"
    ++ (digit weekday ∷ []) ++ ascii ";"
    ++ status_column status ++ ascii "\n"

-- "a time-only line has `-` for date, weekday and status"
unfoldable pub time_only_columns : TimeLayout → Time → List ℕ
time_only_columns layout time = time_kind layout ++ ascii ";-;" ++ time_column time ++ ascii ";-;-\n"

-- what a telegram's record says; in front of these columns stands where the telegram is
abbrev pub columns : Record → List ℕ
columns (Dated layout status weekday date time) = dated_columns layout status weekday date time
columns (TimeOnly layout time) = time_only_columns layout time

-- "start;kind;date;time;weekday;status", as in "1;6021;1996-04-17;12:34:56;3;high,daylight"
unfoldable pub record_row : ℕ → Record → List ℕ
record_row start rec = decimal start ++ ascii ";" ++ columns rec

-- as in "19;refused 11": a refused row has two columns
unfoldable pub refused_row : ℕ → ℕ → List ℕ
refused_row start number = decimal start ++ ascii ";refused " ++ decimal number ++ ascii "\n"

-- the row of an event. What no telegram could say has no row: 5 to 8
abbrev pub event_row : ℕ → Outcome Record → Outcome (List ℕ)
event_row start (done rec) = unless (refusal_of rec) (record_row start rec)
event_row start (refused number) = done (refused_row start number)

-- as in "stray 1", the last line of the listing
unfoldable pub stray_row : ℕ → List ℕ
stray_row stray = ascii "stray " ++ decimal stray ++ ascii "\n"

-- no row of a line is longer
abbrev pub longest_row : ℕ
longest_row = 69
