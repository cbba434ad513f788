-- A log's two listings: lines of them as text, and the one statement over them.
use Rattle.std.specs.Prelude.{◌≡◌, true, false, List, [], ◌∷◌, map, ℕ, length}
use Prim.Native.String.{String}
use Rattle.refusals.specs.Refusals.{Outcome, done, refused}
use Rattle.calendar_rules.specs.Literals.{date, time}
use Rattle.record_rules.specs.declared.DatedLayout.TheVariants.{L6021}
use Rattle.record_rules.specs.declared.TimeLayout.TheVariants.{T5500}
use Rattle.record_rules.specs.declared.Reception.TheVariants.{Crystal, High}
use Rattle.record_rules.specs.declared.Status.{Status}
use Rattle.record_rules.specs.declared.Record.{Record}
use Rattle.record_rules.specs.declared.Record.TheVariants.{Dated, TimeOnly}
use Rattle.record_rules.specs.Literals.{status_of}
use Rattle.listing_rules.specs.AsPrinted.{line}
use Rattle.listing_rules.specs.LogRows.{log_header, telegram_row, block_row, verify_header, good_row, bad_row, tail_row, bad_count, longest_log_row}

-- 31 August 1996, 23:57:01: a Saturday, 6
abbrev pub august : Status → ℕ → Record
august status weekday = Dated L6021 status weekday (date 1996 8 31) (time 23 57 1)

abbrev pub noon : Record
noon = TimeOnly T5500 (time 12 0 0)

abbrev pub longest_log_line : String
longest_log_line = "18446744073709551615;255;6021;1996-08-31;23:57:01;6;crystal,daylight,utc,announced"

-- a status: reception, daylight, utc, announced
abbrev pub log_lines : List (Outcome (List ℕ) × String)
log_lines =
    -- the telegrams of a log
    (done log_header, "block;slot;kind;date;time;weekday;status")
    ∷ (telegram_row 0 0 (august (status_of High true false false) 6), "0;0;6021;1996-08-31;23:57:01;6;high,daylight")
    ∷ (telegram_row 0 1 noon, "0;1;5500t;-;12:00:00;-;-")
    ∷ (done (block_row 1 20), "1;refused 20")
    ∷ (done (block_row 3 19), "3;refused 19")
    ∷ (telegram_row 18446744073709551615 255 (august (status_of Crystal true true true) 6), longest_log_line)
    -- its blocks, verified
    ∷ (done verify_header, "block;offset;state;telegrams")
    ∷ (done (good_row 0 0 15), "0;0;good;15")
    ∷ (done (bad_row 1 512), "1;512;bad;-")
    ∷ (done (good_row 2 1024 0), "2;1024;good;0")
    ∷ (done (tail_row 3 1536 19), "3;1536;refused 19")
    ∷ (done (bad_count 1), "bad 1")
    ∷ []

abbrev pub TheLogsListingsAreAsPrinted : Type 0
TheLogsListingsAreAsPrinted =
    (map (λ row. row.0) log_lines ≡ map (λ row. done (line row.1)) log_lines)
    × (length (line longest_log_line) ≡ longest_log_row)
    -- a record that no telegram could carry: the last of that August on a Sunday
    × (telegram_row 0 0 (august (status_of High true false false) 7) ≡ refused 8)
