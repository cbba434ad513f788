-- The rows of the two listings of a log, as bytes: its telegrams, and its blocks verified. Document 02 c), "block and slot (both from 0)".
use Rattle.std.specs.Prelude.{List, ◌++◌, ℕ}
use Rattle.refusals.specs.Refusals.{Outcome, unless}
use Rattle.record_rules.specs.declared.Record.{Record}
use Rattle.record_rules.specs.Rule.{refusal_of}
use Rattle.ascii.specs.Ascii.{ascii}
use Rattle.listing_rules.specs.Decimals.{decimal}
use Rattle.listing_rules.specs.Listing.{columns, refused_row}

-- the first line of the telegrams' listing
unfoldable pub log_header : List ℕ
log_header = ascii "block;slot;kind;date;time;weekday;status\n"

-- as in "0;1;6021;1996-04-17;12:34:56;3;high,daylight": behind block and slot stand the columns of the line's listing
unfoldable pub slot_row : ℕ → ℕ → Record → List ℕ
slot_row block slot rec = decimal block ++ ascii ";" ++ decimal slot ++ ascii ";" ++ columns rec

-- the row of a telegram in a slot. What no telegram could say has no row: 5 to 8
abbrev pub telegram_row : ℕ → ℕ → Record → Outcome (List ℕ)
telegram_row block slot rec = unless (refusal_of rec) (slot_row block slot rec)

-- as in "1;refused 20"
abbrev pub block_row : ℕ → ℕ → List ℕ
block_row block number = refused_row block number

-- the first line of the blocks' listing
unfoldable pub verify_header : List ℕ
verify_header = ascii "block;offset;state;telegrams\n"

-- as in "0;0;": a block's number, and the offset of its first byte
abbrev pub block_columns : ℕ → ℕ → List ℕ
block_columns block offset = decimal block ++ ascii ";" ++ decimal offset ++ ascii ";"

-- as in "0;0;good;15": how many telegrams it holds
unfoldable pub good_row : ℕ → ℕ → ℕ → List ℕ
good_row block offset telegrams = block_columns block offset ++ ascii "good;" ++ decimal telegrams ++ ascii "\n"

-- as in "1;512;bad;-": the count of a bad block is not to be trusted
unfoldable pub bad_row : ℕ → ℕ → List ℕ
bad_row block offset = block_columns block offset ++ ascii "bad;-\n"

-- as in "3;1536;refused 19": the bytes behind the last whole block
unfoldable pub tail_row : ℕ → ℕ → ℕ → List ℕ
tail_row block offset number = block_columns block offset ++ ascii "refused " ++ decimal number ++ ascii "\n"

-- as in "bad 1", the last line of the blocks' listing
unfoldable pub bad_count : ℕ → List ℕ
bad_count bad = ascii "bad " ++ decimal bad ++ ascii "\n"

-- no row of a log is longer: the numbers of 64 bits have 20 digits at most, those of 8 bits three
abbrev pub longest_log_row : ℕ
longest_log_row = 83
