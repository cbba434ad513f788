-- Document 01, "Listing, whole": the printed example, input and listing, and the empty input; document 02, f: the same line exchanged.
use Rattle.std.specs.Prelude.{List, [], ◌∷◌, ◌++◌, ◌≡◌, ℕ}
use Rattle.ascii.specs.Ascii.{ascii}
use Rattle.trailer_rules.specs.declared.Order.TheVariants.{Exchanged}
use Rattle.listing_of_lines.specs.Whole.{listing_in, listing_of}

-- "`x`, STX `E3123456170496` LF CR ETX, STX `12`, end"
abbrev pub printed_input : List ℕ
printed_input = ascii "x" ++ 0x02 ∷ ascii "E3123456170496" ++ 0x0A ∷ 0x0D ∷ 0x03 ∷ 0x02 ∷ ascii "12"

abbrev pub printed_listing : List ℕ
printed_listing =
    ascii "start;kind;date;time;weekday;status\n"
    ++ ascii "1;6021;1996-04-17;12:34:56;3;high,daylight\n"
    ++ ascii "19;refused 11\n"
    ++ ascii "stray 1\n"

-- "empty input gives the header and `stray 0`"
abbrev pub empty_listing : List ℕ
empty_listing = ascii "start;kind;date;time;weekday;status\n" ++ ascii "stray 0\n"

-- with CR and LF exchanged: listed in exchanged order it has the same rows, and as printed its telegram is refused, with 3
abbrev pub exchanged_input : List ℕ
exchanged_input = ascii "x" ++ 0x02 ∷ ascii "E3123456170496" ++ 0x0D ∷ 0x0A ∷ 0x03 ∷ 0x02 ∷ ascii "12"

abbrev pub refused_listing : List ℕ
refused_listing =
    ascii "start;kind;date;time;weekday;status\n" ++ ascii "1;refused 3\n" ++ ascii "19;refused 11\n" ++ ascii "stray 1\n"

abbrev pub TheWholeListingIsAsPrinted : Type 0
TheWholeListingIsAsPrinted =
    (listing_of printed_input ≡ printed_listing)
    × (listing_of [] ≡ empty_listing)
    × (listing_in Exchanged exchanged_input ≡ printed_listing)
    × (listing_of exchanged_input ≡ refused_listing)
    × (listing_in Exchanged printed_input ≡ refused_listing)
