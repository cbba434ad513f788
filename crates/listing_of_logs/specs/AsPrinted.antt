-- The two listings of a small file, whole: a good block, a bad one, an empty one, and a byte that is no block.
use Rattle.std.specs.Prelude.{List, [], ◌∷◌, ◌++◌, ◌≡◌, ℕ, replicate}
use Rattle.ascii.specs.Ascii.{ascii}
use Rattle.log_rules.specs.Block.{block_of}
use Rattle.log_rules.specs.AsPrinted.{delivery, stop}
use Rattle.listing_of_logs.specs.Whole.{log_listing, verify_listing}

abbrev pub small_file : List ℕ
small_file = block_of (delivery ∷ stop ∷ []) ++ replicate 512 1 ++ block_of [] ++ 2 ∷ []

abbrev pub TheListingsOfALogAreAsPrinted : Type 0
TheListingsOfALogAreAsPrinted =
    (verify_listing small_file
    ≡ ascii "block;offset;state;telegrams\n"
    ++ ascii "0;0;good;2\n"
    ++ ascii "1;512;bad;-\n"
    ++ ascii "2;1024;good;0\n"
    ++ ascii "3;1536;refused 19\n"
    ++ ascii "bad 1\n")
    × (log_listing small_file
    ≡ ascii "block;slot;kind;date;time;weekday;status\n"
    ++ ascii "0;0;6021;1996-04-17;12:34:56;3;high,daylight\n"
    ++ ascii "0;1;5500t;-;23:14:58;-;-\n"
    ++ ascii "1;refused 20\n"
    ++ ascii "3;refused 19\n")
