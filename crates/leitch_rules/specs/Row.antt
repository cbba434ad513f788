-- Source document 000, 6.5, "Data string structure": the 31 characters of the answer to a Leitch generator, as a row of places.
use Rattle.std.specs.Prelude.{List, [], ◌∷◌, ◌++◌, map, ℕ}
use Rattle.places_rules.specs.Places.{Place, fixed, decimal, place_number}
use Rattle.layouts_rules.specs.Layouts.{status, weekday, hh, mm, ss, dd, mo, space, CR, LF}

-- the fixed characters that the seven layouts do not have
abbrev pub colon : Place
colon = fixed 0x3A

abbrev pub point : Place
point = fixed 0x2E

abbrev pub slash : Place
slash = fixed 0x2F

-- a digit's number is its slot. Time, day and month stand in the slots that the seven layouts give them; the year has the next two, where
-- those keep a century
abbrev pub yy : List Place
yy = decimal 12 ∷ decimal 13 ∷ []

-- "100th millisecond, tens millisecond, unit millisecond": the hundreds first
abbrev pub milliseconds : List Place
milliseconds = decimal 14 ∷ decimal 15 ∷ decimal 16 ∷ []

-- "100th curr. day of year, tens curr. day of year, unit curr. day of year": the same
abbrev pub day_in_year : List Place
day_in_year = decimal 17 ∷ decimal 18 ∷ decimal 19 ∷ []

-- "with CR LF and no STX"
unfoldable pub reply_row : List Place
reply_row =
    hh ++ colon ∷ mm ++ colon ∷ ss ++ point ∷ milliseconds ++ space
    ∷ dd ++ slash ∷ mo ++ slash ∷ yy ++ space
    ∷ day_in_year ++ space ∷ weekday ∷ space ∷ status ∷ CR ∷ LF ∷ []

-- the row as the code keeps it: one number a place
unfoldable pub row_numbers : List ℕ
row_numbers = map place_number reply_row
