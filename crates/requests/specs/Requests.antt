-- Document 02, a, and 000, "6 Serial Requests": the request letters, as rows of places.
use Rattle.std.specs.Prelude.{Bool, cond, ◌&&◌, List, [], ◌∷◌, ℕ, ◌+◌, ◌*◌, eqb, length, get_or}
use Prim.Native.String.{String}
use Rattle.refusals.specs.Refusals.{Outcome, done, refused}
use Rattle.ascii.specs.Ascii.{ascii}
use Rattle.places_rules.specs.Places.{Place, fixed, code, row_fault, gather, no_digits}
use Rattle.requests.specs.declared.Asked.{Asked}
use Rattle.requests.specs.declared.Asked.TheVariants.{Time, TimeAndDate, UtcTimeAndDate}
use Rattle.requests.specs.declared.Request.{Request}

-- the byte of a letter
abbrev pub letter : String → ℕ
letter text = get_or (ascii text) 0 0

-- "U - for time, D - for time/date, G - for UTC-time/date"
abbrev pub capital_of : Asked → ℕ
capital_of Time = letter "U"
capital_of TimeAndDate = letter "D"
capital_of UtcTimeAndDate = letter "G"

-- "the small letters u, d, g"
abbrev pub small_of : Asked → ℕ
small_of Time = letter "u"
small_of TimeAndDate = letter "d"
small_of UtcTimeAndDate = letter "g"

-- "the request letters U, D, G": each alone
abbrev pub alone : Asked → List Place
alone asked = fixed (capital_of asked) ∷ []

-- "two hex digits (capitals)"
abbrev pub high_digit : Place
high_digit = code 0

abbrev pub low_digit : Place
low_digit = code 1

-- "u, d, g with two hex digits"
abbrev pub delayed : Asked → List Place
delayed asked = fixed (small_of asked) ∷ high_digit ∷ low_digit ∷ []

-- every row, with what it asks for
abbrev pub request_rows : List (Asked × List Place)
request_rows =
    (Time, alone Time)
    ∷ (TimeAndDate, alone TimeAndDate)
    ∷ (UtcTimeAndDate, alone UtcTimeAndDate)
    ∷ (Time, delayed Time)
    ∷ (TimeAndDate, delayed TimeAndDate)
    ∷ (UtcTimeAndDate, delayed UtcTimeAndDate)
    ∷ []

-- bytes fit a row: each is right for its place, and there are as many as places
abbrev pub fits : List Place → List ℕ → Bool
fits row bytes = eqb (row_fault row bytes) 0 && eqb (length bytes) (length row)

-- "a delay of ten milliseconds a count": the two digits are the count, "interpreted as hexadecimal value"
abbrev pub delay_for : ℕ → ℕ → ℕ
delay_for high low = 10 * (16 * high + low)

-- by the digits that a row finds; a letter alone has none, and its delay is 0
abbrev pub delay_of : List ℕ → ℕ
delay_of digits = delay_for (get_or digits 0 0) (get_or digits 1 0)

-- what is asked for, and how many milliseconds the answer waits
abbrev pub request : Asked → ℕ → Request
request asked delay = record { asked = asked; delay_ms = delay }

-- "18 any other bytes as a request"
abbrev pub no_request : Outcome Request
no_request = refused 18

-- by the row that the bytes fit
abbrev pub request_in : List (Asked × List Place) → List ℕ → Outcome Request
request_in [] bytes = no_request
request_in (row ∷ more) bytes =
    cond (fits row.1 bytes) (done (request row.0 (delay_of (gather row.1 bytes no_digits)))) (request_in more bytes)

-- any bytes: one of the six rows, or no request
unfoldable pub request_of : List ℕ → Outcome Request
request_of bytes = request_in request_rows bytes
