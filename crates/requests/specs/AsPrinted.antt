-- The requests as 000, "6 Serial Requests", and document 02, a, print them, and bytes that are none; and the one statement over them.
use Rattle.std.specs.Prelude.{◌≡◌, List, [], ◌∷◌, ◌++◌, map, ℕ}
use Prim.Native.String.{String}
use Rattle.refusals.specs.Refusals.{done, refused}
use Rattle.ascii.specs.Ascii.{ascii}
use Rattle.ascii.specs.Control.{stx, etx, cr_lf}
use Rattle.requests.specs.declared.Asked.{Asked}
use Rattle.requests.specs.declared.Asked.TheVariants.{Time, TimeAndDate, UtcTimeAndDate}
use Rattle.requests.specs.declared.Request.{Request}
use Rattle.requests.specs.Requests.{request, request_of}

-- a text, what it asks for, and the milliseconds that the answer waits
infix 80 ◌asks◌after◌
abbrev pub ◌asks◌after◌ : String → Asked → ℕ → List ℕ × Request
◌asks◌after◌ text asked delay = (ascii text, request asked delay)

abbrev pub printed : List (List ℕ × Request)
printed =
    -- "U - for time, D - for time/date, G - for UTC-time/date"; these are answered at once
    ("U" asks Time after 0)
    ∷ ("D" asks TimeAndDate after 0)
    ∷ ("G" asks UtcTimeAndDate after 0)
    -- "u05 (Hex 75,30,35)": after 50 milliseconds time only
    ∷ ("u05" asks Time after 50)
    ∷ (0x75 ∷ 0x30 ∷ 0x35 ∷ [], request Time 50)
    -- "gFF (Hex 67,46,46)": after 2550 milliseconds UTC time/date
    ∷ ("gFF" asks UtcTimeAndDate after 2550)
    ∷ (0x67 ∷ 0x46 ∷ 0x46 ∷ [], request UtcTimeAndDate 2550)
    -- the third small letter, and the first and the last of each kind of digit
    ∷ ("d09" asks TimeAndDate after 90)
    ∷ ("d90" asks TimeAndDate after 1440)
    ∷ ("d0A" asks TimeAndDate after 100)
    ∷ ("dA0" asks TimeAndDate after 1600)
    -- a count of 0 is the letter alone
    ∷ ("u00" asks Time after 0)
    ∷ ("d00" asks TimeAndDate after 0)
    ∷ ("g00" asks UtcTimeAndDate after 0)
    ∷ []

-- "18 any other bytes as a request"
abbrev pub no_requests : List (List ℕ)
no_requests =
    [] ∷ map ascii
    -- other letters, "T" of the Leitch generators among them
    ("T" ∷ "T05" ∷ "A" ∷ "a05" ∷ "UD" ∷ ":ZSYS:"
    -- a small letter alone, or with one digit, or with three; a capital with two
    ∷ "u" ∷ "u5" ∷ "u005" ∷ "U05"
    -- digits that are none, small ones too
    ∷ "uff" ∷ "gFf" ∷ "dG0" ∷ "u 5" ∷ "u-1"
    -- something in front of it or behind it
    ∷ " U" ∷ "U " ∷ "u05 " ∷ [])
    ++ (ascii "U" ++ cr_lf) ∷ (ascii "u05" ++ cr_lf) ∷ (stx ∷ ascii "U" ++ etx ∷ []) ∷ (stx ∷ ascii "u05" ++ etx ∷ [])
    -- "U" with its eighth bit set
    ∷ (0xD5 ∷ []) ∷ []

abbrev pub RequestsAreAsPrinted : Type 0
RequestsAreAsPrinted =
    (map (λ row. request_of row.0) printed ≡ map (λ row. done row.1) printed)
    × (map request_of no_requests ≡ map (λ bytes. refused 18) no_requests)
