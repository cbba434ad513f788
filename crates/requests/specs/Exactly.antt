-- Document 02, a: which bytes are requests, what each of them asks for, and that there are no others.
use Rattle.std.specs.Prelude.{◌≡◌, List, [], ◌∷◌, ◌⊎◌, ℕ, ◌*◌, ◌/◌, ◌%◌, ◌≤◌, ◌<◌}
use Rattle.refusals.specs.Refusals.{done, refused}
use Rattle.places_rules.specs.Places.{code_character}
use Rattle.requests.specs.declared.Asked.{Asked}
use Rattle.requests.specs.declared.Request.{Request}
use Rattle.requests.specs.Requests.{capital_of, small_of, request, request_of}

-- "the request letters U, D, G"
abbrev pub at_once : Asked → List ℕ
at_once asked = capital_of asked ∷ []

-- "and u, d, g with two hex digits (capitals)": a count below 256, its higher digit in front
abbrev pub with_count : Asked → ℕ → List ℕ
with_count asked count = small_of asked ∷ code_character (count / 16) ∷ code_character (count % 16) ∷ []

-- each capital letter asks for its answer at once
abbrev pub ACapitalLetterAsksAtOnce : Type 0
ACapitalLetterAsksAtOnce = (asked : Asked) → request_of (at_once asked) ≡ done (request asked 0)

-- each small letter, with any count, asks for the same after "a delay of ten milliseconds a count"
abbrev pub ASmallLetterAsksAfterItsCount : Type 0
ASmallLetterAsksAfterItsCount =
    (asked : Asked) (count : ℕ) → count < 256 → request_of (with_count asked count) ≡ done (request asked (10 * count))

-- so a request is one of these texts: a capital letter and no delay, or a small letter, a count, and the count's delay
abbrev pub Listed : List ℕ → Request → Type 0
Listed bytes r =
    ((bytes ≡ at_once r.asked) × (r.delay_ms ≡ 0))
    ⊎ ((count : ℕ) × (count < 256) × (bytes ≡ with_count r.asked count) × (r.delay_ms ≡ 10 * count))

-- and no other bytes are taken
abbrev pub NothingElseIsARequest : Type 0
NothingElseIsARequest = (bytes : List ℕ) (r : Request) → request_of bytes ≡ done r → Listed bytes r

-- "18 any other bytes as a request", and no other number
abbrev pub AllElseIs18 : Type 0
AllElseIs18 = (bytes : List ℕ) (number : ℕ) → request_of bytes ≡ refused number → number ≡ 18

-- "gFF is 2,550 ms": no delay is longer, and each is one of whole counts
abbrev pub NoDelayIsLonger : Type 0
NoDelayIsLonger =
    (bytes : List ℕ) (r : Request) → request_of bytes ≡ done r → (r.delay_ms ≤ 2550) × (r.delay_ms % 10 ≡ 0)
