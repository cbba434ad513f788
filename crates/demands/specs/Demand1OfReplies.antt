-- Demand 1 of document 02, a: the answers to Leitch generators, called replies, the request letters, and the day of the year.
use Rattle.std.specs.Prelude.{Bool, false, not, ◌&&◌, ◌||◌, List, [], ◌∷◌, ◌++◌, ◌≡◌, ℕ, leb, ltb, eqb, length}
use Rattle.refusals.specs.Refusals.{refused}
use Rattle.ascii.specs.Ascii.{ascii}
use Rattle.lent_buffer.specs.Laying.{laid}
use Rattle.places_rules.specs.Places.{is_decimal, is_capital}
use Rattle.calendar_rules.specs.Calendar.{date_in_range, day_exists}
use Rattle.calendar_rules.specs.TimeOfDay.{time_in_range}
use Rattle.calendar_rules.specs.DayOfYear.{day_of_year}
use Rattle.calendar_rules.specs.declared.date.Date.{Date}
use Rattle.leitch_rules.specs.declared.Reply.{Reply}
use Rattle.leitch_rules.specs.Row.{reply_row}
use Rattle.leitch_rules.specs.Rule.{status_listed, weekday_listed, weekday_agrees, day_agrees}
use Rattle.leitch_rules.specs.Reading.{carried, reply_of}
use Rattle.leitch_rules.specs.Writing.{written}
use Rattle.requests.specs.Requests.{request_of}
use Rattle.demands.specs.Numbers.{Rule, ◌given_when◌, among, ◌refused_by◌, ◌done_or◌}
use Rattle.demands.specs.Rules.{place_rules, date_rules}

-- the fields of a reply: 5 status or weekday not listed, 6 "out of range", and "a millisecond above 999 is 6", 7 "no such day in that
-- month", 8 "weekday disagrees with the date"
abbrev pub field_rules : Reply → List Rule
field_rules reply =
    5 given_when not (status_listed reply.status && weekday_listed reply.weekday)
    ∷ 6 given_when not (time_in_range reply.time && (leb reply.millisecond 999 && date_in_range reply.date))
    ∷ 7 given_when not (day_exists reply.date)
    ∷ 8 given_when not (weekday_agrees reply.weekday reply.date)
    ∷ []

-- "17 day of year disagrees"
abbrev pub day_rules : Reply → List Rule
day_rules reply = 17 given_when not (day_agrees reply) ∷ []

-- reading: 1 for any length but "the 31 characters", 3, 4 and 5 over the places, where "colon, point and slash count under 3", then
-- what the places carry; 17 "after 8"
abbrev pub reply_rules : List ℕ → List Rule
reply_rules bytes =
    1 given_when not (eqb (length bytes) 31) ∷ place_rules reply_row bytes ++ field_rules (carried bytes) ++ day_rules (carried bytes)

-- writing: 13 "the lent buffer is shorter than what is to be written"; "where several hold, the lowest is given", so 13 before 17
abbrev pub reply_writing_rules : Reply → ℕ → List Rule
reply_writing_rules reply room = field_rules reply ++ 13 given_when ltb room 31 ∷ day_rules reply

-- "the request letters U, D, G, and u, d, g with two hex digits (capitals)"
abbrev pub is_hex_digit : ℕ → Bool
is_hex_digit byte = is_decimal byte || is_capital byte

abbrev pub is_request : List ℕ → Bool
is_request [] = false
is_request (letter ∷ []) = among (ascii "UDG") letter
is_request (letter ∷ byte ∷ []) = false
is_request (letter ∷ high ∷ low ∷ []) = among (ascii "udg") letter && (is_hex_digit high && is_hex_digit low)
is_request (letter ∷ high ∷ low ∷ byte ∷ more) = false

-- "18 any other bytes as a request"
abbrev pub request_rules : List ℕ → List Rule
request_rules bytes = 18 given_when not (is_request bytes) ∷ []

-- what reading a reply gives: not 2, as it has neither STX nor ETX
abbrev pub in_a_reply : List ℕ
in_a_reply = 1 ∷ 3 ∷ 4 ∷ 5 ∷ 6 ∷ 7 ∷ 8 ∷ 17 ∷ []

-- a reply read: one of those
abbrev pub ReadingAReplyRefuses : Type 0
ReadingAReplyRefuses = (bytes : List ℕ) → (reply_of bytes refused_by reply_rules bytes) × (reply_of bytes done_or in_a_reply)

-- a reply written, into a buffer of any length: 5 to 8, 13, 17
abbrev pub WritingAReplyRefuses : Type 0
WritingAReplyRefuses =
    (reply : Reply) (room : ℕ)
    → (written reply room refused_by reply_writing_rules reply room) × (written reply room done_or 5 ∷ 6 ∷ 7 ∷ 8 ∷ 13 ∷ 17 ∷ [])

-- a request read: 18
abbrev pub ReadingARequestRefuses : Type 0
ReadingARequestRefuses =
    (bytes : List ℕ) → (request_of bytes refused_by request_rules bytes) × (request_of bytes done_or 18 ∷ [])

-- the day of a date's year: 6, 7
abbrev pub TheDayOfTheYearRefuses : Type 0
TheDayOfTheYearRefuses = (date : Date) → (day_of_year date refused_by date_rules date) × (day_of_year date done_or 6 ∷ 7 ∷ [])

-- "A refused telegram changes no byte of the buffer": nor does a refused reply
abbrev pub ARefusedReplyChangesNoByte : Type 0
ARefusedReplyChangesNoByte =
    (reply : Reply) (buffer : List ℕ) (n : ℕ) → (laid (written reply (length buffer)) buffer).0 ≡ refused n
    → (laid (written reply (length buffer)) buffer).1 ≡ buffer
