-- Source document 000, 6.5: what the digits of a reply mean, and the digits of a reply.
use Rattle.std.specs.Prelude.{List, ◌∷◌, ℕ, ◌+◌, ◌*◌, ◌/◌, ◌%◌, get_or}
use Rattle.places_rules.specs.Places.{code_value, code_character}
use Rattle.calendar_rules.specs.declared.date.Date.{Date}
use Rattle.layouts_rules.specs.Coding.{number, code_at, full_year, time_in, empty_behind}
use Rattle.leitch_rules.specs.declared.Reply.{Reply}

-- three decimal digits as a number
abbrev pub number_of_three : List ℕ → ℕ → ℕ
number_of_three digits slot = 10 * number digits slot + get_or digits (slot + 2) 0 % 16

-- the date, its two-digit year as in document 01
abbrev pub date_in : List ℕ → Date
date_in digits = record { year = full_year (number digits 12); month = number digits 10; day = number digits 8 }

-- the reply that digits carry; "carry the status .. unexplained": its character
abbrev pub reply_in : List ℕ → Reply
reply_in digits =
    record {
      time = time_in digits;
      millisecond = number_of_three digits 14;
      date = date_in digits;
      day_of_year = number_of_three digits 17;
      weekday = code_at digits 1;
      status = code_character (code_at digits 0);
    }

-- the digits that carry a reply, 0 in each slot that its row does not use. Of a number with more digits than places the last ones stand
-- here, and no such reply is written: the rule refuses it first
abbrev pub digits_out : Reply → List ℕ
digits_out reply =
    code_value reply.status ∷ reply.weekday
    ∷ reply.time.hour / 10 ∷ reply.time.hour % 10
    ∷ reply.time.minute / 10 ∷ reply.time.minute % 10
    ∷ reply.time.second / 10 ∷ reply.time.second % 10
    ∷ reply.date.day / 10 ∷ reply.date.day % 10
    ∷ reply.date.month / 10 ∷ reply.date.month % 10
    ∷ reply.date.year % 100 / 10 ∷ reply.date.year % 100 % 10
    ∷ reply.millisecond % 1000 / 100 ∷ reply.millisecond % 1000 / 10 % 10 ∷ reply.millisecond % 1000 % 10
    ∷ reply.day_of_year % 1000 / 100 ∷ reply.day_of_year % 1000 / 10 % 10 ∷ reply.day_of_year % 1000 % 10
    ∷ empty_behind 20
