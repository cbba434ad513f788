-- Document 01, "The seven layouts", as it is printed: every status and weekday character with its meaning, and telegrams whose
-- fields all differ, so that no two can be taken for each other. One statement: the definitions say the same, both ways.
use Rattle.std.specs.Prelude.{Bool, true, false, not, ◌&&◌, List, [], ◌∷◌, ◌++◌, map, ◌≡◌, ℕ, get_or}
use Prim.Native.String.{String}
use Rattle.refusals.specs.Refusals.{◌when◌, ◌else◌, Outcome, done, refused, unless, after}
use Rattle.ascii.specs.Ascii.{ascii}
use Rattle.ascii.specs.Control.{lf_cr, cr_lf}
use Rattle.places_rules.specs.Places.{code_value, code_character, gather, row_fault, no_digits, render}
use Rattle.calendar_rules.specs.Literals.{date, time}
use Rattle.record_rules.specs.declared.DatedLayout.{DatedLayout}
use Rattle.record_rules.specs.declared.DatedLayout.TheVariants.{L6021, L2000, L5500, L5050}
use Rattle.record_rules.specs.declared.TimeLayout.TheVariants.{T6021, T5500, T5050}
use Rattle.record_rules.specs.declared.Reception.{Reception}
use Rattle.record_rules.specs.declared.Reception.TheVariants.{Invalid, Crystal, Radio, High}
use Rattle.record_rules.specs.declared.Status.{Status}
use Rattle.record_rules.specs.declared.Record.{Record}
use Rattle.record_rules.specs.declared.Record.TheVariants.{Dated, TimeOnly}
use Rattle.record_rules.specs.Literals.{status_of}
use Rattle.record_rules.specs.Rule.{status_allowed, weekday_allowed, refusal_of}
use Rattle.layouts_rules.specs.Layouts.{places_of, own_layout, layout_of}
use Rattle.layouts_rules.specs.Coding.{status_in, status_out, weekday_in, weekday_out, record_in, digits_out}

-- The words of the tables.
infix 80 ◌means◌
abbrev pub ◌means◌ : {A : Type 0} → String → A → ℕ × A
◌means◌ character meaning = (get_or (ascii character) 0 0, meaning)

abbrev pub standard : Bool
standard = false

abbrev pub daylight : Bool
daylight = true

abbrev pub quiet : Bool
quiet = false

abbrev pub announced : Bool
announced = true

abbrev pub local_time : Bool
local_time = false

abbrev pub utc_time : Bool
utc_time = true

-- reception, season, changeover, UTC
abbrev pub status_saying : Reception → Bool → Bool → Bool → Status
status_saying reception season changeover utc = status_of reception season utc changeover

-- 6021 and 2000: the weekday's character says whether it is UTC; in 5500 and 5050 the status does
abbrev pub utc_by_weekday : Reception → Bool → Bool → Bool → Outcome Status
utc_by_weekday reception season changeover utc = done (status_saying reception season changeover utc)

abbrev pub local : Reception → Bool → Bool → Bool → Outcome Status
local reception season changeover by_weekday = done (status_saying reception season changeover local_time)

abbrev pub utc_status : Reception → Bool → Outcome Status
utc_status reception by_weekday = done (status_saying reception standard quiet utc_time)

abbrev pub no_status : Bool → Outcome Status
no_status by_weekday = refused 5

-- a weekday, and whether its character says UTC
abbrev pub day : ℕ → Outcome (ℕ × Bool)
day n = done (n, local_time)

abbrev pub utc_day : ℕ → Outcome (ℕ × Bool)
utc_day n = done (n, utc_time)

abbrev pub no_day : Outcome (ℕ × Bool)
no_day = refused 5

-- Status of 6021 and 2000: "b0 changeover announced; b1 daylight saving time, else standard; b3 b2: 00 invalid, 01 crystal, 10 radio,
-- 11 radio high accuracy. All sixteen are legal".
abbrev pub status_of6021 : List (ℕ × (Bool → Outcome Status))
status_of6021 =
    "0" means utc_by_weekday Invalid standard quiet
    ∷ "1" means utc_by_weekday Invalid standard announced
    ∷ "2" means utc_by_weekday Invalid daylight quiet
    ∷ "3" means utc_by_weekday Invalid daylight announced
    ∷ "4" means utc_by_weekday Crystal standard quiet
    ∷ "5" means utc_by_weekday Crystal standard announced
    ∷ "6" means utc_by_weekday Crystal daylight quiet
    ∷ "7" means utc_by_weekday Crystal daylight announced
    ∷ "8" means utc_by_weekday Radio standard quiet
    ∷ "9" means utc_by_weekday Radio standard announced
    ∷ "A" means utc_by_weekday Radio daylight quiet
    ∷ "B" means utc_by_weekday Radio daylight announced
    ∷ "C" means utc_by_weekday High standard quiet
    ∷ "D" means utc_by_weekday High standard announced
    ∷ "E" means utc_by_weekday High daylight quiet
    ∷ "F" means utc_by_weekday High daylight announced
    ∷ []

-- Weekday of 6021 and 2000: "b3 set means UTC; the low three bits are 1 Monday to 7 Sunday. A low part of 0 is not legal".
abbrev pub weekday_of6021 : List (ℕ × Outcome (ℕ × Bool))
weekday_of6021 =
    "0" means no_day
    ∷ "1" means day 1
    ∷ "2" means day 2
    ∷ "3" means day 3
    ∷ "4" means day 4
    ∷ "5" means day 5
    ∷ "6" means day 6
    ∷ "7" means day 7
    ∷ "8" means no_day
    ∷ "9" means utc_day 1
    ∷ "A" means utc_day 2
    ∷ "B" means utc_day 3
    ∷ "C" means utc_day 4
    ∷ "D" means utc_day 5
    ∷ "E" means utc_day 6
    ∷ "F" means utc_day 7
    ∷ []

-- Status of 5500 and 5050: "b0 crystal, else radio; b1 announced; b2 summer; b3 UTC, and then b2 and b1 must be 0. So 0 to 9 are legal,
-- A to F are not".
abbrev pub status_of5500 : List (ℕ × (Bool → Outcome Status))
status_of5500 =
    "0" means local Radio standard quiet
    ∷ "1" means local Crystal standard quiet
    ∷ "2" means local Radio standard announced
    ∷ "3" means local Crystal standard announced
    ∷ "4" means local Radio daylight quiet
    ∷ "5" means local Crystal daylight quiet
    ∷ "6" means local Radio daylight announced
    ∷ "7" means local Crystal daylight announced
    ∷ "8" means utc_status Radio
    ∷ "9" means utc_status Crystal
    ∷ "A" means no_status
    ∷ "B" means no_status
    ∷ "C" means no_status
    ∷ "D" means no_status
    ∷ "E" means no_status
    ∷ "F" means no_status
    ∷ []

-- Weekday of 5500 and 5050: "1 to 7 only; the tables leave b3 open, and here it must be 0".
abbrev pub weekday_of5500 : List (ℕ × Outcome (ℕ × Bool))
weekday_of5500 =
    "0" means no_day
    ∷ "1" means day 1
    ∷ "2" means day 2
    ∷ "3" means day 3
    ∷ "4" means day 4
    ∷ "5" means day 5
    ∷ "6" means day 6
    ∷ "7" means day 7
    ∷ "8" means no_day
    ∷ "9" means no_day
    ∷ "A" means no_day
    ∷ "B" means no_day
    ∷ "C" means no_day
    ∷ "D" means no_day
    ∷ "E" means no_day
    ∷ "F" means no_day
    ∷ []

-- Telegrams between STX and ETX, with the record that each carries: layout, status, weekday, date, time.
abbrev pub telegrams : List (List ℕ × Record)
telegrams =
    (ascii "DB205841170496" ++ lf_cr, Dated L6021 (status_saying High standard announced utc_time) 3 (date 1996 4 17) (time 20 58 41))
    ∷ (ascii "102947" ++ lf_cr, TimeOnly T6021 (time 10 29 47))
    ∷ (ascii "A413520925061987" ++ lf_cr, Dated L2000 (status_saying Radio daylight quiet local_time) 4 (date 1987 6 25) (time 13 52 9))
    ∷ (ascii "5 211746 260893 4" ++ cr_lf, Dated L5500 (status_saying Crystal daylight quiet local_time) 4 (date 1993 8 26) (time 21 17 46))
    ∷ (ascii "231458" ++ cr_lf, TimeOnly T5500 (time 23 14 58))
    ∷ (ascii "18 49 06 27 12 38 31 " ++ cr_lf, Dated L5050 (status_saying Crystal standard announced local_time) 1 (date 2038 12 27) (time 18 49 6))
    ∷ (ascii "07 36 51 " ++ cr_lf, TimeOnly T5050 (time 7 36 51))
    -- "a two-digit year 80 to 99 is 1980 to 1999, and 00 to 79 is 2000 to 2079"
    ∷ (ascii "82000000010180" ++ lf_cr, Dated L6021 (status_saying Radio standard quiet local_time) 2 (date 1980 1 1) (time 0 0 0))
    ∷ (ascii "85235959311299" ++ lf_cr, Dated L6021 (status_saying Radio standard quiet local_time) 5 (date 1999 12 31) (time 23 59 59))
    ∷ (ascii "86000000010100" ++ lf_cr, Dated L6021 (status_saying Radio standard quiet local_time) 6 (date 2000 1 1) (time 0 0 0))
    ∷ (ascii "87235959311279" ++ lf_cr, Dated L6021 (status_saying Radio standard quiet local_time) 7 (date 2079 12 31) (time 23 59 59))
    ∷ []

-- What the definitions make of two characters, and of a telegram.
abbrev pub codes_read : DatedLayout → ℕ → ℕ → Outcome (Status × ℕ)
codes_read layout status weekday =
    let read = status_in layout (code_value status) (code_value weekday) in
    let weekday_read = weekday_in layout (code_value weekday) in
    unless (5 when not (status_allowed layout read && weekday_allowed weekday_read)) (read, weekday_read)

abbrev pub codes_written : DatedLayout → Status × ℕ → ℕ × ℕ
codes_written layout (status, weekday) = (code_character (status_out layout status), code_character (weekday_out layout status weekday))

abbrev pub body_read : List ℕ → Outcome Record
body_read body =
    after (layout_of body)
    (λ layout.
    let rec = record_in layout (gather (places_of layout) body no_digits) in
    unless (row_fault (places_of layout) body else refusal_of rec) rec)

abbrev pub body_written : Record → List ℕ
body_written rec = render (places_of (own_layout rec)) (digits_out rec)

-- Two tables hold in a layout: any two of their characters read as what they mean, and what they mean is written as them.
abbrev pub together : (Bool → Outcome Status) → Outcome (ℕ × Bool) → Outcome (Status × ℕ)
together status weekday = after weekday (λ (n, utc). after (status utc) (λ s. done (s, n)))

abbrev pub any_two : {A B C : Type 0} → (A → B → C) → List A → List B → List C
any_two f [] ys = []
any_two f (x ∷ xs) ys = map (f x) ys ++ any_two f xs ys

abbrev pub column : {A : Type 0} → List (ℕ × A) → List ℕ
column table = map (λ line. line.0) table

pub record CodesHold (layout : DatedLayout) (statuses : List (ℕ × (Bool → Outcome Status))) (weekdays : List (ℕ × Outcome (ℕ × Bool))) : Type 0 where
  pub all_statuses : column statuses ≡ ascii "0123456789ABCDEF"
  pub all_weekdays : column weekdays ≡ ascii "0123456789ABCDEF"
  pub read : any_two (λ s w. codes_read layout s.0 w.0) statuses weekdays ≡ any_two (λ s w. together s.1 w.1) statuses weekdays
  pub written : any_two (λ s w. after (together s.1 w.1) (λ meant. done (codes_written layout meant))) statuses weekdays
      ≡ any_two (λ s w. after (together s.1 w.1) (λ meant. done (s.0, w.0))) statuses weekdays

pub record TheTablesAreAsPrinted : Type 0 where
  pub codes_of6021 : CodesHold L6021 status_of6021 weekday_of6021
  pub codes_of2000 : CodesHold L2000 status_of6021 weekday_of6021
  pub codes_of5500 : CodesHold L5500 status_of5500 weekday_of5500
  pub codes_of5050 : CodesHold L5050 status_of5500 weekday_of5500
  pub telegrams_read : map (λ line. body_read line.0) telegrams ≡ map (λ line. done line.1) telegrams
  pub telegrams_written : map (λ line. body_written line.1) telegrams ≡ map (λ line. line.0) telegrams
