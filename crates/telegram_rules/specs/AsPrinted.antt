-- What a write makes, in literal bytes: document 01, "Refusal numbers", of each named setting; document 02, e, of none.
use Rattle.std.specs.Prelude.{Bool, true, false, List, [], ◌∷◌, ◌++◌, map, ◌≡◌, ℕ}
use Prim.Native.String.{String}
use Rattle.refusals.specs.Refusals.{Outcome, done, refused}
use Rattle.ascii.specs.Ascii.{ascii}
use Rattle.calendar_rules.specs.Literals.{date, time}
use Rattle.record_rules.specs.declared.DatedLayout.{DatedLayout}
use Rattle.record_rules.specs.declared.DatedLayout.TheVariants.{L6021, L2000, L5500, L5050}
use Rattle.record_rules.specs.declared.TimeLayout.TheVariants.{T6021, T5500, T5050}
use Rattle.record_rules.specs.declared.Reception.TheVariants.{Invalid, Crystal, Radio, High}
use Rattle.record_rules.specs.declared.Status.{Status}
use Rattle.record_rules.specs.declared.Record.{Record}
use Rattle.record_rules.specs.declared.Record.TheVariants.{Dated, TimeOnly}
use Rattle.record_rules.specs.Literals.{status_of, standard_time, daylight_time, marked_utc}
use Rattle.telegram_rules.specs.declared.write.Choice.{Choice}
use Rattle.telegram_rules.specs.declared.write.Choice.TheVariants.{Named, Unnamed}
use Rattle.telegram_rules.specs.Writing.{written}

-- a 6021 without control characters, LF CR at its end; and with them
abbrev pub bare : String → List ℕ
bare text = ascii text ++ 0x0A ∷ 0x0D ∷ []

abbrev pub between : String → List ℕ
between text = 0x02 ∷ ascii text ++ 0x0A ∷ 0x0D ∷ 0x03 ∷ []

-- the record of the paper's listing, `E3123456170496`
abbrev pub delivery : DatedLayout → Record
delivery layout = Dated layout (status_of High true false false) 3 (date 1996 4 17) (time 12 34 56)

-- "a named setting says control characters or not and second advance or not", control characters first; "an unnamed setting now means
-- 6021 with control characters"
abbrev pub named : Bool → Bool → Choice
named control advance = Named (record { control = control; advance = advance })

abbrev pub by_setting : List (Choice × List ℕ)
by_setting =
    (named false false, bare "E3123456170496")
    ∷ (named true false, between "E3123456170496")
    ∷ (named false true, bare "E3123457170496")
    ∷ (named true true, between "E3123457170496")
    ∷ (Unnamed, between "E3123456170496")
    ∷ []

-- unnamed, "6021 whatever layout the record has": the same fields, each status that a 5500 or 5050 can say in the 6021's characters
abbrev pub wednesday : DatedLayout → Status → Record
wednesday layout status = Dated layout status 3 (date 1996 1 3) (time 12 34 56)

abbrev pub by_record : List (Record × List ℕ)
by_record =
    (delivery L2000, between "E3123456170496")
    ∷ (wednesday L5500 standard_time, between "83123456030196")
    ∷ (wednesday L5500 (status_of Crystal false false false), between "43123456030196")
    ∷ (wednesday L5500 (status_of Radio false false true), between "93123456030196")
    ∷ (wednesday L5500 (status_of Crystal false false true), between "53123456030196")
    ∷ (wednesday L5050 daylight_time, between "A3123456030196")
    ∷ (wednesday L5050 (status_of Crystal true false false), between "63123456030196")
    ∷ (wednesday L5050 (status_of Radio true false true), between "B3123456030196")
    ∷ (wednesday L5050 (status_of Crystal true false true), between "73123456030196")
    ∷ (wednesday L5500 marked_utc, between "8B123456030196")
    ∷ (wednesday L5050 (status_of Crystal false true false), between "4B123456030196")
    ∷ []

-- unnamed, by the buffer's length: "a buffer of 16 bytes is then too short, with 13"
abbrev pub by_room : List (ℕ × Outcome (List ℕ))
by_room =
    (0, refused 13)
    ∷ (15, refused 13)
    ∷ (16, refused 13)
    ∷ (17, refused 13)
    ∷ (18, done (between "E3123456170496"))
    ∷ (19, done (between "E3123456170496"))
    ∷ []

-- unnamed and refused, whatever the buffer's length: 5 to 8 before 13 and 14; "a time-only record then gives 14"
abbrev pub refused_records : List (Record × ℕ)
refused_records =
    (wednesday L5500 (status_of High false false false), 5)
    ∷ (wednesday L5050 (status_of Invalid false false false), 5)
    ∷ (wednesday L5500 (status_of Radio true true false), 5)
    ∷ (Dated L6021 standard_time 3 (date 1996 1 3) (time 24 0 0), 6)
    ∷ (Dated L2000 standard_time 3 (date 1996 2 30) (time 12 34 56), 7)
    ∷ (Dated L5050 standard_time 4 (date 1996 1 3) (time 12 34 56), 8)
    ∷ (TimeOnly T6021 (time 24 0 0), 6)
    ∷ (TimeOnly T6021 (time 12 34 56), 14)
    ∷ (TimeOnly T5500 (time 12 34 56), 14)
    ∷ (TimeOnly T5050 (time 12 34 56), 14)
    ∷ []

-- unnamed, into a buffer of so many bytes, each of those records
abbrev pub RefusedIn : ℕ → Type 0
RefusedIn room = map (λ row. written Unnamed row.0 room) refused_records ≡ map (λ row. refused row.1) refused_records

pub record WritesAreAsPrinted : Type 0 where
  pub settings : map (λ row. written row.0 (delivery L6021) 25) by_setting ≡ map (λ row. done row.1) by_setting
  pub records : map (λ row. written Unnamed row.0 25) by_record ≡ map (λ row. done row.1) by_record
  pub rooms : map (written Unnamed (delivery L6021)) (map (λ row. row.0) by_room) ≡ map (λ row. row.1) by_room
  pub no_room : RefusedIn 0
  pub short_room : RefusedIn 17
  pub room : RefusedIn 25
