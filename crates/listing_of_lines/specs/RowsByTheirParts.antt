-- Document 01, "Listing": "a row for each event". What the row is of what is told with numbers, and of what a reader hands out, by its parts.
use Rattle.std.specs.Prelude.{◌≡◌, ℕ, [], None, Some, Ok, Err}
use Rattle.refusals.specs.declared.Refusal.{Refusal}
use Rattle.refusals.specs.Numbers.{number}
use Rattle.refusals.specs.Refusals.{done, refused}
use Rattle.record_rules.specs.declared.Record.{Record}
use Rattle.line_rules.specs.Hearing.{heard_as}
use Rattle.listing_rules.specs.Listing.{event_row, refused_row}
use Rattle.listing_of_lines.specs.Pages.{row_for, heard_in_numbers}

-- it begins with where the event starts, and tells any number; what is no event has none, and a refused state its number
abbrev pub AnyNumberIsTold : Type 0
AnyNumberIsTold =
    (rec : Record) (start size n : ℕ)
    → (row_for (heard_in_numbers (Ok (Some (record { answer = Ok rec; start = start; size = size })))) ≡ event_row start (done rec))
    × (row_for (heard_in_numbers (Ok (Some (record { answer = Err n; start = start; size = size })))) ≡ done (refused_row start n))
    × (row_for (heard_in_numbers (Ok None)) ≡ done [])
    × (row_for (heard_in_numbers (Err n)) ≡ refused n)

abbrev pub WhatIsHeardIsTold : Type 0
WhatIsHeardIsTold =
    (rec : Record) (refusal : Refusal) (start size : ℕ)
    → (row_for (heard_as (Ok (Some (record { answer = Ok rec; start = start; size = size })))) ≡ event_row start (done rec))
    × (row_for (heard_as (Ok (Some (record { answer = Err refusal; start = start; size = size })))) ≡ done (refused_row start (number refusal)))
    × (row_for (heard_as (Ok None)) ≡ done [])
    × (row_for (heard_as (Err refusal)) ≡ refused (number refusal))
