-- Document 02, g: "a reader state kept from before the change must be taken over by a named step".
use Rattle.std.specs.Prelude.{Bool, cond, ◌++◌, ◌≡◌, ℕ, ◌-◌, ◌^◌, ◌<◌, length, replicate}
use Rattle.line.specs.declared.Reader.{Reader}
use Rattle.line.specs.Readers.{reader_with, fresh_in, well_formed_at}
use Rattle.line_rules.specs.Line.{places}
use Rattle.takeover.specs.declared.Kept.{Kept}
use Rattle.takeover.specs.declared.TakenOver as code
use Rattle.refusals.specs.Numbers.{number_if}

-- the bound that the state was kept at
abbrev pub kept_places : ℕ
kept_places = 24

-- what was kept, as a state of so many places
abbrev pub state_of : Kept → Reader
state_of kept = reader_with kept.held kept.len kept.fed kept.stray kept.start kept.order

-- "the old well-formed rule": the rule in use, at that bound
abbrev pub was_well_formed : Kept → Bool
was_well_formed kept = well_formed_at kept_places (state_of kept)

-- what a kept state's declaration says already: an array of so many places, and counts of 32 bits
abbrev pub AsKept : Kept → Type 0
AsKept kept = (length kept.held ≡ kept_places) × (kept.fed < 2 ^ 32) × (kept.stray < 2 ^ 32)

-- the same bytes, counts, start and order, and zeros in the places that there were not
abbrev pub with_more_places : Reader → Reader
with_more_places state =
    reader_with (state.held ++ replicate (places - kept_places) 0) state.len state.fed state.stray state.start state.order

-- the step's answer: the reader, the state as it was handed in, and the number, 0 for none
pub record TakenOver : Type 0 where
  pub reader : Reader
  pub kept : Kept
  pub refusal : ℕ

-- what the code hands out
abbrev pub taken_as : code.TakenOver → TakenOver
taken_as taken = record { reader = taken.reader; kept = taken.kept; refusal = number_if taken.refusal }

abbrev pub taken_over : Kept → TakenOver
taken_over kept = record { reader = with_more_places (state_of kept); kept = kept; refusal = 0 }

abbrev pub refused_for : Kept → TakenOver
refused_for kept = record { reader = fresh_in kept.order; kept = kept; refusal = 15 }

-- "which refuses as the old well-formed rule did"
unfoldable pub take_over : Kept → TakenOver
take_over kept = cond (was_well_formed kept) (taken_over kept) (refused_for kept)
