-- Document 02, g: what is taken over, and how the reader that it was kept by would have gone on. That reader is the one of document 01,
-- "The line, byte by byte", with the old bound: the definitions of `line` at `kept_places`.
use Rattle.std.specs.Prelude.{Bool, true, false, cond, not, ◌&&◌, List, [], ◌∷◌, ◌≡◌, ℕ, ◌<◌, eqb, take}
use Rattle.line.specs.declared.Reader.{Reader}
use Rattle.line_rules.specs.Hearing.{Heard, Nothing, Event, Refused}
use Rattle.line.specs.Readers.{Ended, Fed, line_of, reader_at, fresh_in, well_formed_at, well_formed, AsDeclared, feed_reader_at, feed_reader, end_reader_at, end_reader}
use Rattle.trailer_rules.specs.declared.Order.{Order}
use Rattle.line_rules.specs.Line.{Line, fresh_line}
use Rattle.line_rules.specs.Events.{events_at, line_after_at, events_of, line_after}
use Rattle.line.specs.Cuts.{feeding, Served, heard_of, reader_behind, heard_from, reader_after}
use Rattle.takeover.specs.declared.Kept.{Kept}
use Rattle.takeover.specs.TakingOver.{kept_places, state_of, was_well_formed, AsKept, with_more_places, take_over}
use Rattle.refusals.specs.Refusals.{done, refused}

-- the reader that stands for a kept state, and the line that the state meant
abbrev pub reader_for : Kept → Reader
reader_for kept = with_more_places (state_of kept)

abbrev pub line_kept : Kept → Line
line_kept kept = line_of (state_of kept)

-- the bound that it was kept at
abbrev pub TheOldBoundIs24 : Type 0
TheOldBoundIs24 = kept_places ≡ 24

-- "which refuses as the old well-formed rule did": with 15, and exactly where that rule, written out, does
abbrev pub RefusesWhatTheOldRuleRefused : Type 0
RefusesWhatTheOldRuleRefused = (kept : Kept) → (take_over kept).refusal ≡ cond (well_formed_at 24 (state_of kept)) 0 15

-- so whatever the old reader left, behind any bytes, is taken over
abbrev pub WhatTheOldReaderLeftIsTakenOver : Type 0
WhatTheOldReaderLeftIsTakenOver =
    (kept : Kept) (order : Order) (bytes : List ℕ) → state_of kept ≡ reader_at 24 (line_after_at 24 (fresh_line order) bytes) → (take_over kept).refusal ≡ 0

-- a refused state comes back unchanged, as any does, and nothing of it but its order goes on: the reader beside it is a fresh one
abbrev pub ARefusedStateComesBackUnchanged : Type 0
ARefusedStateComesBackUnchanged =
    (kept : Kept) → ((take_over kept).kept ≡ kept) × (was_well_formed kept ≡ false → (take_over kept).reader ≡ fresh_in kept.order)

-- 25 to 38 held is 15, whatever stands there, and so is any above
abbrev pub MoreHeldThanThereWerePlacesIs15 : Type 0
MoreHeldThanThereWerePlacesIs15 = (kept : Kept) → 24 < kept.len → (take_over kept).refusal ≡ 15

-- any other state is taken over, with the same held bytes, counts, start and order
abbrev pub WhatIsTakenOverIsTheSame : Type 0
WhatIsTakenOverIsTheSame =
    (kept : Kept) → AsKept kept → was_well_formed kept ≡ true
    → let reader = reader_for kept in
    ((take_over kept).reader ≡ reader)
    × (take reader.len reader.held ≡ take kept.len kept.held)
    × (reader.len ≡ kept.len)
    × (reader.fed ≡ kept.fed)
    × (reader.stray ≡ kept.stray)
    × (reader.start ≡ kept.start)
    × (reader.order ≡ kept.order)

-- what is taken over is well formed and means the same line
abbrev pub WhatIsTakenOverIsWellFormed : Type 0
WhatIsTakenOverIsWellFormed =
    (kept : Kept) → AsKept kept → was_well_formed kept ≡ true
    → AsDeclared (reader_for kept) × (well_formed (reader_for kept) ≡ true) × (line_of (reader_for kept) ≡ line_kept kept)

-- whether an event is a 10, and whether one of them is
abbrev pub is_ten : Heard → Bool
is_ten Nothing = false
is_ten (Event (done rec) start size) = false
is_ten (Event (refused number) start size) = eqb number 10
is_ten (Refused number) = false

abbrev pub no_ten : List Heard → Bool
no_ten [] = true
no_ten (heard ∷ more) = not (is_ten heard) && no_ten more

-- on all bytes on which the old reader gives no 10, the new one gives the same events, counts and held bytes
abbrev pub WithoutATenNothingDiffers : Type 0
WithoutATenNothingDiffers =
    (kept : Kept) (bytes : List ℕ) → AsKept kept → was_well_formed kept ≡ true → no_ten (events_at kept_places (line_kept kept) bytes) ≡ true
    → (events_of (line_of (reader_for kept)) bytes ≡ events_at kept_places (line_kept kept) bytes)
    × (line_after (line_of (reader_for kept)) bytes ≡ line_after_at kept_places (line_kept kept) bytes)

-- one call: what the old reader's gives, with the state that it leaves taken over
abbrev pub fed_on : Fed → Fed
fed_on fed = record { reader = with_more_places fed.reader; taken = fed.taken; heard = fed.heard }

abbrev pub ended_on : Ended → Ended
ended_on ended = record { reader = with_more_places ended.reader; heard = ended.heard }

abbrev pub ACallWithoutATenIsTheSame : Type 0
ACallWithoutATenIsTheSame =
    (kept : Kept) (piece : List ℕ) → AsKept kept → was_well_formed kept ≡ true → is_ten (feed_reader_at kept_places (state_of kept) piece).heard ≡ false
    → feed_reader (reader_for kept) piece ≡ fed_on (feed_reader_at kept_places (state_of kept) piece)

abbrev pub TheEndIsTheSame : Type 0
TheEndIsTheSame =
    (kept : Kept) → AsKept kept → was_well_formed kept ≡ true → end_reader (reader_for kept) ≡ ended_on (end_reader_at kept_places (state_of kept))

-- and a caller's loop on a line in pieces, whatever the cut
abbrev pub WithoutATenEachCutIsTheSame : Type 0
WithoutATenEachCutIsTheSame =
    (kept : Kept) (served : List Served) → AsKept kept → was_well_formed kept ≡ true
    → let old = feeding (feed_reader_at kept_places) in
    no_ten (heard_of old (state_of kept) served) ≡ true
    → (heard_from (reader_for kept) served ≡ heard_of old (state_of kept) served)
    × (reader_after (reader_for kept) served ≡ with_more_places (reader_behind old (state_of kept) served))
