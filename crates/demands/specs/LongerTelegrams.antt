-- Document 02, g, "Longer telegrams", sentence by sentence. Demand 3, cut independence and the account of the bytes are stated over the
-- reader's bound, and so they hold at the one that this request sets.
use Rattle.std.specs.Prelude.{true, List, [], ◌∷◌, ◌++◌, ◌≡◌, ℕ, ◌+◌, ◌<◌, length}
use Rattle.refusals.specs.Refusals.{refused}
use Rattle.trailer_rules.specs.declared.Order.{Order}
use Rattle.line.specs.Readers.{line_of}
use Rattle.line_rules.specs.Line.{Line, line_with, event, told_by_at}
use Rattle.line_rules.specs.Events.{events_at, line_after_at, events_of, line_after}
use Rattle.line.specs.LongerReaders.{TheEndCutsOffUpTo38, TheRuleIsTheOneAt38}
use Rattle.line_rules.specs.LongerTelegrams.{UpTo38BytesAreHeld, StxCutsOffUpTo38, TenIsGivenWhen38AreHeld, UpTo39BytesAreJudged}
use Rattle.takeover.specs.declared.Kept.{Kept}
use Rattle.takeover.specs.TakingOver.{kept_places, was_well_formed, AsKept}
use Rattle.takeover.specs.Sentences.{reader_for, line_kept, no_ten, TheOldBoundIs24, RefusesWhatTheOldRuleRefused, WhatTheOldReaderLeftIsTakenOver}
use Rattle.takeover.specs.Sentences.{ARefusedStateComesBackUnchanged, MoreHeldThanThereWerePlacesIs15, WhatIsTakenOverIsTheSame, WhatIsTakenOverIsWellFormed}
use Rattle.takeover.specs.Sentences.{WithoutATenNothingDiffers, ACallWithoutATenIsTheSame, TheEndIsTheSame, WithoutATenEachCutIsTheSame}
use Rattle.log_rules.specs.LongestTelegram.{NoneAcceptedIsLonger, ThatManyFitASlot}
use Rattle.demands.specs.Programs.{reads}

-- no layout is longer than 25: a telegram that is, is judged, and refused with 1
abbrev pub LongerThan25Is1 : Type 0
LongerThan25Is1 = (order : Order) (bytes : List ℕ) → 25 < length bytes → reads order true bytes ≡ refused 1

-- where the reader of a kept state would have given its first 10, of 25 bytes, the one that took it over tells nothing and holds them: the
-- 24, and the one that was too many
pub record HoldsThe25 (kept : Kept) (before : List ℕ) (byte size : ℕ) (old : Line) : Type 0 where
  pub ten : size ≡ 25
  pub told : events_of (line_of (reader_for kept)) (before ++ byte ∷ []) ≡ events_at kept_places (line_kept kept) before
  pub line : line_after (line_of (reader_for kept)) (before ++ byte ∷ []) ≡ line_with (old.held ++ byte ∷ []) (old.fed + 1) old.stray old.order
  pub held : length (old.held ++ byte ∷ []) ≡ 25

abbrev pub AtTheFirstTenItHolds25 : Type 0
AtTheFirstTenItHolds25 =
    (kept : Kept) (before : List ℕ) (byte size : ℕ) → AsKept kept → was_well_formed kept ≡ true
    → no_ten (events_at kept_places (line_kept kept) before) ≡ true
    → let old = line_after_at kept_places (line_kept kept) before in
    told_by_at kept_places old.order old.held byte ≡ event (refused 10) size
    → HoldsThe25 kept before byte size old

abbrev pub LongerTelegramsAreAsAskedFor : Type 0
LongerTelegramsAreAsAskedFor =
    -- "raise the longest framed telegram to 39"
    UpTo39BytesAreJudged
    × LongerThan25Is1
    -- "the reader then holds 0 to 38 bytes", and so many are cut off by STX and by the end of the line
    × UpTo38BytesAreHeld
    × StxCutsOffUpTo38
    × TheEndCutsOffUpTo38
    -- "38 stands for 24 in the well-formed rule too"
    × TheRuleIsTheOneAt38
    -- "10 is given when 38 are held, with a refused length of 39"
    × TenIsGivenWhen38AreHeld
    -- "none that will be accepted is longer than 30, so log blocks stay as they are"
    × NoneAcceptedIsLonger
    × ThatManyFitASlot
    -- "a reader state kept from before the change must be taken over by a named step"
    × TheOldBoundIs24
    × WhatIsTakenOverIsTheSame
    × WhatIsTakenOverIsWellFormed
    -- "which refuses as the old well-formed rule did", "15 as said"
    × RefusesWhatTheOldRuleRefused
    × WhatTheOldReaderLeftIsTakenOver
    × ARefusedStateComesBackUnchanged
    × MoreHeldThanThereWerePlacesIs15
    -- what goes on from it is what would have gone on, up to the first 10
    × WithoutATenNothingDiffers
    × ACallWithoutATenIsTheSame
    × TheEndIsTheSame
    × WithoutATenEachCutIsTheSame
    × AtTheFirstTenItHolds25
