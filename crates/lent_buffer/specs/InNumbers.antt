-- How bytes are laid, and parts of them one behind another, in numbers.
use Rattle.std.specs.Prelude.{◌≡◌, List, [], ◌∷◌, ℕ}
use Rattle.refusals.specs.Refusals.{Outcome, done, refused}
use Rattle.lent_buffer.specs.Endings.{Whole, Refused}
use Rattle.lent_buffer.specs.Laying.{laid}
use Rattle.lent_buffer.specs.OneBehindAnother.{Next, nothing, part, one_behind_another}

-- "the lent buffer is shorter than what is to be written", "a refused write leaves the buffer untouched; a successful one changes
-- only" its own bytes: two bytes where there is room to spare, just room enough, and a byte too few; and what is refused already
abbrev pub BytesAreLaidSo : Type 0
BytesAreLaidSo =
    (laid (done (7 ∷ 8 ∷ [])) (1 ∷ 2 ∷ 3 ∷ []) ≡ (done 2, 7 ∷ 8 ∷ 3 ∷ []))
    × (laid (done (7 ∷ 8 ∷ [])) (1 ∷ 2 ∷ []) ≡ (done 2, 7 ∷ 8 ∷ []))
    × (laid (done (7 ∷ 8 ∷ [])) (1 ∷ []) ≡ (refused 13, 1 ∷ []))
    × (laid (refused 8) (1 ∷ 2 ∷ 3 ∷ []) ≡ (refused 8, 1 ∷ 2 ∷ 3 ∷ []))

-- a list of parts, each its bytes or its refusal
abbrev pub Parts : Type 0
Parts = List (Outcome (List ℕ))

abbrev pub next_part : Parts → Next Parts
next_part [] = nothing
next_part (outcome ∷ others) = part outcome others

-- "the first refusal ends it, the earlier ones stay": two parts where both have room, and where the second has none; a part behind a
-- refused one, which is left with it; and where no more than one is asked for
abbrev pub PartsStandSo : Type 0
PartsStandSo =
    (one_behind_another next_part 2 3 (done (7 ∷ 8 ∷ []) ∷ done (9 ∷ []) ∷ []) ≡ record { parts = (7 ∷ 8 ∷ []) ∷ (9 ∷ []) ∷ []; left = []; ending = Whole })
    × (one_behind_another next_part 2 2 (done (7 ∷ 8 ∷ []) ∷ done (9 ∷ []) ∷ [])
    ≡ record { parts = (7 ∷ 8 ∷ []) ∷ []; left = done (9 ∷ []) ∷ []; ending = Refused 13 })
    × (one_behind_another next_part 3 9 (done (7 ∷ []) ∷ refused 8 ∷ done (9 ∷ []) ∷ [])
    ≡ record { parts = (7 ∷ []) ∷ []; left = refused 8 ∷ done (9 ∷ []) ∷ []; ending = Refused 8 })
    × (one_behind_another next_part 1 9 (done (7 ∷ []) ∷ done (8 ∷ []) ∷ []) ≡ record { parts = (7 ∷ []) ∷ []; left = done (8 ∷ []) ∷ []; ending = Whole })
