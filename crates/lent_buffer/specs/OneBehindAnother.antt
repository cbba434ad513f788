-- Document 01, "Refusal numbers": "telegrams written one behind another each go into the room after the last; the first refusal ends it,
-- the earlier ones stay, and the answer gives how many stand and the refusal's number, if any". So for parts of any kind.
use Rattle.std.specs.Prelude.{cond, List, [], ◌∷◌, ◌++◌, ℕ, zero, suc, ◌-◌, ltb, length}
use Rattle.refusals.specs.Refusals.{Outcome, done, refused}
use Rattle.lent_buffer.specs.Endings.{Ending, Whole, Refused}
use Rattle.lent_buffer.specs.Laying.{within}

-- what comes next of what is to be written: nothing more, or a part's bytes or its refusal, and what is left behind that part
pub data Next (S : Type 0) : Type 0 where
  nothing : Next S
  part : Outcome (List ℕ) → S → Next S

-- the parts that stand, what is left to be written, and how it ended
pub record Standing (S : Type 0) : Type 0 where
  pub parts : List (List ℕ)
  pub left : S
  pub ending : Ending

-- their bytes
abbrev pub joined : List (List ℕ) → List ℕ
joined [] = []
joined (bytes ∷ more) = bytes ++ joined more

-- no part more
abbrev pub no_more : {S : Type 0} → S → Ending → Standing S
no_more left end = record { parts = []; left = left; ending = end }

-- a part that has room stands before those behind it; "the first refusal ends it", and what it refuses is left
abbrev pub part_then : {S : Type 0} → Outcome (List ℕ) → S → (List ℕ → Standing S) → Standing S
part_then (done bytes) start behind =
    record { parts = bytes ∷ (behind bytes).parts; left = (behind bytes).left; ending = (behind bytes).ending }
part_then (refused number) start behind = no_more start (Refused number)

-- "each go into the room after the last"
abbrev pub next_then : {S : Type 0} → Next S → S → ℕ → (ℕ → S → Standing S) → Standing S
next_then nothing start room behind = no_more start Whole
next_then (part outcome rest) start room behind = part_then (within room outcome) start (λ bytes. behind (room - length bytes) rest)

-- at most so many parts, one behind another, in a room of so many bytes
unfoldable pub one_behind_another : {S : Type 0} → (S → Next S) → ℕ → ℕ → S → Standing S
one_behind_another next zero room start = no_more start Whole
one_behind_another next (suc n) room start = next_then (next start) start room (λ less rest. one_behind_another next n less rest)

-- how it ends where nothing is refused but for want of room: 13 exactly where "the lent buffer is shorter than what is to be written"
abbrev pub ending_in : ℕ → List ℕ → Ending
ending_in room bytes = cond (ltb room (length bytes)) (Refused 13) Whole
