-- Document 01, "Refusal numbers": bytes laid into a lent buffer.
use Rattle.std.specs.Prelude.{List, ◌++◌, ℕ, ltb, length, drop}
use Rattle.refusals.specs.Refusals.{◌when◌, Outcome, done, refused, unless, after}

-- 13: "the lent buffer is shorter than what is to be written". What is refused already keeps its number
unfoldable pub within : ℕ → Outcome (List ℕ) → Outcome (List ℕ)
within room outcome = after outcome (λ bytes. unless (13 when ltb room (length bytes)) bytes)

-- the answer: how many bytes were laid
abbrev pub size_of : Outcome (List ℕ) → Outcome ℕ
size_of (done bytes) = done (length bytes)
size_of (refused n) = refused n

-- "a refused write leaves the buffer untouched; a successful one changes only" its own bytes
abbrev pub laid_in : Outcome (List ℕ) → List ℕ → List ℕ
laid_in (done bytes) buffer = bytes ++ drop (length bytes) buffer
laid_in (refused n) buffer = buffer

-- both at once: the answer, and the buffer behind it
unfoldable pub laid : Outcome (List ℕ) → List ℕ → Outcome ℕ × List ℕ
laid outcome buffer = (size_of (within (length buffer) outcome), laid_in (within (length buffer) outcome) buffer)
