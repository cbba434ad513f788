-- The programs that document 02, c, is about, each by the definition that its promise gives (docs/PROMISES.md). A wrong program put
-- in here is refused by the theorem that shuts it out.
use Rattle.std.specs.Prelude.{List, ℕ}
use Rattle.refusals.specs.Refusals.{Outcome}
use Rattle.log_rules.specs.declared.Place.{Place}
use Rattle.log_rules.specs.Verify.{verify_of, Verified}
use Rattle.log_rules.specs.Add.{add_of}
use Rattle.log_rules.specs.ReadBack.{read_back_of}

-- a telegram added to a region: the answer, and the region behind it
abbrev pub adds : List ℕ → List ℕ → Outcome Place × List ℕ
adds = add_of

-- a telegram read back, by block and slot
abbrev pub reads_back : List ℕ → ℕ → ℕ → Outcome (List ℕ)
reads_back = read_back_of

-- a region verified
abbrev pub verifies : List ℕ → Verified
verifies = verify_of
