-- Wrong programs of the log, in the way of document 01's last section.
use Rattle.std.specs.Prelude.{List, ℕ}
use Rattle.refusals.specs.Refusals.{Outcome, done, refused}
use Rattle.log_rules.specs.declared.Place.{Place}
use Rattle.log_rules.specs.Verify.{AllGood, Verified}
use Rattle.log_rules.specs.Add.{place_at}

-- an add that does nothing and answers a place
abbrev pub idle_add : List ℕ → List ℕ → Outcome Place × List ℕ
idle_add region telegram = (done (place_at 0 0), region)

-- an add that refuses everything
abbrev pub refusing_add : List ℕ → List ℕ → Outcome Place × List ℕ
refusing_add region telegram = (refused 21, region)

-- a read back that refuses everything
abbrev pub refusing_read_back : List ℕ → ℕ → ℕ → Outcome (List ℕ)
refusing_read_back region block slot = refused 27

-- a verify that always says that all is good
abbrev pub trusting_verify : List ℕ → Verified
trusting_verify region = AllGood
