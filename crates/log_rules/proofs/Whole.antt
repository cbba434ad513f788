-- What verify gives leaves nothing open: what it means determines the answer. Assumes nothing.
use mathlib.Core.Path.{◌≡◌, refl}
use Rattle.std.specs.Prelude.{Result, Ok, Err}
use Rattle.log_rules.specs.declared.Damage.{Damage}
use Rattle.log_rules.specs.declared.Damage.TheVariants.{NotWholeBlocks, BadBlock}
use Rattle.log_rules.specs.Verify.{verified_as}

pub verified_told_apart : (a b : Result (Unit {0}) Damage) → verified_as a ≡ verified_as b → a ≡ b
verified_told_apart (Ok a) (Ok b) e = refl
verified_told_apart (Ok a) (Err NotWholeBlocks) e = cc
verified_told_apart (Ok a) (Err (BadBlock b)) e = cc
verified_told_apart (Err NotWholeBlocks) (Ok b) e = cc
verified_told_apart (Err NotWholeBlocks) (Err NotWholeBlocks) e = refl
verified_told_apart (Err NotWholeBlocks) (Err (BadBlock b)) e = cc
verified_told_apart (Err (BadBlock a)) (Ok b) e = cc
verified_told_apart (Err (BadBlock a)) (Err NotWholeBlocks) e = cc
verified_told_apart (Err (BadBlock a)) (Err (BadBlock b)) e = let same : a ≡ b = cc in λ i. Err (BadBlock (same i))
