-- Document 02, f: "the trailer order, as-printed or exchanged".
use Rattle.std.specs.Prelude.{Bool, cond, List, [], ◌∷◌, ℕ, zero, suc, ◌-◌, length}
use Rattle.trailer_rules.specs.declared.Order.{Order}
use Rattle.trailer_rules.specs.declared.Order.TheVariants.{AsPrinted, Exchanged}

-- the trailer is the last two bytes, before ETX where there are control characters: so many bytes stand from it on
abbrev pub size_from : Bool → ℕ
size_from control = cond control 3 2

-- where it begins in a telegram of so many bytes; at 0 in one that is too short
abbrev pub trailer_at : Bool → ℕ → ℕ
trailer_at control size = size - size_from control

-- the byte at a place and the one behind it, exchanged; bytes that do not have both are as they were
abbrev pub exchange_at : ℕ → List ℕ → List ℕ
exchange_at zero [] = []
exchange_at zero (first ∷ []) = first ∷ []
exchange_at zero (first ∷ second ∷ more) = second ∷ first ∷ more
exchange_at (suc at) [] = []
exchange_at (suc at) (first ∷ more) = first ∷ exchange_at at more

-- what stands between STX and ETX, its last two bytes in that order: "can exchange CR and LF"
abbrev pub in_order : Order → List ℕ → List ℕ
in_order AsPrinted body = body
in_order Exchanged body = exchange_at (length body - 2) body
