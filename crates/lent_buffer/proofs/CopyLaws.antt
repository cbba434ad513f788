-- Laws of copying bytes one by one. Assumes nothing.
use mathlib.Core.Path.{◌≡◌, ap, sym, ◌∙◌}
use mathlib.Core.List.{List, [], ◌∷◌, ◌++◌}
use Prim.Native.Nat.{ℕ, ◌+◌, ◌<◌}
use native.Mathlib.Numerals.{add-one}
use lib.ListN.{length, take, get_or, set}
use lib.Seq.{take-suc, take-suc-set}

pub copy_step : (from to : List ℕ) (at : ℕ) → at < length from → at < length to → take at to ≡ take at from
    → take (at + 1) (set to at (get_or from at 0)) ≡ take (at + 1) from
copy_step from to at f t same =
    rw (add-one at) (take-suc-set to at (get_or from at 0) t ∙ ap (λ copied. copied ++ get_or from at 0 ∷ []) same ∙ sym (take-suc from at 0 f))
