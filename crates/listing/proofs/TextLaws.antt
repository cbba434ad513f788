-- A law of bytes that are laid one by one. Assumes nothing.
use mathlib.Core.Path.{◌≡◌, ap, sym, ◌∙◌}
use mathlib.Core.List.{List, ◌++◌}
use Prim.Native.Nat.{ℕ, suc, ◌+◌, ◌<◌}
use native.Mathlib.Numerals.{add-one}
use native.Mathlib.Omega.{arith}
use lib.ListN.{length, take, drop, get_or, set}
use lib.Seq.{take-suc, drop-cons, set_at, length-take-le, append_snoc}

-- copying byte by byte over the first bytes of a buffer
pub copy_step : (from out : List ℕ) (at : ℕ) → at < length from → at < length out
    → set (take at from ++ drop at out) at (get_or from at 0) ≡ take (at + 1) from ++ drop (at + 1) out
copy_step from out at f o =
    rw (add-one at, drop-cons out at 0 o)
    (set_at (take at from) (get_or out at 0) (drop (suc at) out) (get_or from at 0) at (length-take-le at from (omega arith))
    ∙ sym (append_snoc (take at from) (get_or from at 0) (drop (suc at) out))
    ∙ ap (λ l. l ++ drop (suc at) out) (sym (take-suc from at 0 f)))
