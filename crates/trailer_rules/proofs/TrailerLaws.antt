-- Laws of two bytes exchanged, and of a body in an order. Assumes nothing.
use mathlib.Core.Path.{◌≡◌, refl, ap, ◌∙◌}
use mathlib.Core.List.{List, [], ◌∷◌, ◌++◌}
use Prim.Native.Nat.{ℕ, zero, suc, ◌+◌, ◌-◌, ◌≤◌, ◌<◌}
use native.Mathlib.Omega.{arith}
use lib.ListN.{length, take, get_or, set, length-append}
use Rattle.trailer_rules.specs.declared.Order.{Order}
use Rattle.trailer_rules.specs.declared.Order.TheVariants.{AsPrinted, Exchanged}
use Rattle.trailer_rules.specs.Trailer.{exchange_at, in_order}

-- exchanged twice they stand as they stood, and nothing is lost
pub exchange_twice : (at : ℕ) (bytes : List ℕ) → exchange_at at (exchange_at at bytes) ≡ bytes
exchange_twice zero [] = refl
exchange_twice zero (first ∷ []) = refl
exchange_twice zero (first ∷ second ∷ more) = refl
exchange_twice (suc at) [] = refl
exchange_twice (suc at) (first ∷ more) = ap (◌∷◌ first) (exchange_twice at more)

pub length_exchange : (at : ℕ) (bytes : List ℕ) → length (exchange_at at bytes) ≡ length bytes
length_exchange zero [] = refl
length_exchange zero (first ∷ []) = refl
length_exchange zero (first ∷ second ∷ more) = refl
length_exchange (suc at) [] = refl
length_exchange (suc at) (first ∷ more) = ap suc (length_exchange at more)

-- what stands behind the two is not touched
pub exchange_before : (at : ℕ) (bytes behind : List ℕ) → at + 2 ≤ length bytes → exchange_at at (bytes ++ behind) ≡ exchange_at at bytes ++ behind
exchange_before zero [] behind there = absurd (omega arith)
exchange_before zero (first ∷ []) behind there = absurd (omega arith)
exchange_before zero (first ∷ second ∷ more) behind there = refl
exchange_before (suc at) [] behind there = absurd (omega arith)
exchange_before (suc at) (first ∷ more) behind there = ap (◌∷◌ first) (exchange_before at more behind (omega arith))

pub exchange_take : (at size : ℕ) (bytes : List ℕ) → at + 2 ≤ size → take size (exchange_at at bytes) ≡ exchange_at at (take size bytes)
exchange_take at zero bytes there = absurd (omega arith)
exchange_take zero (suc zero) bytes there = absurd (omega arith)
exchange_take zero (suc (suc size)) [] there = refl
exchange_take zero (suc (suc size)) (first ∷ []) there = refl
exchange_take zero (suc (suc size)) (first ∷ second ∷ more) there = refl
exchange_take (suc at) (suc size) [] there = refl
exchange_take (suc at) (suc size) (first ∷ more) there = ap (◌∷◌ first) (exchange_take at size more (omega arith))

-- nor what stands before them
pub exchange_ahead : (at place : ℕ) (bytes : List ℕ) → place < at → get_or (exchange_at at bytes) place 0 ≡ get_or bytes place 0
exchange_ahead zero place bytes there = absurd (omega arith)
exchange_ahead (suc at) place [] there = refl
exchange_ahead (suc at) zero (first ∷ more) there = refl
exchange_ahead (suc at) (suc place) (first ∷ more) there = exchange_ahead at place more (omega arith)

pub exchange_behind : (at place : ℕ) (bytes : List ℕ) → at + 2 ≤ place → get_or (exchange_at at bytes) place 0 ≡ get_or bytes place 0
exchange_behind at zero bytes there = absurd (omega arith)
exchange_behind zero (suc zero) bytes there = absurd (omega arith)
exchange_behind zero (suc (suc place)) [] there = refl
exchange_behind zero (suc (suc place)) (first ∷ []) there = refl
exchange_behind zero (suc (suc place)) (first ∷ second ∷ more) there = refl
exchange_behind (suc at) (suc place) [] there = refl
exchange_behind (suc at) (suc place) (first ∷ more) there = exchange_behind at place more (omega arith)

-- as two stores make it; where there are not two, nothing is made
pub exchange_stores : (at : ℕ) (bytes : List ℕ) → at + 1 < length bytes
    → set (set bytes at (get_or bytes (suc at) 0)) (suc at) (get_or bytes at 0) ≡ exchange_at at bytes
exchange_stores zero [] there = absurd (omega arith)
exchange_stores zero (first ∷ []) there = absurd (omega arith)
exchange_stores zero (first ∷ second ∷ more) there = refl
exchange_stores (suc at) [] there = absurd (omega arith)
exchange_stores (suc at) (first ∷ more) there = ap (◌∷◌ first) (exchange_stores at more (omega arith))

pub exchange_none : (at : ℕ) (bytes : List ℕ) → length bytes < at + 2 → exchange_at at bytes ≡ bytes
exchange_none zero [] short = refl
exchange_none zero (first ∷ []) short = refl
exchange_none zero (first ∷ second ∷ more) short = absurd (omega arith)
exchange_none (suc at) [] short = refl
exchange_none (suc at) (first ∷ more) short = ap (◌∷◌ first) (exchange_none at more (omega arith))

-- the last two
at_the_end : (text : List ℕ) (first second : ℕ) → exchange_at (length text) (text ++ first ∷ second ∷ []) ≡ text ++ second ∷ first ∷ []
at_the_end [] first second = refl
at_the_end (byte ∷ text) first second = ap (◌∷◌ byte) (at_the_end text first second)

pub exchange_last : (text : List ℕ) (first second : ℕ) → in_order Exchanged (text ++ first ∷ second ∷ []) ≡ text ++ second ∷ first ∷ []
exchange_last text first second =
    let at : length (text ++ first ∷ second ∷ []) - 2 ≡ length text = omega (arith, length-append text (first ∷ second ∷ [])) in
    ap (λ n. exchange_at n (text ++ first ∷ second ∷ [])) at ∙ at_the_end text first second

-- a body in an order
pub length_in_order : (order : Order) (body : List ℕ) → length (in_order order body) ≡ length body
length_in_order AsPrinted body = refl
length_in_order Exchanged body = length_exchange (length body - 2) body
