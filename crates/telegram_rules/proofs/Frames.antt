-- Laws of STX and ETX around a body. Assumes nothing.
use mathlib.Core.Path.{◌≡◌, refl, ap, ap₂, sym, ◌∙◌}
use mathlib.Core.Bool.{true}
use mathlib.Core.List.{List, [], ◌∷◌, ◌++◌}
use Prim.Native.Nat.{ℕ, suc, ◌+◌, ◌-◌, ◌≤◌}
use native.Mathlib.Omega.{arith}
use lib.Dec.{eqb}
use lib.ListN.{length, take, get_or, length-append, length-take}
use lib.Seq.{take_at, take_all, take-suc, get_or_at}
use borrow.Author.Tests.{eqb-true}
use Rattle.refusals.proofs.Laws.{both}
use Rattle.telegram_rules.specs.Reading.{body_of, framed}

abbrev pub frame : List ℕ → List ℕ
frame body = 2 ∷ body ++ 3 ∷ []

length_frame : (body : List ℕ) → length (frame body) ≡ length body + 2
length_frame body = omega (arith, length-append body (3 ∷ []))

-- a framed body is framed, and its body is that body
pub body_of_frame : (body : List ℕ) → body_of true (frame body) ≡ body
body_of_frame body = take_at body (3 ∷ []) (length (frame body) - 2) (omega (arith, length_frame body))

pub frame_is_framed : (body : List ℕ) → framed (frame body) ≡ true
frame_is_framed body =
    let at : length (frame body) - 1 ≡ suc (length body) = omega (arith, length_frame body) in
    rw (at, get_or_at body 3 [] 0 (length body) refl)

-- framed bytes are their body, framed
pub frame_of_body : (bytes : List ℕ) → 1 ≤ length (body_of true bytes) → framed bytes ≡ true → frame (body_of true bytes) ≡ bytes
frame_of_body [] some e = absurd (omega arith)
frame_of_body (x ∷ bytes) some e =
    let m = suc (length bytes) - 2 in
    let long = length-take m bytes in
    let all : length bytes ≡ suc m = omega arith in
    let ends = both (eqb x 2) _ e in
    let last : suc (length bytes) - 1 ≡ suc m = omega arith in
    let etx : get_or bytes m 0 ≡ 3 = eqb-true _ 3 (rw last at ends.1) in
    let whole : take m bytes ++ 3 ∷ [] ≡ bytes =
    ap (λ b. take m bytes ++ b ∷ []) (sym etx) ∙ sym (take-suc bytes m 0 (omega arith)) ∙ take_all (suc m) bytes (omega arith) in
    ap₂ ◌∷◌ (sym (eqb-true x 2 ends.0)) whole
