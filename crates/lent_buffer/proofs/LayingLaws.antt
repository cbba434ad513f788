-- Laws of what is laid into a lent buffer. Assumes nothing.
use mathlib.Core.Path.{◌≡◌, refl, ap, sym, ◌∙◌}
use mathlib.Core.Bool.{Bool, true, false, cond}
use mathlib.Core.List.{List, ◌++◌}
use Prim.Native.Nat.{ℕ, ◌≤◌, ◌<◌}
use native.Mathlib.Omega.{arith}
use lib.Dec.{ltb}
use lib.ListN.{length, drop}
use borrow.Author.Tests.{lt-ltb, le-ltb, ltb-false}
use Rattle.refusals.specs.Refusals.{◌when◌, Outcome, done, refused, unless}
use Rattle.refusals.proofs.Laws.{was_done, when_none}
use Rattle.lent_buffer.specs.Laying.{within, size_of, laid_in, laid}

-- one rule refuses bytes: 13
pub within_unless : (room : ℕ) (bytes : List ℕ) → within room (done bytes) ≡ unless (13 when ltb room (length bytes)) bytes
unfolding within
within_unless room bytes = refl

-- so that there are two cases
pub within_cases : (room : ℕ) (bytes : List ℕ) → within room (done bytes) ≡ cond (ltb room (length bytes)) (refused 13) (done bytes)
unfolding within unless
within_cases room bytes = go (ltb room (length bytes))
  where
    go : (short : Bool) → unless (13 when short) bytes ≡ cond short (refused 13) (done bytes)
    go true = refl
    go false = refl

pub within_refused : (room n : ℕ) → within room (refused n) ≡ refused n
unfolding within
within_refused room n = refl

module _ (room : ℕ) (bytes : List ℕ) where
  pub within_short : room < length bytes → within room (done bytes) ≡ refused 13
  unfolding within unless
  within_short short = rw (lt-ltb _ _ short)

  pub within_fits : length bytes ≤ room → within room (done bytes) ≡ done bytes
  unfolding within unless
  within_fits fits = rw (le-ltb _ _ fits)

-- what is laid was to be laid, and fits
pub within_done : (room : ℕ) (outcome : Outcome (List ℕ)) (bytes : List ℕ) → within room outcome ≡ done bytes
    → (outcome ≡ done bytes) × (length bytes ≤ room)
unfolding within
within_done room (done made) bytes e =
    let parts = was_done _ made bytes e in
    let fits = ltb-false room (length made) (when_none 12 _ parts.0) in
    (ap done parts.1, omega (arith, ap length parts.1))
within_done room (refused n) bytes e = let z : ◌≡◌ {A = ℕ} 0 1 = cc in absurd (omega arith)

-- the ways in which bytes are laid
pub laid_short : (bytes buffer : List ℕ) → length buffer < length bytes → laid (done bytes) buffer ≡ (refused 13, buffer)
unfolding laid
laid_short bytes buffer short = rw (within_short (length buffer) bytes short)

pub laid_fits : (bytes buffer : List ℕ) → length bytes ≤ length buffer → laid (done bytes) buffer ≡ (done (length bytes), bytes ++ drop (length bytes) buffer)
unfolding laid
laid_fits bytes buffer fits = rw (within_fits (length buffer) bytes fits)

pub laid_refused : (n : ℕ) (buffer : List ℕ) → laid (refused n) buffer ≡ (refused n, buffer)
unfolding laid
laid_refused n buffer = rw (within_refused (length buffer) n)

-- the answer alone
pub laid_answer : (outcome : Outcome (List ℕ)) (buffer : List ℕ) → (laid outcome buffer).0 ≡ size_of (within (length buffer) outcome)
unfolding laid
laid_answer outcome buffer = refl

-- what the answer says of the bytes
pub record Stands (outcome : Outcome (List ℕ)) (buffer : List ℕ) (n : ℕ) (last : List ℕ) : Type 0 where
  pub bytes : List ℕ
  pub is_laid : within (length buffer) outcome ≡ done bytes
  pub size : length bytes ≡ n
  pub last_is : last ≡ bytes ++ drop n buffer

pub stands : (outcome : Outcome (List ℕ)) (buffer : List ℕ) (n : ℕ) (last : List ℕ) → laid outcome buffer ≡ (done n, last) → Stands outcome buffer n last
unfolding laid
stands outcome buffer n last = go (within (length buffer) outcome) refl
  where
    go : (o : Outcome (List ℕ)) → within (length buffer) outcome ≡ o → ◌≡◌ {A = Outcome ℕ × List ℕ} (size_of o, laid_in o buffer) (done n, last) → Stands outcome buffer n last
    go (done bytes) is e =
        let told : done (length bytes) ≡ done n = ap (λ p. p.0) e in
        let size : length bytes ≡ n = cc in
        record { bytes = bytes; is_laid = is; size = size; last_is = sym (ap (λ p. p.1) e) ∙ ap (λ k. bytes ++ drop k buffer) size }
    go (refused k) is e = let told : refused k ≡ done n = ap (λ p. p.0) e in let z : ◌≡◌ {A = ℕ} 0 1 = cc in absurd (omega arith)

-- "a refused write leaves the buffer untouched"
pub stops : (outcome : Outcome (List ℕ)) (buffer : List ℕ) (n : ℕ) (last : List ℕ) → laid outcome buffer ≡ (refused n, last)
    → (within (length buffer) outcome ≡ refused n) × (last ≡ buffer)
unfolding laid
stops outcome buffer n last = go (within (length buffer) outcome) refl
  where
    go : (o : Outcome (List ℕ)) → within (length buffer) outcome ≡ o → ◌≡◌ {A = Outcome ℕ × List ℕ} (size_of o, laid_in o buffer) (refused n, last)
        → (within (length buffer) outcome ≡ refused n) × (last ≡ buffer)
    go (done bytes) is e = let told : done (length bytes) ≡ refused n = ap (λ p. p.0) e in let z : ◌≡◌ {A = ℕ} 0 1 = cc in absurd (omega arith)
    go (refused k) is e =
        let told : ◌≡◌ {A = Outcome ℕ} (refused k) (refused n) = ap (λ p. p.0) e in
        let same : k ≡ n = cc in
        (is ∙ ap refused same, sym (ap (λ p. p.1) e))

pub refused_is_untouched : (outcome : Outcome (List ℕ)) (buffer : List ℕ) (n : ℕ) → (laid outcome buffer).0 ≡ refused n → (laid outcome buffer).1 ≡ buffer
refused_is_untouched outcome buffer n e = (stops outcome buffer n _ (λ i. (e i, (laid outcome buffer).1))).1
