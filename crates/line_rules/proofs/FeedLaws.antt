-- Laws of feeding: a run of bytes that are taken alike is taken at once. Assumes nothing.
use mathlib.Core.Path.{◌≡◌, refl, ap, sym, ◌∙◌}
use mathlib.Core.Bool.{Bool, true, false, not}
use mathlib.Core.List.{List, [], ◌∷◌, ◌++◌, append-nil, append_assoc}
use Prim.Native.Nat.{ℕ, zero, suc, ◌+◌, ◌-◌, ◌≤◌, ◌<◌}
use native.Mathlib.Nat.{add-zero}
use native.Mathlib.Omega.{arith}
use lib.Dec.{eqb}
use lib.ListN.{length, take, drop, length-append}
use borrow.Author.Tests.{lt-leb, not-true}
use Rattle.refusals.proofs.Laws.{both}
use Rattle.ascii.specs.Control.{stx, etx}
use Rattle.trailer_rules.specs.declared.Order.{Order}
use Rattle.line_rules.specs.Line.{places, line_with, Line, Feeding, feed_of, is_plain}
use Rattle.line_rules.specs.Runs.{stray_run, plain_run, roomy_run}

-- a feeding that begins `n` bytes later
abbrev pub later : ℕ → Feeding → Feeding
later n feeding = record { line = feeding.line; taken = feeding.taken + n; told = feeding.told; at = feeding.at }

abbrev pub outside : Order → ℕ → ℕ → Line
outside order fed stray = line_with [] fed stray order

-- two runs, one behind the other
pub later_later : (n m k : ℕ) (f : Feeding) → m + n ≡ k → later n (later m f) ≡ later k f
later_later n m k f e =
    let sum : f.taken + m + n ≡ f.taken + k = omega (arith, e) in
    λ i. record { line = f.line; taken = sum i; told = f.told; at = f.at }

later_none : (f : Feeding) → later 0 f ≡ f
later_none f = λ i. record { line = f.line; taken = add-zero f.taken i; told = f.told; at = f.at }

-- the bytes before the first STX are stray
abbrev pub StrayAtOnce : Order → ℕ → ℕ → List ℕ → Type 0
StrayAtOnce order fed stray piece =
    feed_of (outside order fed stray) piece
    ≡ later (stray_run piece) (feed_of (outside order (fed + stray_run piece) (stray + stray_run piece)) (drop (stray_run piece) piece))

no_run : (order : Order) (fed stray : ℕ) (piece : List ℕ) (n : ℕ) → n ≡ 0 → feed_of (outside order fed stray) piece ≡ later n (feed_of (outside order (fed + n) (stray + n)) (drop n piece))
no_run order fed stray piece n z =
    sym (later_none (feed_of (outside order fed stray) piece))
    ∙ (λ i. later 0 (feed_of (outside order (sym (add-zero fed) i) (sym (add-zero stray) i)) piece))
    ∙ (λ i. later (sym z i) (feed_of (outside order (fed + sym z i) (stray + sym z i)) (drop (sym z i) piece)))

stray_on : (order : Order) (fed stray byte : ℕ) (piece : List ℕ) (t : Bool) → eqb byte stx ≡ t → StrayAtOnce order (fed + 1) (stray + 1) piece → StrayAtOnce order fed stray (byte ∷ piece)
stray_on order fed stray byte piece true e ih = no_run order fed stray (byte ∷ piece) (stray_run (byte ∷ piece)) (rw e)
stray_on order fed stray byte piece false e ih =
    let n = stray_run piece in
    let f : fed + 1 + n ≡ fed + suc n = omega arith in
    let s : stray + 1 + n ≡ stray + suc n = omega arith in
    rw e
    (ap (later 1) ih
    ∙ later_later 1 n (suc n) (feed_of (outside order (fed + 1 + n) (stray + 1 + n)) (drop n piece)) (omega arith)
    ∙ (λ i. later (suc n) (feed_of (outside order (f i) (s i)) (drop n piece))))

pub feed_stray : (order : Order) (fed stray : ℕ) (piece : List ℕ) → StrayAtOnce order fed stray piece
feed_stray order fed stray [] = no_run order fed stray [] 0 refl
feed_stray order fed stray (byte ∷ piece) = stray_on order fed stray byte piece (eqb byte stx) refl (feed_stray order (fed + 1) (stray + 1) piece)

-- the first STX begins a telegram
pub feed_start : (order : Order) (fed stray : ℕ) (piece : List ℕ) → feed_of (outside order fed stray) (stx ∷ piece) ≡ later 1 (feed_of (line_with (stx ∷ []) (fed + 1) stray order) piece)
feed_start order fed stray piece = λ i. later 1 (feed_of (line_with (stx ∷ []) (fed + 1) (add-zero stray i) order) piece)

-- the plain bytes behind it are held, as long as there is room
abbrev pub HeldAtOnce : Order → ℕ → List ℕ → ℕ → ℕ → ℕ → List ℕ → Type 0
HeldAtOnce order first held fed stray n piece =
    feed_of (line_with (first ∷ held) fed stray order) piece ≡ later n (feed_of (line_with ((first ∷ held) ++ take n piece) (fed + n) stray order) (drop n piece))

feed_plain : (order : Order) (first : ℕ) (held : List ℕ) (fed stray byte : ℕ) (piece : List ℕ) → is_plain byte ≡ true → length (first ∷ held) < places
    → feed_of (line_with (first ∷ held) fed stray order) (byte ∷ piece) ≡ later 1 (feed_of (line_with ((first ∷ held) ++ byte ∷ []) (fed + 1) stray order) piece)
feed_plain order first held fed stray byte piece plain room =
    let apart = both (not (eqb byte stx)) (not (eqb byte etx)) plain in
    simp (not-true (eqb byte stx) apart.0, not-true (eqb byte etx) apart.1, lt-leb places (length (first ∷ held)) room, add-zero)

none_held : (order : Order) (first : ℕ) (held : List ℕ) (fed stray : ℕ) (piece : List ℕ) (n : ℕ) → n ≡ 0 → HeldAtOnce order first held fed stray n piece
none_held order first held fed stray piece n z =
    sym (later_none (feed_of (line_with (first ∷ held) fed stray order) piece))
    ∙ (λ i. later 0 (feed_of (line_with (sym (append-nil (first ∷ held)) i) (sym (add-zero fed) i) stray order) piece))
    ∙ (λ i. later (sym z i) (feed_of (line_with ((first ∷ held) ++ take (sym z i) piece) (fed + sym z i) stray order) (drop (sym z i) piece)))

held_on : (order : Order) (room : ℕ) (first : ℕ) (held : List ℕ) (fed stray byte : ℕ) (piece : List ℕ) (t : Bool)
    → is_plain byte ≡ t → length (first ∷ held) < places
    → HeldAtOnce order first (held ++ byte ∷ []) (fed + 1) stray (plain_run (take room piece)) piece
    → HeldAtOnce order first held fed stray (plain_run (byte ∷ take room piece)) (byte ∷ piece)
held_on order room first held fed stray byte piece true plain short ih =
    let n = plain_run (take room piece) in
    let f : fed + 1 + n ≡ fed + suc n = omega arith in
    rw plain
    (feed_plain order first held fed stray byte piece plain short
    ∙ ap (later 1) ih
    ∙ later_later 1 n (suc n) (feed_of (line_with ((first ∷ (held ++ byte ∷ [])) ++ take n piece) (fed + 1 + n) stray order) (drop n piece)) (omega arith)
    ∙ (λ i. later (suc n) (feed_of (line_with (first ∷ append_assoc held (byte ∷ []) (take n piece) i) (f i) stray order) (drop n piece))))
held_on order room first held fed stray byte piece false plain short ih =
    none_held order first held fed stray (byte ∷ piece) (plain_run (byte ∷ take room piece)) (rw plain)

pub feed_held : (order : Order) (room : ℕ) (first : ℕ) (held : List ℕ) (fed stray : ℕ) (piece : List ℕ) → length (first ∷ held) + room ≡ places
    → HeldAtOnce order first held fed stray (plain_run (take room piece)) piece
feed_held order zero first held fed stray piece full = none_held order first held fed stray piece 0 refl
feed_held order (suc room) first held fed stray [] full = none_held order first held fed stray [] 0 refl
feed_held order (suc room) first held fed stray (byte ∷ piece) full =
    held_on order room first held fed stray byte piece (is_plain byte) refl (omega arith)
    (feed_held order room first (held ++ byte ∷ []) (fed + 1) stray piece (omega (arith, length-append held (byte ∷ []))))

pub feed_run : (order : Order) (held : List ℕ) (fed stray : ℕ) (piece : List ℕ) (n : ℕ) → 0 < length held → length held ≤ places → roomy_run (length held) piece ≡ n
    → feed_of (line_with held fed stray order) piece ≡ later n (feed_of (line_with (held ++ take n piece) (fed + n) stray order) (drop n piece))
feed_run order [] fed stray piece n some fits e = absurd (omega arith)
feed_run order (first ∷ held) fed stray piece n some fits e =
    feed_held order (places - length (first ∷ held)) first held fed stray piece (omega arith)
    ∙ (λ i. later (e i) (feed_of (line_with ((first ∷ held) ++ take (e i) piece) (fed + e i) stray order) (drop (e i) piece)))
