-- The ways in which the reading of a request ends, over the definitions. Assumes nothing.
use mathlib.Core.Path.{◌≡◌, refl, ap, sym, subst}
use mathlib.Core.Bool.{true, false, and-false}
use Rattle.std.specs.Option.{is_some}
use mathlib.Core.List.{List, [], ◌∷◌, map}
use Prim.Native.Nat.{ℕ, ◌≤◌, ◌<◌}
use native.Mathlib.Omega.{arith}
use lib.ListN.{length, get_or, length-map}
use borrow.Author.Tests.{eq-eqb, ne_eqb}
use Rattle.refusals.specs.Refusals.{Outcome, done}
use Rattle.refusals.specs.Numbers.{number_if}
use Rattle.refusals.proofs.NumberLaws.{number_if_some, number_if_none}
use Rattle.places_rules.specs.declared.Found.{Found}
use Rattle.places_rules.specs.Places.{place, place_number, row_fault, gather, no_digits, finding, found_in}
use Rattle.requests.specs.declared.Asked.{Asked}
use Rattle.requests.specs.declared.Asked.TheVariants.{Time, TimeAndDate, UtcTimeAndDate}
use Rattle.requests.specs.declared.Request.{Request}
use Rattle.requests.specs.Requests.{capital_of, small_of, high_digit, low_digit, delay_of, request, no_request, request_in, request_of}

-- By one row.
module _ (asked : Asked) (row bytes : List ℕ) where
  pub other_length : (length bytes ≡ length row → ⊥) → no_request ≡ request_in ((asked, map place row) ∷ []) bytes
  other_length other = rw (length-map row place, ne_eqb _ _ other, and-false)

  module _ (found : Found) (seen : finding found ≡ found_in (map place row) bytes) where
    fault_is : number_if found.fault ≡ row_fault (map place row) bytes
    unfolding found_in
    fault_is = ap (λ f. f.fault) seen

    pub misfit : is_some found.fault ≡ true → no_request ≡ request_in ((asked, map place row) ∷ []) bytes
    misfit some = rw (← fault_is, ne_eqb _ _ (number_if_some found.fault some))

    pub fitting : length bytes ≡ length row → is_some found.fault ≡ false
        → done (request asked (delay_of found.digits)) ≡ request_in ((asked, map place row) ∷ []) bytes
    unfolding found_in
    fitting same none =
        let digits : found.digits ≡ gather (map place row) bytes no_digits = ap (λ f. f.digits) seen in
        rw (length-map row place, eq-eqb _ _ same, ← fault_is, number_if_none found.fault none, digits)

-- By the first letter: of the six rows, no other fits.
module _ (asked : Asked) (bytes : List ℕ) where
  -- by the row that a letter alone makes, and by the one that it makes with two digits
  abbrev pub by_alone : ℕ → Outcome Request
  by_alone letter = request_in ((asked, map place (letter ∷ [])) ∷ []) bytes

  abbrev pub by_delayed : ℕ → Outcome Request
  by_delayed letter = request_in ((asked, map place (letter ∷ place_number high_digit ∷ place_number low_digit ∷ [])) ∷ []) bytes

capital_alone : (asked : Asked) (more : List ℕ) → by_alone asked (capital_of asked ∷ more) (capital_of asked) ≡ request_of (capital_of asked ∷ more)
unfolding request_of place
capital_alone Time more = refl
capital_alone TimeAndDate more = refl
capital_alone UtcTimeAndDate more = refl

small_delayed : (asked : Asked) (more : List ℕ) → by_delayed asked (small_of asked ∷ more) (small_of asked) ≡ request_of (small_of asked ∷ more)
unfolding request_of place
small_delayed Time more = refl
small_delayed TimeAndDate more = refl
small_delayed UtcTimeAndDate more = refl

pub by_capital : (asked : Asked) (bytes : List ℕ) → 1 ≤ length bytes → get_or bytes 0 0 ≡ capital_of asked
    → by_alone asked bytes (get_or bytes 0 0) ≡ request_of bytes
by_capital asked [] some e = absurd (omega arith)
by_capital asked (byte ∷ more) some e = subst (λ b. by_alone asked (b ∷ more) b ≡ request_of (b ∷ more)) (sym e) (capital_alone asked more)

pub by_small : (asked : Asked) (bytes : List ℕ) → 1 ≤ length bytes → get_or bytes 0 0 ≡ small_of asked
    → by_delayed asked bytes (get_or bytes 0 0) ≡ request_of bytes
by_small asked [] some e = absurd (omega arith)
by_small asked (byte ∷ more) some e = subst (λ b. by_delayed asked (b ∷ more) b ≡ request_of (b ∷ more)) (sym e) (small_delayed asked more)

pub by_none : (bytes : List ℕ) → ((asked : Asked) → get_or bytes 0 0 ≡ capital_of asked → ⊥) → ((asked : Asked) → get_or bytes 0 0 ≡ small_of asked → ⊥)
    → no_request ≡ request_of bytes
unfolding request_of
by_none [] no_capital no_small = refl
by_none (byte ∷ more) no_capital no_small =
    simp (
      ne_eqb _ _ (no_capital Time),
      ne_eqb _ _ (no_capital TimeAndDate),
      ne_eqb _ _ (no_capital UtcTimeAndDate),
      ne_eqb _ _ (no_small Time),
      ne_eqb _ _ (no_small TimeAndDate),
      ne_eqb _ _ (no_small UtcTimeAndDate),
    )

pub empty : (bytes : List ℕ) → length bytes < 1 → no_request ≡ request_of bytes
unfolding request_of
empty [] h = refl
empty (byte ∷ more) h = absurd (omega arith)
