-- The ways in which reading ends, over the definitions. Assumes nothing.
use mathlib.Core.Path.{◌≡◌, ap, sym, ◌∙◌}
use mathlib.Core.Bool.{Bool, true, false, not, ◌&&◌}
use mathlib.Core.List.{List, map}
use Prim.Native.Nat.{ℕ, ◌-◌, ◌<◌}
use native.Mathlib.Omega.{arith}
use lib.ListN.{length, take, drop}
use Rattle.refusals.specs.Refusals.{◌else◌, done, refused, unless}
use Rattle.refusals.proofs.Laws.{refuses, refuses_first, does}
use Rattle.places_rules.specs.Places.{place, row_fault, found_in}
use Rattle.places_rules.specs.Places.{Finding}
use Rattle.record_rules.specs.Rule.{refusal_of}
use Rattle.layouts_rules.specs.declared.Layout.{Layout}
use Rattle.layouts_rules.specs.Layouts.{places_of, row_numbers, layout_of}
use Rattle.layouts_rules.specs.Coding.{record_in}
use Rattle.layouts_rules.proofs.RowLaws.{row_kept}
use Rattle.telegram_rules.specs.Reading.{body_of, framed, carried, body_refusal, read_body_as, read_in, read_of}

-- what a scan by the kept row finds is what the table's row says
pub seen : (found : Finding) (layout : Layout) (row body : List ℕ) → row ≡ row_numbers layout → found ≡ found_in (map place row) body
    → found ≡ found_in (places_of layout) body
seen found layout row body kept e = e ∙ ap (λ r. found_in r body) (row_kept layout row kept)

module _ (found : Finding) (layout : Layout) (body : List ℕ) (e : found ≡ found_in (places_of layout) body) where
  fault_is : found.fault ≡ row_fault (places_of layout) body
  unfolding found_in
  fault_is = ap (λ f. f.fault) e

  pub carried_is : carried layout body ≡ record_in layout found.digits
  unfolding found_in carried
  carried_is = ap (record_in layout) (sym (ap (λ f. f.digits) e))

  pub ends_in_row : (found.fault ≡ 0 → ⊥) → refused found.fault ≡ read_body_as layout body
  unfolding read_body_as body_refusal
  ends_in_row some = refuses_first _ _ fault_is some

  module _ (none : found.fault ≡ 0) where
    record_decides : body_refusal layout body ≡ refusal_of (carried layout body)
    unfolding body_refusal
    record_decides = ap (λ n. n else refusal_of (carried layout body)) (sym fault_is ∙ none)

    pub ends_refused : (n : ℕ) → n ≡ refusal_of (carried layout body) → (n ≡ 0 → ⊥) → refused n ≡ read_body_as layout body
    unfolding read_body_as
    ends_refused n same some = rw record_decides (refuses _ same some)

    pub ends_good : refusal_of (carried layout body) ≡ 0 → done (carried layout body) ≡ read_body_as layout body
    unfolding read_body_as
    ends_good good = sym (does _ (record_decides ∙ good))

-- from a body to the telegram around it
pub body_between : (bytes : List ℕ) → take (length bytes - 1 - 1) (drop 1 bytes) ≡ body_of true bytes
body_between bytes =
    let same : length bytes - 1 - 1 ≡ length bytes - 2 = omega arith in ap (λ n. take n (drop 1 bytes)) same

pub too_short : (bytes : List ℕ) → length bytes < 2 → refused 1 ≡ read_of true bytes
unfolding read_in layout_of
too_short bytes h =
    let none : length bytes - 2 ≡ 0 = omega arith in
    rw none

module _ (control : Bool) (bytes : List ℕ) where
  pub no_layout : (n : ℕ) → layout_of (body_of control bytes) ≡ refused n → refused n ≡ read_of control bytes
  unfolding read_in
  no_layout n e = rw e

  pub not_framed : (layout : Layout) → layout_of (body_of control bytes) ≡ done layout → (control && not (framed bytes)) ≡ true
      → refused 2 ≡ read_of control bytes
  unfolding read_in unless
  not_framed layout e f = rw (e, f)

  pub by_body : (layout : Layout) → layout_of (body_of control bytes) ≡ done layout → (control && not (framed bytes)) ≡ false
      → read_body_as layout (body_of control bytes) ≡ read_of control bytes
  unfolding read_in read_body_as
  by_body layout e f = rw (e, f)
