-- `places::see` meets its contract.
use mathlib.Core.Path.{◌≡◌, refl, sym, ◌∙◌}
use Prim.Native.Nat.{◌-◌}
use native.Mathlib.Omega.{arith}
use borrow.Author.Tests.{eq-eqb, ne_eqb}
use Rattle.places_rules.specs.Places.{code_value, kept_at, place_fault}
use Rattle.places_rules.proofs.Characters.{decimal_is_digit, decimal_bounds, capital_bounds, decimal_value, capital_value}
use Rattle.places_rules.proofs.Numbers.{is_fixed, is_decimal_place, is_code, by_digit}
use Rattle.places.proofs.see.Goals as goal

pub returns-then-byte-at : goal.returns-then-byte-at
returns-then-byte-at c = rw (is_fixed _ c.if-at-lt-FIRST_DECIMAL.true, eq-eqb _ _ c.if-byte-at.true) (refl, refl)

pub returns-then-at-lt-FIRST_DECIMAL : goal.returns-then-at-lt-FIRST_DECIMAL
returns-then-at-lt-FIRST_DECIMAL c = rw (is_fixed _ c.if-at-lt-FIRST_DECIMAL.true, ne_eqb _ _ c.if-byte-at.false) (refl, refl)

pub overflow_sub-result : goal.overflow_sub-result
overflow_sub-result c = (decimal_bounds _ (decimal_is_digit c.args.byte ∙ sym c.is_ascii_digit.ensures.value ∙ c.if-is_ascii_digit.true)).0

pub returns-then-is_ascii_digit : goal.returns-then-is_ascii_digit
returns-then-is_ascii_digit c =
    let args = c.args in
    let fits = decimal_is_digit c.args.byte ∙ sym c.is_ascii_digit.ensures.value ∙ c.if-is_ascii_digit.true in
    let value = sym (decimal_value args.byte fits) in
    by_digit args.at (λ p. (args.byte - 48 ≡ kept_at p args.byte args.before) × (0 ≡ place_fault p args.byte))
    (value, rw fits) (value, rw fits) c.if-at-lt-FIRST_DECIMAL.false

pub returns-then-at-lt-FIRST_CODE : goal.returns-then-at-lt-FIRST_CODE
returns-then-at-lt-FIRST_CODE c =
    let no_digit = decimal_is_digit c.args.byte ∙ sym c.is_ascii_digit.ensures.value ∙ c.if-is_ascii_digit.false in
    rw (is_decimal_place _ c.if-at-lt-FIRST_DECIMAL.false c.if-at-lt-FIRST_CODE.true, no_digit) (c.code_value.ensures, refl)

pub overflow_sub-result-then-is_capital : goal.overflow_sub-result-then-is_capital
overflow_sub-result-then-is_capital c = omega (arith, capital_bounds _ (sym c.is_capital.ensures ∙ c.if-is_capital.true))

pub returns-then-is_capital : goal.returns-then-is_capital
returns-then-is_capital c =
    let fits = sym c.is_capital.ensures ∙ c.if-is_capital.true in
    let no_digit = decimal_is_digit c.args.byte ∙ sym c.is_ascii_digit.ensures.value ∙ c.if-is_ascii_digit.false in
    let code = is_code _ c.if-at-lt-FIRST_DECIMAL.false c.if-at-lt-FIRST_CODE.false in
    rw (code, no_digit, fits) (sym (capital_value c.args.byte fits), refl)

pub returns : goal.returns
unfolding code_value
returns c =
    let no_letter = sym c.is_capital.ensures ∙ c.if-is_capital.false in
    let no_digit = decimal_is_digit c.args.byte ∙ sym c.is_ascii_digit.ensures.value ∙ c.if-is_ascii_digit.false in
    rw (is_code _ c.if-at-lt-FIRST_DECIMAL.false c.if-at-lt-FIRST_CODE.false, no_digit, no_letter) (refl, refl)
