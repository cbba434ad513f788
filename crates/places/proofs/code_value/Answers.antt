-- `places::code_value` meets its contract.
use native.Mathlib.Omega.{arith}
use mathlib.Core.Path.{sym, ◌∙◌}
use Rattle.places_rules.specs.Places.{code_value}
use Rattle.places_rules.proofs.Characters.{decimal_is_digit, decimal_bounds, capital_bounds}
use Rattle.places.proofs.code_value.Goals as goal

pub overflow_sub-result : goal.overflow_sub-result
overflow_sub-result c = (decimal_bounds _ (decimal_is_digit c.args.byte ∙ sym c.is_ascii_digit.ensures.value ∙ c.if-is_ascii_digit.true)).0

pub returns-then-is_ascii_digit : goal.returns-then-is_ascii_digit
unfolding code_value
returns-then-is_ascii_digit c = rw (decimal_is_digit c.args.byte ∙ sym c.is_ascii_digit.ensures.value ∙ c.if-is_ascii_digit.true)

pub overflow_sub-result-then-is_capital : goal.overflow_sub-result-then-is_capital
overflow_sub-result-then-is_capital c = omega (arith, capital_bounds _ (sym c.is_capital.ensures ∙ c.if-is_capital.true))

pub returns-then-is_capital : goal.returns-then-is_capital
unfolding code_value
returns-then-is_capital c = rw (decimal_is_digit c.args.byte ∙ sym c.is_ascii_digit.ensures.value ∙ c.if-is_ascii_digit.false, sym c.is_capital.ensures ∙ c.if-is_capital.true)

pub returns : goal.returns
unfolding code_value
returns c = rw (decimal_is_digit c.args.byte ∙ sym c.is_ascii_digit.ensures.value ∙ c.if-is_ascii_digit.false, sym c.is_capital.ensures ∙ c.if-is_capital.false)
