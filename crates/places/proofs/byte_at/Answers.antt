-- `places::byte_at` meets its contract.
use mathlib.Core.Path.{sym, ap, ◌≡◌}
use Rattle.places_rules.specs.Places.{byte_at}
use Rattle.places_rules.proofs.Numbers.{is_fixed, by_digit}
use Rattle.places.proofs.byte_at.Goals as goal

pub returns-then-at-lt-FIRST_DECIMAL : goal.returns-then-at-lt-FIRST_DECIMAL
returns-then-at-lt-FIRST_DECIMAL c = sym (ap (byte_at c.args.digits.now) (is_fixed _ c.if-at-lt-FIRST_DECIMAL.true))

pub returns : goal.returns
returns c =
    let digits = c.args.digits.now in
    let shown = c.code_character in
    by_digit _ (λ p. shown.result ≡ byte_at digits p) shown.ensures shown.ensures c.if-at-lt-FIRST_DECIMAL.false
