-- `listing::text::Text::decimal` meets its contract. The measure is the number: a hundredth of it is less.
use Rattle.std.proofs.Common.{arith}
use Rattle.std.proofs.lemmas.Grind.{common_steps}
use Rattle.listing_rules.proofs.DecimalLaws.{decimal_last, decimal_pair, decimal_pairs}
use Rattle.listing_rules.proofs.RowLaws.{wide_length}
use Rattle.listing.proofs.text.Text.+decimal.Goals as goal

pub two-requires-else-n-lt100 : goal.two-requires-else-n-lt100
two-requires-else-n-lt100 t c =
    grind (arith, common_steps, decimal_pairs c.args.n c.if-n-lt100.false, wide_length c.args.n (omega arith))

pub returns-then-n-lt10-clause-said : goal.returns-then-n-lt10-clause-said
returns-then-n-lt10-clause-said t c = cc (decimal_last c.args.n c.if-n-lt10.true)

pub returns-then-n-lt100-clause-said : goal.returns-then-n-lt100-clause-said
returns-then-n-lt100-clause-said t c = rw (decimal_pair _ c.if-n-lt10.false c.if-n-lt100.true) c.two.ensures

pub returns-else-n-lt100-clause-said : goal.returns-else-n-lt100-clause-said
returns-else-n-lt100-clause-said t c = grind (arith, common_steps, decimal_pairs c.args.n c.if-n-lt100.false)

pub returns-else-n-lt100-clause-few : goal.returns-else-n-lt100-clause-few
returns-else-n-lt100-clause-few t c =
    grind (arith, common_steps, decimal_pairs c.args.n c.if-n-lt100.false, wide_length c.args.n (omega arith))
