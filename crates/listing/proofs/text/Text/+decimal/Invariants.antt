-- The measure of `listing::text::Text::decimal` is the number: a hundredth of it is less.
use Rattle.listing.proofs.text.Text.+decimal.Given as goal

abbrev pub decreases-decimal : goal.decreases-decimal
decreases-decimal l = l.n
