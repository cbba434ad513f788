-- `places::code_character` meets its contract.
use borrow.Author.Tests.{lt-ltb, le-ltb}
use Rattle.places_rules.specs.Places.{code_character}
use Rattle.places.proofs.code_character.Goals as goal

pub returns-then-low-lt10 : goal.returns-then-low-lt10
unfolding code_character
returns-then-low-lt10 c = rw (lt-ltb _ _ c.if-low-lt10.true)

pub returns : goal.returns
unfolding code_character
returns c = rw (le-ltb _ _ c.if-low-lt10.false)
