-- `board::of_6036::read` meets its contract.
use Rattle.board_rules.specs.Of6036.{parameter_in}
use Rattle.board.proofs.of_6036.read.Goals as goal

pub returns : goal.returns
unfolding parameter_in
returns c =
    rw (c.pick.ensures, c.parity_in.ensures, c.pick-2.ensures, c.rate_at.ensures)
