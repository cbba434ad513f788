-- `board::of_6038::read` meets its contract.
use Rattle.std.proofs.lemmas.Result.{err_from_is_err_and}
use Rattle.board_rules.specs.Of6038.{parameter_in}
use Rattle.board.proofs.of_6038.read.Goals as goal

pub returns-in_err-parity_in : goal.returns-in_err-parity_in
unfolding parameter_in
returns-in_err-parity_in c =
    let p = err_from_is_err_and c.from_residual.result c.from_residual.ensures.1 in rw (p.1, p.2, ← c.in_err-parity_in.ensures)

pub returns : goal.returns
unfolding parameter_in
returns c = rw (← c.in_ok-parity_in.ensures, c.pick.ensures, c.pick-2.ensures, c.rate_at.ensures)
