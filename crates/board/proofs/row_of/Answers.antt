-- `board::row_of` meets its contract.
use mathlib.Core.Path.{ap, ◌∙◌}
use Rattle.std.specs.Option.{unwrap_or}
use Rattle.board_rules.specs.Rates.{rates, rate_row}
use Rattle.board_rules.proofs.RateLaws.{row_found}
use Rattle.board.proofs.row_of.Goals as goal

pub returns : goal.returns
unfolding rate_row
returns c = c.unwrap_or.ensures ∙ ap (λ row. unwrap_or row 8) c.row_in.ensures ∙ row_found rates c.args.baud
