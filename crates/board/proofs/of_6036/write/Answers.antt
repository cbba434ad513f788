-- `board::of_6036::write` meets its contract.
use mathlib.Core.Path.{sym, ◌∙◌}
use Rattle.refusals.specs.Refusals.{unless}
use Rattle.board_rules.specs.Of6036.{third_for, fourth_for, switches_for, byte_for}
use Rattle.board_rules.proofs.SettingLaws.{of_each}
use Rattle.board.proofs.of_6036.write.Goals as goal

pub returns-then-not-is_offered : goal.returns-then-not-is_offered
unfolding byte_for unless
returns-then-not-is_offered c = rw (sym c.is_offered.ensures ∙ c.if-not-is_offered.true)

pub returns : goal.returns
unfolding byte_for switches_for unless
returns c =
    let parity = c.args.parameter.parity in
    let offers = sym c.is_offered.ensures ∙ c.if-not-is_offered.false in
    let third = c.at_parity.ensures ∙ of_each third_for parity in
    let fourth = c.at_parity-2.ensures ∙ of_each fourth_for parity in
    rw (offers, c.byte_of.ensures, third, fourth, c.row_of-row.ensures)
