-- `board::is_offered` meets its contract.
use mathlib.Core.Path.{sym, ◌∙◌}
use Rattle.board_rules.specs.Settings.{is_offered}
use Rattle.board.proofs.is_offered.Goals as goal
use Rattle.board.proofs.is_offered.Goals.{then-is_either, else-is_either}

pub returns-then-is_either-2 : goal.returns-then-is_either-2
unfolding is_offered
returns-then-is_either-2 c =
    elim c.if-is_either.branch [
      | then-is_either w ↦ rw (c.row_of.ensures, sym c.is_either.ensures ∙ w.if-is_either.true, sym w.is_either-then-is_either.ensures ∙ sym w.value-is ∙ c.if-is_either-2.true)
      | else-is_either w ↦ cc
    ]

pub returns-else-is_either-2 : goal.returns-else-is_either-2
unfolding is_offered
returns-else-is_either-2 c =
    elim c.if-is_either.branch [
      | then-is_either w ↦ rw (c.if-is_either-2.false, sym c.is_either.ensures ∙ w.if-is_either.true, sym w.is_either-then-is_either.ensures ∙ sym w.value-is ∙ c.if-is_either-2.false)
      | else-is_either w ↦ rw (c.if-is_either-2.false, sym c.is_either.ensures ∙ w.if-is_either.false)
    ]
