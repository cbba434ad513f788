-- Document 02, g, holds of the reader's bound: the end of the line, and the rule. Assumes nothing.
use Rattle.std.proofs.Common.{◌≡◌, suc, ◌+◌, ◌∷◌, length, refl, ap, ◌∙◌, ap₂, arith}
use borrow.Author.Tests.{lt-leb}
use Rattle.ascii.specs.Control.{stx}
use Rattle.line_rules.specs.Hearing.{Event}
use Rattle.line.specs.Readers.{well_formed_at}
use Rattle.line_rules.specs.Line.{places, fresh_line, start_of, told_by_end, heard_for}
use Rattle.line_rules.specs.Events.{line_after}
use Rattle.line.specs.LongerReaders.{TheEndCutsOffUpTo38, TheRuleIsTheOneAt38}
use Rattle.line.proofs.StaysGood.{end_good}
use Rattle.line_rules.proofs.EventLaws.{good_fresh, good_after}
use Rattle.line_rules.proofs.LongerTelegramsHold.{begins_at_0, gives}
use Rattle.refusals.specs.Refusals.{refused}

pub the_end_cuts_off_up_to_38 : TheEndCutsOffUpTo38
the_end_cuts_off_up_to_38 order body plain room =
    let size : suc (length body) ≡ length body + 1 = omega arith in
    let good = good_after (fresh_line order) (stx ∷ body) (good_fresh order) in
    ap (λ ended. ended.heard) (end_good (line_after (fresh_line order) (stx ∷ body)) good)
    ∙ ap (λ line. heard_for (told_by_end line.held) (start_of line)) (gives order body plain room).1
    ∙ ap₂ (λ start size. Event (refused 11) start size) (begins_at_0 (length body) room) size

pub the_rule_is_the_one_at_38 : TheRuleIsTheOneAt38
unfolding well_formed_at
the_rule_is_the_one_at_38 reader = (refl, λ more. rw (lt-leb reader.len places more))
