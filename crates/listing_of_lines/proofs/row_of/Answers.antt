-- `listing_of_lines::row_of` meets its contract.
use Rattle.std.proofs.Common.{Ok, ap, sym, ◌∙◌}
use Rattle.refusals.proofs.NumberLaws.{passed_on}
use Rattle.line_rules.specs.Hearing.{heard_as}
use Rattle.listing_of_lines.proofs.PageLaws.{nothing_laid, refused_laid}
use Rattle.listing_of_lines.proofs.row_of.Goals as goal

pub returns-in-None : goal.returns-in-None
returns-in-None c = nothing_laid c.args.out.now (ap heard_as (c.in_ok-event.was ∙ ap Ok c.in-None.is))

pub returns-in_err-event : goal.returns-in_err-event
returns-in_err-event c =
    let out = c.args.out.now in
    refused_laid out (ap heard_as c.in_err-event.was) ∙ ap (λ told. (told, out)) (sym (passed_on _ _ c.from_residual.ensures.1))
