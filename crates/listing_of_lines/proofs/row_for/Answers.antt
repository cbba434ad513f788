-- `listing_of_lines::row_for` meets its contract.
use Rattle.std.proofs.Common.{◌≡◌, ℕ, Result, Ok, ap, sym, ◌∙◌}
use Rattle.std.specs.Result.{IsErrAnd}
use Rattle.std.proofs.lemmas.Result.{err_from_is_err_and}
use Rattle.refusals.specs.Refusals.{refused}
use Rattle.listing.specs.Texts.{told_as}
use Rattle.listing_of_lines.specs.Pages.{heard_in_numbers}
use Rattle.listing_of_lines.proofs.PageLaws.{nothing_laid, refused_laid}
use Rattle.listing_of_lines.proofs.row_for.Goals as goal

-- what a `?` passes on has the number that it had
passed_on : (told : Result ℕ ℕ) (n : ℕ) → IsErrAnd told (λ passed. passed ≡ n) → told_as told ≡ refused n
passed_on told n is =
    let p = err_from_is_err_and told is in
    rw (p.1, p.2)

pub returns-in-None : goal.returns-in-None
returns-in-None c = nothing_laid c.args.out.now (ap heard_in_numbers (c.in_ok-event.was ∙ ap Ok c.in-None.is))

pub returns-in_err-event : goal.returns-in_err-event
returns-in_err-event c =
    let out = c.args.out.now in
    refused_laid out (ap heard_in_numbers c.in_err-event.was) ∙ ap (λ told. (told, out)) (sym (passed_on _ _ c.from_residual.ensures.1))
