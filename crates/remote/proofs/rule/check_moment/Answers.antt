-- `remote::rule::check_moment` meets its contract.
use Rattle.std.proofs.Common.{◌≡◌, refl, ap, ◌∙◌}
use Rattle.std.specs.Prelude.{MatchOption, Option, None, Some, Result, Ok, Err}
use Rattle.std.specs.Result.{result_err}
use Rattle.refusals.specs.declared.Refusal.{Refusal}
use Rattle.refusals.specs.Refusals.{lower}
use Rattle.refusals.specs.Numbers.{number_if, verdict}
use Rattle.remote_rules.proofs.MomentLaws.{to_59, above_59}
use Rattle.remote.proofs.rule.check_moment.Goals as goal

-- the refusal of an answer, and an answer of a refusal
number_of_err : (told : Result (Unit {0}) Refusal) → number_if (result_err told) ≡ verdict told
number_of_err (Ok value) = refl
number_of_err (Err refusal) = refl

pub returns-then-moment-le59 : goal.returns-then-moment-le59
returns-then-moment-le59 c = c.check-checked.ensures ∙ to_59 c.args.moment c.if-moment-le59.true

answer_of : (refusal : Option Refusal) (told : Result (Unit {0}) Refusal) → MatchOption refusal (told ≡ Ok tt) (λ e. told ≡ Err e) → verdict told ≡ number_if refusal
answer_of None told e = rw e
answer_of (Some refusal) told e = rw e

pub returns : goal.returns
returns c =
    answer_of _ _ c.map_or.ensures
    ∙ c.lowest.ensures
    ∙ ap (λ n. lower n 6) (ap number_if c.err.ensures.value ∙ number_of_err _ ∙ c.check-checked.ensures)
    ∙ above_59 c.args.moment c.if-moment-le59.false
