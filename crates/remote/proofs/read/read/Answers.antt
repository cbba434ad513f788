-- `remote::read::read` meets its contract.
use Rattle.std.proofs.Common.{sym, ◌∙◌}
use Rattle.refusals.proofs.NumberLaws.{passed_on}
use Rattle.remote_rules.proofs.ReadLaws.{no_form, not_framed, by_form}
use Rattle.remote.proofs.read.read.Goals as goal

pub returns-in_err-form : goal.returns-in_err-form
returns-in_err-form c = passed_on _ _ c.from_residual.ensures.1 ∙ no_form c.args.bytes.now _ (sym c.in_err-form.ensures)

pub returns-then-not-is_framed : goal.returns-then-not-is_framed
returns-then-not-is_framed c =
    not_framed c.args.bytes.now _ (sym c.in_ok-form.ensures) (sym c.is_framed.ensures ∙ c.if-not-is_framed.true)

pub returns : goal.returns
returns c =
    c.read_as.ensures ∙ by_form c.args.bytes.now _ (sym c.in_ok-form.ensures) (sym c.is_framed.ensures ∙ c.if-not-is_framed.false)
