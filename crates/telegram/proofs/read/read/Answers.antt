-- `telegram::read::read` meets its contract.
use Rattle.std.proofs.Common.{false, sym, refl, ap, ◌∙◌}
use Rattle.refusals.proofs.NumberLaws.{passed_on}
use Rattle.telegram_rules.specs.Reading.{read_of}
use Rattle.telegram_rules.proofs.ReadLaws.{no_layout, by_body}
use Rattle.telegram.proofs.read.read.Goals as goal

pub returns-in_err-layout_of : goal.returns-in_err-layout_of
returns-in_err-layout_of c =
    passed_on _ _ c.from_residual.ensures.1
    ∙ no_layout false c.args.bytes.now _ (sym c.in_err-layout_of.ensures)
    ∙ ap (λ control. read_of control c.args.bytes.now) (sym c.if-control.false)

pub returns : goal.returns
returns c =
    c.read_as.ensures
    ∙ by_body false c.args.bytes.now _ (sym c.in_ok-layout_of.ensures) refl
    ∙ ap (λ control. read_of control c.args.bytes.now) (sym c.if-control.false)
