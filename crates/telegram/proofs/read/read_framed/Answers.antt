-- `telegram::read::read_framed` meets its contract.
use Rattle.std.proofs.Common.{true, not, sym, ap, ◌∙◌}
use Rattle.refusals.proofs.NumberLaws.{passed_on}
use Rattle.layouts_rules.specs.Layouts.{layout_of}
use Rattle.telegram_rules.specs.Reading.{read_body_as}
use Rattle.telegram_rules.proofs.ReadLaws.{body_between, too_short, no_layout, not_framed, by_body}
use Rattle.telegram.proofs.read.read_framed.Goals as goal

pub returns-then-length-lt2 : goal.returns-then-length-lt2
returns-then-length-lt2 c = too_short c.args.bytes.now c.if-length-lt2.true

pub returns-in_err-layout : goal.returns-in_err-layout
returns-in_err-layout c =
    passed_on _ _ c.from_residual.ensures.1
    ∙ no_layout true c.args.bytes.now _ (ap layout_of (sym (body_between c.args.bytes.now)) ∙ sym c.in_err-layout.ensures)

pub returns-then-not-is_framed : goal.returns-then-not-is_framed
returns-then-not-is_framed c =
    not_framed true c.args.bytes.now _
    (ap layout_of (sym (body_between c.args.bytes.now)) ∙ sym c.in_ok-layout.ensures)
    (ap not (sym c.is_framed.ensures ∙ c.if-not-is_framed.true))

pub returns : goal.returns
returns c =
    let body = body_between c.args.bytes.now in
    c.read_as.ensures
    ∙ ap (read_body_as _) body
    ∙ by_body true c.args.bytes.now _
    (ap layout_of (sym body) ∙ sym c.in_ok-layout.ensures)
    (ap not (sym c.is_framed.ensures ∙ c.if-not-is_framed.false))
