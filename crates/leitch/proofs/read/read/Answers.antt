-- `leitch::read::read` meets its contract: each way it ends is a law of the definition.
use mathlib.Core.Path.{sym, ap, ◌∙◌}
use Rattle.refusals.specs.Numbers.{number_if}
use Rattle.refusals.proofs.NumberLaws.{passed_on}
use Rattle.leitch_rules.proofs.ReadLaws.{ends_by_length, ends_in_row, ends_refused, ends_disagreeing, ends_good}
use Rattle.leitch.proofs.read.read.Goals as goal

pub returns-then-bytes-ne-PLACES : goal.returns-then-bytes-ne-PLACES
returns-then-bytes-ne-PLACES c = ends_by_length _ c.if-bytes-ne-PLACES.true

pub returns-in-Some : goal.returns-in-Some
returns-in-Some c =
    ends_in_row _ c.if-bytes-ne-PLACES.false _ _ c.row.ensures c.scan-found.ensures _ (ap number_if (sym c.in-Some.is))

pub returns-in_err-check_fields : goal.returns-in_err-check_fields
returns-in_err-check_fields c =
    passed_on _ _ c.from_residual.ensures.1
    ∙ ends_refused _ c.if-bytes-ne-PLACES.false _ _ c.row.ensures c.scan-found.ensures (ap number_if c.in_default.is) _
    c.reply_in-reply.ensures _ c.in_err-check_fields.ensures

pub returns-in_err-check_day : goal.returns-in_err-check_day
returns-in_err-check_day c =
    passed_on _ _ c.from_residual-in_err-check_day.ensures.1
    ∙ ends_disagreeing _ c.if-bytes-ne-PLACES.false _ _ c.row.ensures c.scan-found.ensures (ap number_if c.in_default.is) _
    c.reply_in-reply.ensures (sym c.in_ok-check_fields.ensures) _ c.in_err-check_day.ensures

pub returns : goal.returns
returns c =
    ends_good _ c.if-bytes-ne-PLACES.false _ _ c.row.ensures c.scan-found.ensures (ap number_if c.in_default.is) _
    c.reply_in-reply.ensures (sym c.in_ok-check_fields.ensures) (sym c.in_ok-check_day.ensures)
