-- `record::utc::utc_seconds` meets its contract.
use mathlib.Core.Path.{sym, ap, ◌∙◌}
use Rattle.refusals.proofs.NumberLaws.{passed_on}
use Rattle.record_rules.specs.Utc.{count_of, utc_seconds}
use Rattle.record_rules.proofs.UtcLaws.{utc_refused, time_has_no_count, utc_of_count}
use Rattle.record.proofs.utc.utc_seconds.Goals as goal

pub returns-in_err-counted : goal.returns-in_err-counted
returns-in_err-counted c = passed_on _ _ c.from_residual.ensures.1 ∙ utc_refused c.args.rec _ (sym c.in_err-counted.ensures)

pub returns-in-TimeOnly : goal.returns-in-TimeOnly
returns-in-TimeOnly c =
    absurd (time_has_no_count c.in-TimeOnly.field-0 _ _ (ap count_of (sym c.in-TimeOnly.is) ∙ sym c.in_ok-counted.ensures))

pub returns-in-Dated : goal.returns-in-Dated
returns-in-Dated c =
    let dated = c.in-Dated.is in
    c.in_utc.ensures ∙ utc_of_count _ _ _ _ _ _ (ap count_of (sym dated) ∙ sym c.in_ok-counted.ensures) ∙ ap utc_seconds (sym dated)
