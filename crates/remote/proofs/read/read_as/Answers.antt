-- `remote::read::read_as` meets its contract: each way it ends is a law of the definition.
use Rattle.std.proofs.Common.{◌≡◌, sym, ap, ◌∙◌}
use Rattle.refusals.specs.Refusals.{refused}
use Rattle.refusals.specs.Numbers.{number, number_if}
use Rattle.refusals.proofs.NumberLaws.{number_some, passed_on}
use Rattle.places_rules.specs.Places.{finding}
use Rattle.remote_rules.proofs.ReadLaws.{seen, ends_in_row, ends_misspelled, ends_refused, ends_good}
use Rattle.remote.proofs.read.read_as.Goals as goal

pub returns-in-Some : goal.returns-in-Some
returns-in-Some c =
    let found = seen (finding c.scan-found.result) _ _ _ c.row_of.ensures c.scan-found.ensures in
    let is : number_if c.scan-found.result.fault ≡ number c.in-Some.fault = ap number_if c.in-Some.is in
    ap refused (sym is) ∙ ends_in_row _ _ _ found (λ none. number_some c.in-Some.fault (sym is ∙ none))

pub returns-then-not-is_spelled_well : goal.returns-then-not-is_spelled_well
returns-then-not-is_spelled_well c =
    let found = seen (finding c.scan-found.result) _ _ _ c.row_of.ensures c.scan-found.ensures in
    ends_misspelled _ _ _ found (ap number_if c.in_default.is) (sym c.is_spelled_well.ensures ∙ c.if-not-is_spelled_well.true)

pub returns-in_err-check : goal.returns-in_err-check
returns-in_err-check c =
    let found = seen (finding c.scan-found.result) _ _ _ c.row_of.ensures c.scan-found.ensures in
    let well = sym c.is_spelled_well.ensures ∙ c.if-not-is_spelled_well.false in
    passed_on _ _ c.from_residual.ensures.1
    ∙ ends_refused _ _ _ found (ap number_if c.in_default.is) well _ c.command_in-command.ensures _ c.in_err-check.ensures (number_some _)

pub returns : goal.returns
returns c =
    let found = seen (finding c.scan-found.result) _ _ _ c.row_of.ensures c.scan-found.ensures in
    let well = sym c.is_spelled_well.ensures ∙ c.if-not-is_spelled_well.false in
    ends_good _ _ _ found (ap number_if c.in_default.is) well _ c.command_in-command.ensures (sym c.in_ok-check.ensures)
