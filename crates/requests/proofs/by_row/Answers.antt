-- `requests::by_row` meets its contract: each way it ends is a law of the definition.
use mathlib.Core.Path.{ap, sym, ◌∙◌}
use Rattle.refusals.specs.Refusals.{done}
use Rattle.requests.specs.Requests.{request}
use Rattle.requests.proofs.ReadLaws.{other_length, misfit, fitting}
use Rattle.requests.proofs.by_row.Goals as goal

pub returns-then-bytes-row : goal.returns-then-bytes-row
returns-then-bytes-row c = let args = c.args in other_length args.asked args.row.now args.bytes.now c.if-bytes-row.true

pub returns-then-is_some : goal.returns-then-is_some
returns-then-is_some c =
    let args = c.args in
    misfit args.asked args.row.now args.bytes.now _ c.scan-found.ensures (sym c.is_some.ensures ∙ c.if-is_some.true)

pub returns : goal.returns
returns c =
    let args = c.args in
    ap (λ wait. done (request args.asked wait)) c.delay.ensures
    ∙ fitting args.asked args.row.now args.bytes.now _ c.scan-found.ensures c.if-bytes-row.false (sym c.is_some.ensures ∙ c.if-is_some.false)
