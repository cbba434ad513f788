-- `takeover::take_over` meets its contract.
use Rattle.std.proofs.Common.{◌≡◌, length, ap, sym, ◌∙◌, arith}
use Rattle.line.specs.declared.Reader.{Reader}
use Rattle.takeover.specs.TakingOver.{kept_places}
use Rattle.takeover.proofs.TakingOverLaws.{by_the_reader, too_many, takes, refuses}
use Rattle.takeover.proofs.take_over.Goals as goal

pub returns-then-kept-gt-KEPT_PLACES : goal.returns-then-kept-gt-KEPT_PLACES
returns-then-kept-gt-KEPT_PLACES c =
    let kept = c.args.kept in
    c.refused.ensures ∙ sym (refuses kept (too_many kept (omega (arith, c.if-kept-gt-KEPT_PLACES.true))))

pub returns-then-not-is_well_formed : goal.returns-then-not-is_well_formed
returns-then-not-is_well_formed c =
    let kept = c.args.kept in
    let made = c.with_more_places-reader in
    let size : length kept.held ≡ kept_places = omega (arith, c.well_formed) in
    let by_reader = by_the_reader kept made.result size (omega (arith, c.if-kept-gt-KEPT_PLACES.false)) made.ensures in
    c.refused-then-not-is_well_formed.ensures ∙ sym (refuses kept (by_reader ∙ sym c.is_well_formed.ensures ∙ c.if-not-is_well_formed.true))

pub returns : goal.returns
returns c =
    let kept = c.args.kept in
    let made = c.with_more_places-reader in
    let size : length kept.held ≡ kept_places = omega (arith, c.well_formed) in
    let by_reader = by_the_reader kept made.result size (omega (arith, c.if-kept-gt-KEPT_PLACES.false)) made.ensures in
    ap (λ (reader : Reader). record { reader = reader; kept = kept; refusal = 0 }) made.ensures
    ∙ sym (takes kept (by_reader ∙ sym c.is_well_formed.ensures ∙ c.if-not-is_well_formed.false))
