use Rattle.std.proofs.Common.{◌≡◌, length, sym, ap, ◌∙◌, arith}
use Rattle.line.specs.Readers.{feed_reader}
use Rattle.line_rules.specs.Line.{places}
use Rattle.line.proofs.ReaderLaws.{feed_refused, outside_back}
use Rattle.line.proofs.Reader.feed.Goals as goal

pub returns-then-not-is_well_formed : goal.returns-then-not-is_well_formed
returns-then-not-is_well_formed c =
    c.refused.ensures ∙ sym (feed_refused c.args.self c.args.piece.now (sym c.is_well_formed.ensures ∙ c.if-not-is_well_formed.true))

pub returns-then-self-eq0 : goal.returns-then-self-eq0
returns-then-self-eq0 c =
    let self = c.args.self in
    let good = sym c.is_well_formed.ensures ∙ c.if-not-is_well_formed.false in
    let size : length self.held ≡ places = omega (arith, c.well_formed) in
    let back = outside_back self good size (omega (arith, c.well_formed)) (omega (arith, c.well_formed)) c.if-self-eq0.true in
    c.feed_outside.ensures ∙ ap (λ reader. feed_reader reader c.args.piece.now) back

pub feed_inside-requires : goal.feed_inside-requires
feed_inside-requires c = (sym c.is_well_formed.ensures ∙ c.if-not-is_well_formed.false, omega arith)
