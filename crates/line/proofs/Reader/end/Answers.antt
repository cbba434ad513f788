use Rattle.std.proofs.Common.{◌≡◌, [], length, sym, ◌∙◌, arith}
use Rattle.refusals.specs.Refusals.{refused}
use Rattle.line_rules.specs.Hearing.{Nothing, Event}
use Rattle.line_rules.specs.Line.{places}
use Rattle.line.proofs.ReaderLaws.{well, end_refused, end_outside, end_inside}
use Rattle.line.proofs.Inside.{reader_wraps}
use Rattle.line.proofs.Reader.end.Goals as goal

pub returns-then-not-is_well_formed : goal.returns-then-not-is_well_formed
returns-then-not-is_well_formed c = sym (end_refused c.args.self (sym c.is_well_formed.ensures ∙ c.if-not-is_well_formed.true))

pub returns-then-self-eq0 : goal.returns-then-self-eq0
returns-then-self-eq0 c =
    let well_formed_law = sym c.is_well_formed.ensures ∙ c.if-not-is_well_formed.false in
    (λ i. record { reader = (c.outside-reader.ensures ∙ reader_wraps c.args.self.order [] _ c.args.self.fed _ c.args.self.stray (omega arith) (omega arith) (omega arith)) i; heard = Nothing }) ∙ sym (end_outside c.args.self well_formed_law c.if-self-eq0.true)

pub overflow_cast-result : goal.overflow_cast-result
overflow_cast-result c =
    let well_formed_law = sym c.is_well_formed.ensures ∙ c.if-not-is_well_formed.false in
    omega (arith, (well c.args.self well_formed_law).fits)

pub returns : goal.returns
returns c =
    let self = c.args.self in
    let well_formed_law = sym c.is_well_formed.ensures ∙ c.if-not-is_well_formed.false in
    let size : length self.held ≡ places = omega (arith, c.well_formed) in
    (λ i. record { reader = (c.outside-reader.ensures ∙ reader_wraps self.order [] _ self.fed _ self.stray (omega arith) (omega arith) (omega arith)) i; heard = Event (refused 11) self.start self.len })
    ∙ sym (end_inside self well_formed_law size (omega arith))
