use Rattle.std.proofs.Common.{[], ◌∙◌, arith}
use Rattle.line.specs.Readers.{reader_of}
use Rattle.line_rules.specs.Line.{line_with}
use Rattle.line.proofs.Forms.{reader_is}
use Rattle.line.proofs.Reader.outside.Goals as goal

pub returns : goal.returns
returns c =
    let self = c.args.self in
    reader_is self.order [] c.moved-fed.result c.moved.result _ (omega arith) (omega arith) (omega arith)
    ∙ (λ i. reader_of (line_with [] (c.moved-fed.ensures i) (c.moved.ensures i) self.order))
