use Rattle.std.proofs.Common.{[], ◌∷◌, sym, ◌∙◌, arith}
use Rattle.ascii.specs.Control.{stx}
use Rattle.line.specs.Readers.{reader_of}
use Rattle.line_rules.specs.Line.{line_with}
use Rattle.line.proofs.Forms.{start_is, reader_is}
use Rattle.line.proofs.Reader.begun.Goals as goal

pub returns : goal.returns
returns c =
    let self = c.args.self in
    let fed = c.moved-fed.result in
    let sub = c.wrapping_sub_u32 in
    let start = start_is fed 1 sub.result (omega arith) (omega arith) (omega arith) sub.ensures.value in
    reader_is self.order (stx ∷ []) fed c.moved.result _ (omega arith) (omega arith) (sym start)
    ∙ (λ i. reader_of (line_with (stx ∷ []) (c.moved-fed.ensures i) (c.moved.ensures i) self.order))
