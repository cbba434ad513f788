-- `line::Reader::feed_begun` meets its contract.
use Rattle.std.proofs.Common.{◌+◌, ◌-◌, ◌%◌, ◌^◌, [], ◌∷◌, length, take, drop, refl, ap, ◌∙◌, arith, length-drop, length-take, take_all}
use Rattle.ascii.specs.Control.{stx}
use Rattle.line.specs.Readers.{well_formed, fed_as, feed_reader}
use Rattle.line_rules.specs.Line.{line_with}
use Rattle.line_rules.proofs.EventLaws.{taken_fits}
use Rattle.line.proofs.Wraps.{reader_well, feed_reader_law}
use Rattle.line.proofs.Strays.{outside_starts}
use Rattle.line.proofs.Reader.feed_begun.Goals as goal

pub feed_inside-later-requires : goal.feed_inside-later-requires
feed_inside-later-requires c =
    let self = c.args.self in
    let begun = c.begun.ensures in
    let order = self.order in
    let fed = (self.fed + (c.args.skipped + 1)) % 2 ^ 32 in
    let stray = (self.stray + c.args.skipped) % 2 ^ 32 in
    let good = reader_well order (stx ∷ []) fed stray (omega arith) refl in
    (ap well_formed begun ∙ good, omega (arith, ap (λ reader. reader.len) begun))

pub overflow_add-result : goal.overflow_add-result
overflow_add-result c =
    let piece = c.args.piece.now in
    let first = c.args.skipped + 1 in
    let rest = take (length piece - first) (drop first piece) in
    let self = c.args.self in
    let fed = (self.fed + first) % 2 ^ 32 in
    let stray = (self.stray + c.args.skipped) % 2 ^ 32 in
    let order = self.order in
    let told = c.feed_inside-later.ensures ∙ ap (λ reader. feed_reader reader rest) c.begun.ensures ∙ feed_reader_law order (stx ∷ []) fed stray (omega arith) refl rest in
    let taken = taken_fits (line_with (stx ∷ []) fed stray order) rest in
    omega (arith, ap (λ fed. fed.taken) told, taken, length-take (length piece - first) (drop first piece), length-drop first piece, c.requires)

pub returns : goal.returns
returns c =
    let piece = c.args.piece.now in
    let first = c.args.skipped + 1 in
    outside_starts c.args.self.order c.args.self.fed c.args.self.stray piece _ _ _ _ (fed_as c.feed_inside-later.result)
    c.requires.0
    c.requires.1
    refl
    refl
    (take_all (length piece - first) (drop first piece) (omega (arith, length-drop first piece)))
    (c.feed_inside-later.ensures ∙ ap (λ reader. feed_reader reader (take (length piece - first) (drop first piece))) c.begun.ensures)
