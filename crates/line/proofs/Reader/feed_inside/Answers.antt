-- `line::Reader::feed_inside` meets its contract.
use Rattle.std.proofs.Common.{◌≡◌, ℕ, ◌+◌, ◌-◌, ◌%◌, ◌^◌, ◌<◌, List, [], ◌∷◌, ◌++◌, replicate, length, get_or, take, sym, refl, ap, ◌∙◌, ap₂, arith}
use Rattle.refusals.specs.Refusals.{refused}
use Rattle.line_rules.specs.Hearing.{Nothing}
use Rattle.line.specs.declared.Reader.{Reader}
use Rattle.line.specs.Readers.{reader_with, reader_of}
use Rattle.line_rules.specs.Line.{places, judgement, line_with, start_of}
use Rattle.line.proofs.ReaderLaws.{well}
use Rattle.line.proofs.Inside.{added, gathered, gathered_size, added_fits, inside_holds, stops_with, told_etx, told_stx, told_full, judged}
use Rattle.ascii.specs.Control.{stx}
use Rattle.line.proofs.Reader.feed_inside.Goals as goal

-- no stray byte more
same_strays : (reader : Reader) (fed : ℕ) (held : List ℕ) → reader_of (line_with held fed ((reader.stray + 0) % 2 ^ 32) reader.order) ≡ reader_of (line_with held fed reader.stray reader.order)
same_strays reader fed held =
    let same : (reader.stray + 0) % 2 ^ 32 % 2 ^ 32 ≡ reader.stray % 2 ^ 32 = omega arith in
    λ i. reader_with (held ++ replicate (places - length held) 0) (length held) (fed % 2 ^ 32) (same i) (start_of (line_with held fed reader.stray reader.order)) reader.order

pub gather-gathered-requires : goal.gather-gathered-requires
gather-gathered-requires c = (well c.args.self c.requires.0).fits

pub overflow_add-len : goal.overflow_add-len
overflow_add-len c =
    let reader = c.args.self in
    let piece = c.args.piece.now in
    let size : length reader.held ≡ places = omega (arith, c.well_formed) in
    let good = c.requires.0 in
    let some = c.requires.1 in
    let n = c.gather-gathered.ensures.added in
    omega (arith, n, (added_fits reader piece size good some).0, (added_fits reader piece size good some).1, (well reader good).fits)

pub returns-then-added-piece : goal.returns-then-added-piece
returns-then-added-piece c =
    let reader = c.args.self in
    let piece = c.args.piece.now in
    let size : length reader.held ≡ places = omega (arith, c.well_formed) in
    let good = c.requires.0 in
    let some = c.requires.1 in
    let n = c.gather-gathered.ensures.added in
    let fed = c.moved.ensures ∙ ap (λ k. (reader.fed + k) % 2 ^ 32) n in
    let held = c.gather-gathered.ensures.laid in
    (λ i. record { reader = reader_with (held i) (reader.len + n i) (fed i) reader.stray reader.start reader.order; taken = n i; heard = Nothing })
    ∙ sym (inside_holds reader piece size good some (omega (arith, c.well_formed)) (sym n ∙ c.if-added-piece.true))

pub bounds-piece-added : goal.bounds-piece-added
bounds-piece-added c =
    let reader = c.args.self in
    let piece = c.args.piece.now in
    let size : length reader.held ≡ places = omega (arith, c.well_formed) in
    let good = c.requires.0 in
    let some = c.requires.1 in
    let n = c.gather-gathered.ensures.added in
    omega (arith, n, (added_fits reader piece size good some).1)

pub overflow_add-taken : goal.overflow_add-taken
overflow_add-taken c =
    let reader = c.args.self in
    let piece = c.args.piece.now in
    let size : length reader.held ≡ places = omega (arith, c.well_formed) in
    let good = c.requires.0 in
    let some = c.requires.1 in
    let n = c.gather-gathered.ensures.added in
    omega (arith, n, (added_fits reader piece size good some).0, (added_fits reader piece size good some).1, (well reader good).fits)

pub overflow_cast-size : goal.overflow_cast-size
overflow_cast-size c =
    let reader = c.args.self in
    let piece = c.args.piece.now in
    let size : length reader.held ≡ places = omega (arith, c.well_formed) in
    let good = c.requires.0 in
    let some = c.requires.1 in
    let n = c.gather-gathered.ensures.added in
    omega (arith, n, (added_fits reader piece size good some).0, (added_fits reader piece size good some).1, (well reader good).fits)

pub overflow_add-result : goal.overflow_add-result
overflow_add-result c =
    let reader = c.args.self in
    let piece = c.args.piece.now in
    let size : length reader.held ≡ places = omega (arith, c.well_formed) in
    let good = c.requires.0 in
    let some = c.requires.1 in
    let n = c.gather-gathered.ensures.added in
    omega (arith, n, (added_fits reader piece size good some).0, (added_fits reader piece size good some).1, (well reader good).fits)

pub returns-then-byte-eq-ETX : goal.returns-then-byte-eq-ETX
returns-then-byte-eq-ETX c =
    let reader = c.args.self in
    let piece = c.args.piece.now in
    let size : length reader.held ≡ places = omega (arith, c.well_formed) in
    let good = c.requires.0 in
    let some = c.requires.1 in
    let held = gathered reader piece size good some in
    let n = c.gather-gathered.ensures.added in
    let more : added reader piece size good some < length piece = omega (arith, n, (added_fits reader piece size good some).1) in
    let is_etx = ap (λ k. get_or piece k 0) (sym n) ∙ c.if-byte-eq-ETX.true in
    let bytes = ap₂ (λ k all. take (reader.len + k) all) n c.gather-gathered.ensures.laid ∙ judged reader piece size good some in
    stops_with reader piece size good some [] (judgement reader.order held) (length held + 1) (omega arith) (told_etx reader piece size good some more is_etx) _ _ _ _ _
    (c.outside.ensures ∙ same_strays reader _ [])
    refl
    n
    (c.judge-answer.ensures ∙ ap (judgement reader.order) bytes)
    (omega (arith, n, gathered_size reader piece size good some))

pub returns-then-byte-eq-STX : goal.returns-then-byte-eq-STX
returns-then-byte-eq-STX c =
    let reader = c.args.self in
    let piece = c.args.piece.now in
    let size : length reader.held ≡ places = omega (arith, c.well_formed) in
    let good = c.requires.0 in
    let some = c.requires.1 in
    let n = c.gather-gathered.ensures.added in
    let more : added reader piece size good some < length piece = omega (arith, n, (added_fits reader piece size good some).1) in
    let is_stx = ap (λ k. get_or piece k 0) (sym n) ∙ c.if-byte-eq-STX.true in
    stops_with reader piece size good some (stx ∷ []) (refused 9) (length (gathered reader piece size good some)) (omega arith) (told_stx reader piece size good some more is_stx) _ _ _ _ _
    (c.begun.ensures ∙ same_strays reader _ (stx ∷ []))
    refl
    n
    refl
    (omega (arith, n, gathered_size reader piece size good some))

pub returns : goal.returns
returns c =
    let reader = c.args.self in
    let piece = c.args.piece.now in
    let size : length reader.held ≡ places = omega (arith, c.well_formed) in
    let good = c.requires.0 in
    let some = c.requires.1 in
    let n = c.gather-gathered.ensures.added in
    let more : added reader piece size good some < length piece = omega (arith, n, (added_fits reader piece size good some).1) in
    stops_with reader piece size good some [] (refused 10) (places + 1) (omega arith)
    (told_full reader piece size good some more (λ e. c.if-byte-eq-ETX.false (ap (λ k. get_or piece k 0) n ∙ e)) (λ e. c.if-byte-eq-STX.false (ap (λ k. get_or piece k 0) n ∙ e)))
    _ _ _ _ _
    (c.outside-2.ensures ∙ same_strays reader _ [])
    refl
    n
    refl
    refl

pub judge-answer-requires : goal.judge-answer-requires
judge-answer-requires c =
    let reader = c.args.self in
    let piece = c.args.piece.now in
    let size : length reader.held ≡ places = omega (arith, c.well_formed) in
    let good = c.requires.0 in
    omega (arith, c.gather-gathered.ensures.added, (added_fits reader piece size good c.requires.1).0, (well reader good).fits)
