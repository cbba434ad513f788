-- Good states stay good: what feed and end return for a well-formed state is well formed. Assumes nothing.
use Rattle.std.proofs.Common.{◌≡◌, ℕ, ◌%◌, ◌^◌, true, List, [], length, refl, arith}
use Rattle.line.specs.declared.Reader.{Reader}
use Rattle.line.specs.Readers.{reader_of, line_of, well_formed, fed_for, feed_reader, feed_reader_at, end_reader, end_reader_at}
use Rattle.line_rules.specs.Line.{places, Line, feed_of, start_of, ended, told_by_end, heard_for}
use Rattle.line.proofs.Forms.{taken_length}
use Rattle.line.proofs.ReaderLaws.{well}
use Rattle.line.proofs.Inside.{reader_wraps}
use Rattle.line_rules.proofs.GoodLines.{Good, good_feed}
use Rattle.line.proofs.Wraps.{held_back, reader_well, feed_reader_law}

pub reader_of_good : (line : Line) → Good line → well_formed (reader_of line) ≡ true
reader_of_good line good = reader_well line.order line.held line.fed line.stray good.fits good.started

-- what a reader of such a line answers
pub feed_good : (line : Line) → Good line → (piece : List ℕ) → feed_reader (reader_of line) piece ≡ fed_for (feed_of line piece)
feed_good line good piece = feed_reader_law line.order line.held line.fed line.stray good.fits good.started piece

pub end_good : (line : Line) → Good line → end_reader (reader_of line) ≡ record { reader = reader_of (ended line); heard = heard_for (told_by_end line.held) (start_of line) }
unfolding end_reader_at
end_good line good =
    rw (reader_of_good line good)
    (λ i. record {
      reader = reader_wraps line.order [] (line.fed % 2 ^ 32) line.fed (line.stray % 2 ^ 32) line.stray (omega arith) (omega arith) (omega arith) i;
      heard = heard_for (told_by_end (held_back line.order line.held line.fed line.stray good.fits good.started i)) (start_of line);
    })

module _ (reader : Reader) (size : length reader.held ≡ places) (e : well_formed reader ≡ true) where
  pub good_line : Good (line_of reader)
  good_line =
      record { fits = omega (arith, taken_length reader.held reader.len size); started = (well reader e).started }

  pub feed_stays_good : (piece : List ℕ) → well_formed (feed_reader reader piece).reader ≡ true
  unfolding feed_reader_at
  feed_stays_good piece = rw e (reader_of_good (feed_of (line_of reader) piece).line (good_feed (line_of reader) piece good_line))

  pub end_stays_good : well_formed (end_reader reader).reader ≡ true
  unfolding end_reader_at
  end_stays_good = rw e (reader_well reader.order [] reader.fed reader.stray (omega arith) refl)
