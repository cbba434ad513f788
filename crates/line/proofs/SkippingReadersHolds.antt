-- Document 02 d: what stands behind stray bytes is fed as if they had been. Assumes nothing.
use Rattle.std.proofs.Common.{◌+◌, [], ◌++◌, length, sym, refl, ap, ◌∙◌, arith}
use Rattle.line.specs.Readers.{fed_for}
use Rattle.line.specs.SkippingReaders.{behind, StrayBytesMayBeSkipped}
use Rattle.line.proofs.Wraps.{feed_reader_law}
use Rattle.line_rules.proofs.SkippingHolds.{past}

pub stray_bytes_may_be_skipped : StrayBytesMayBeSkipped
stray_bytes_may_be_skipped fed stray order run rest none =
    feed_reader_law order [] fed stray (omega arith) refl (run ++ rest)
    ∙ ap fed_for (past order fed stray run rest none)
    ∙ ap (behind (length run)) (sym (feed_reader_law order [] (fed + length run) (stray + length run) (omega arith) refl rest))
