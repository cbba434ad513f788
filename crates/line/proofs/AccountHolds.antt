-- The account holds of the reader that any caller's loop leaves, and after the end. Assumes nothing.
use Rattle.std.proofs.Common.{◌≡◌, ◌+◌, ◌%◌, ◌^◌, [], length, sym, refl, ap, ◌∙◌, arith}
use Rattle.line.specs.Readers.{fresh_in, feed_reader, end_reader}
use Rattle.line_rules.specs.Line.{start_of, fresh_line, told_by_end, heard_for}
use Rattle.line_rules.specs.Events.{line_after, heard_then}
use Rattle.line.specs.Cuts.{feeding, bytes_served}
use Rattle.line_rules.specs.Account.{lengths_of, strays_of, sizes_of}
use Rattle.line.specs.ReaderSentences.{TheAccountHolds, TheAccountHoldsAfterTheEnd}
use Rattle.line.proofs.StaysGood.{end_good}
use Rattle.line_rules.proofs.EventLaws.{good_fresh, good_after}
use Rattle.line.proofs.CutLaws.{feeding_splits, cut_anywhere}
use Rattle.line_rules.proofs.AccountLaws.{end_size, heard_sizes, stray_is, sum}

-- and so of the reader that any caller's loop leaves
pub the_account_holds : TheAccountHolds
the_account_holds order served used =
    let bytes = bytes_served served in
    let told = cut_anywhere (feeding feed_reader) feeding_splits served (fresh_line order) (fresh_in order) (good_fresh order) refl used in (
      ap (λ reader. reader.fed) told.1
          ∙ ap (λ n. n % 2 ^ 32) (sum order bytes)
          ∙ ap (λ len. (lengths_of (fresh_line order) bytes + strays_of (fresh_line order) bytes + len) % 2 ^ 32) (sym (ap (λ reader. reader.len) told.1)),
      ap sizes_of told.0 ∙ heard_sizes (fresh_line order) bytes,
      ap (λ reader. reader.stray) told.1 ∙ ap (λ n. n % 2 ^ 32) (stray_is order bytes),
    )

pub the_account_holds_after_the_end : TheAccountHoldsAfterTheEnd
the_account_holds_after_the_end order served used =
    let bytes = bytes_served served in
    let line = line_after (fresh_line order) bytes in
    let told = cut_anywhere (feeding feed_reader) feeding_splits served (fresh_line order) (fresh_in order) (good_fresh order) refl used in
    let ended_so = ap end_reader told.1 ∙ end_good line (good_after (fresh_line order) bytes (good_fresh order)) in
    let moved : lengths_of (fresh_line order) bytes + strays_of (fresh_line order) bytes + length line.held
    ≡ lengths_of (fresh_line order) bytes + sizes_of (heard_then (heard_for (told_by_end line.held) (start_of line)) []) + strays_of (fresh_line order) bytes =
    omega (arith, end_size line.held (start_of line)) in (
      ap (λ ended. ended.reader.fed) ended_so
          ∙ ap (λ n. n % 2 ^ 32) (sum order bytes ∙ moved)
          ∙ ap (λ ended. (lengths_of (fresh_line order) bytes + sizes_of (heard_then ended.heard []) + strays_of (fresh_line order) bytes) % 2 ^ 32) (sym ended_so),
      ap (λ ended. ended.reader.stray) ended_so ∙ ap (λ n. n % 2 ^ 32) (stray_is order bytes),
    )
