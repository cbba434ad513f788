-- Demand 3: a line of good records gives exactly those records, wherever it is cut. Assumes nothing.
use Rattle.std.proofs.Common.{◌≡◌, ℕ, ◌+◌, ◌%◌, ◌^◌, true, List, [], length, refl, ap, ◌∙◌, zero-add, arith}
use Rattle.trailer_rules.specs.declared.Order.{Order}
use Rattle.line.specs.declared.Reader.{Reader}
use Rattle.line_rules.specs.Hearing.{Nothing}
use Rattle.line.specs.Readers.{reader_of, fresh_in, end_reader}
use Rattle.line_rules.specs.Line.{fresh_line}
use Rattle.line_rules.specs.Events.{events_of, line_after}
use Rattle.line.specs.Cuts.{Calls, Served, bytes_served, heard_of, reader_behind, AllUsedUp}
use Rattle.line_rules.specs.SentLine.{Sent, bytes_sent, all_good, events_sent, stray_sent}
use Rattle.line_rules.proofs.FeedLaws.{outside}
use Rattle.line.proofs.ReaderLaws.{end_outside}
use Rattle.line.proofs.Wraps.{reader_well}
use Rattle.line_rules.proofs.EventLaws.{good_fresh}
use Rattle.line.proofs.CutLaws.{Splitting, cut_anywhere}
use Rattle.line_rules.proofs.SentLaws.{Gives}
use Rattle.line_rules.proofs.SentGives.{sent_gives}

-- cut anywhere, fed to a fresh reader by any caller's loop
module _ (call : Reader → List ℕ → Calls) (splitting : Splitting call) (order : Order) (sents : List Sent) (behind : List ℕ) (good : all_good sents behind ≡ true)
    (served : List Served) (same : bytes_served served ≡ bytes_sent order sents behind) (used : AllUsedUp call (fresh_in order) served) where
  gives : Gives (fresh_line order) (bytes_sent order sents behind) (events_sent order 0 sents) (outside order (0 + length (bytes_sent order sents behind)) (0 + stray_sent sents behind))
  gives = sent_gives order sents behind 0 0 good

  pub exactly_those : heard_of call (fresh_in order) served ≡ events_sent order 0 sents
  exactly_those = (cut_anywhere call splitting served (fresh_line order) (fresh_in order) (good_fresh order) refl used).0 ∙ ap (events_of (fresh_line order)) same ∙ gives.0

  pub reader_then : reader_behind call (fresh_in order) served ≡ reader_of (outside order (length (bytes_sent order sents behind)) (stray_sent sents behind))
  reader_then =
      (cut_anywhere call splitting served (fresh_line order) (fresh_in order) (good_fresh order) refl used).1
      ∙ ap (λ bytes. reader_of (line_after (fresh_line order) bytes)) same
      ∙ ap reader_of gives.1
      ∙ (λ i. reader_of (outside order (zero-add (length (bytes_sent order sents behind)) i) (zero-add (stray_sent sents behind) i)))

  pub true_stray : (reader_behind call (fresh_in order) served).stray ≡ stray_sent sents behind % 2 ^ 32
  true_stray = ap (λ reader. reader.stray) reader_then

  pub end_then : (end_reader (reader_behind call (fresh_in order) served)).heard ≡ Nothing
  end_then =
      let last = reader_of (outside order (length (bytes_sent order sents behind)) (stray_sent sents behind)) in
      ap (λ reader. (end_reader reader).heard) reader_then
      ∙ ap (λ ended. ended.heard) (end_outside last (reader_well order [] (length (bytes_sent order sents behind)) (stray_sent sents behind) (omega arith) refl) refl)
