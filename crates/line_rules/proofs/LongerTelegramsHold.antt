-- Document 02, g, holds of the reader's bound. Assumes nothing.
use mathlib.Core.Path.{◌≡◌, ap, ap₂, ◌∙◌}
use mathlib.Core.Bool.{true, not}
use mathlib.Core.List.{List, [], ◌∷◌, ◌++◌}
use Prim.Native.Nat.{ℕ, suc, ◌+◌, ◌-◌, ◌%◌, ◌^◌, ◌≤◌}
use native.Mathlib.Omega.{arith}
use lib.Dec.{eqb}
use lib.ListN.{length}
use borrow.Author.Tests.{not-true, le-leb}
use Rattle.refusals.proofs.Laws.{both}
use Rattle.trailer_rules.specs.declared.Order.{Order}
use Rattle.telegram_rules.specs.Reading.{read_in}
use Rattle.ascii.specs.Control.{stx, etx}
use Rattle.line_rules.specs.Hearing.{Event}
use Rattle.line_rules.specs.Line.{places, Line, line_with, fresh_line, all_plain}
use Rattle.line_rules.specs.Events.{events_of, line_after}
use Rattle.line_rules.specs.LongerTelegrams.{UpTo38BytesAreHeld, StxCutsOffUpTo38, TenIsGivenWhen38AreHeld, UpTo39BytesAreJudged}
use Rattle.line_rules.proofs.EventLaws.{events_join, after_join}
use Rattle.line_rules.proofs.SentLaws.{plain_gives}
use Rattle.refusals.specs.Refusals.{refused}

module _ (order : Order) (body : List ℕ) (plain : all_plain body ≡ true) (room : length body ≤ 37) where
  abbrev pub held : Line
  held = line_with (stx ∷ body) (1 + length body) 0 order

  pub gives : (events_of (fresh_line order) (stx ∷ body) ≡ []) × (line_after (fresh_line order) (stx ∷ body) ≡ held)
  gives = plain_gives order stx [] 1 0 body plain (omega arith)

  -- and with one byte more
  then_tells : (byte : ℕ) → events_of (fresh_line order) (stx ∷ body ++ byte ∷ []) ≡ events_of held (byte ∷ [])
  then_tells byte =
      events_join (fresh_line order) (stx ∷ body) (byte ∷ [])
      ∙ ap₂ (λ events line. events ++ events_of line (byte ∷ [])) gives.0 gives.1

  then_is : (byte : ℕ) → line_after (fresh_line order) (stx ∷ body ++ byte ∷ []) ≡ line_after held (byte ∷ [])
  then_is byte = after_join (fresh_line order) (stx ∷ body) (byte ∷ []) ∙ ap (λ line. line_after line (byte ∷ [])) gives.1

pub up_to_38_bytes_are_held : UpTo38BytesAreHeld
up_to_38_bytes_are_held order body plain room = ((gives order body plain room).0, ap (λ line. line.held) (gives order body plain room).1)

pub begins_at_0 : (n : ℕ) → n ≤ 37 → (1 + n + (2 ^ 32 - suc n)) % 2 ^ 32 ≡ 0
begins_at_0 n fits = omega arith

pub stx_cuts_off_up_to_38 : StxCutsOffUpTo38
stx_cuts_off_up_to_38 order body plain room =
    let size : suc (length body) ≡ length body + 1 = omega arith in (
      then_tells order body plain room stx
          ∙ ap₂ (λ start size. Event (refused 9) start size ∷ []) (begins_at_0 (length body) room) size,
      ap (λ line. line.held) (then_is order body plain room stx),
    )

pub ten_is_given_when_38_are_held : TenIsGivenWhen38AreHeld
ten_is_given_when_38_are_held order body byte plain full other =
    let room : length body ≤ 37 = omega arith in
    let apart = both (not (eqb byte stx)) (not (eqb byte etx)) other in
    let is_stx = not-true (eqb byte stx) apart.0 in
    let is_etx = not-true (eqb byte etx) apart.1 in
    let is_full_law = le-leb places (length (stx ∷ body)) (omega arith) in (
      then_tells order body plain room byte
          ∙ rw (is_etx, is_stx, is_full_law) (ap (λ start. Event (refused 10) start 39 ∷ []) (begins_at_0 (length body) room)),
      ap (λ line. line.held) (then_is order body plain room byte) ∙ rw (is_etx, is_stx, is_full_law),
    )

pub up_to_39_bytes_are_judged : UpTo39BytesAreJudged
up_to_39_bytes_are_judged order body plain room =
    let size : suc (length body) + 1 ≡ length body + 2 = omega arith in
    then_tells order body plain room etx
    ∙ ap₂ (λ start size. Event ((read_in order true (stx ∷ body ++ etx ∷ []))) start size ∷ []) (begins_at_0 (length body) room) size
