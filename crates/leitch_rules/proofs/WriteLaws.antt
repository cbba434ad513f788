-- The ways in which writing a reply ends, over the definitions. Assumes nothing.
use mathlib.Core.Path.{◌≡◌, ap, ap₂, sym, ◌∙◌}
use mathlib.Core.List.{List, map, ◌++◌}
use Prim.Native.Nat.{ℕ, ◌≤◌, ◌<◌}
use native.Mathlib.Omega.{arith}
use lib.ListN.{length, drop}
use lib.Seq.{take_all}
use borrow.Author.Tests.{lt-ltb, le-ltb}
use Rattle.refusals.specs.Refusals.{done, refused, unless}
use Rattle.refusals.specs.Numbers.{number}
use Rattle.refusals.specs.declared.Refusal.{Refusal}
use Rattle.refusals.proofs.Laws.{does}
use Rattle.refusals.proofs.NumberLaws.{refused_by, refused_first_by}
use Rattle.places_rules.specs.Places.{place, render, over}
use Rattle.lent_buffer.specs.Laying.{laid}
use Rattle.lent_buffer.proofs.LayingLaws.{laid_fits, laid_refused}
use Rattle.leitch_rules.specs.declared.Reply.{Reply}
use Rattle.leitch_rules.specs.Row.{row_numbers}
use Rattle.leitch_rules.specs.Coding.{digits_out}
use Rattle.leitch_rules.specs.Rule.{fields_refusal, day_refusal}
use Rattle.leitch_rules.specs.Writing.{reply_bytes, written}
use Rattle.leitch_rules.proofs.ReadLaws.{row_kept}
use Rattle.leitch_rules.proofs.BackAndForth.{length_reply}

module _ (reply : Reply) (out : List ℕ) where
  refusing : (n : ℕ) → refused n ≡ written reply (length out) → laid (written reply (length out)) out ≡ (refused n, out)
  refusing n e = ap (λ o. laid o out) (sym e) ∙ laid_refused n out

  pub ends_refused : (why : Refusal) → number why ≡ fields_refusal reply → laid (written reply (length out)) out ≡ (refused (number why), out)
  unfolding written
  ends_refused why same = refusing (number why) (refused_first_by (reply_bytes reply) why _ same)

  module _ (good : fields_refusal reply ≡ 0) where
    pub ends_short : length out < 31 → laid (written reply (length out)) out ≡ (refused 13, out)
    unfolding written unless
    ends_short short = refusing 13 (rw (good, lt-ltb _ 31 short))

    module _ (enough : 31 ≤ length out) where
      pub ends_disagreeing : (why : Refusal) → number why ≡ day_refusal reply → laid (written reply (length out)) out ≡ (refused (number why), out)
      unfolding written
      ends_disagreeing why same = refusing (number why) (rw (good, le-ltb _ 31 enough) (refused_by (reply_bytes reply) why same))

      -- what the code's row and digits make of the buffer
      pub ends_written : day_refusal reply ≡ 0 → (row digits last : List ℕ) → row ≡ row_numbers → digits ≡ digits_out reply
          → last ≡ over (render (map place row) digits) out → laid (written reply (length out)) out ≡ (done 31, last)
      unfolding written reply_bytes over
      ends_written agrees row digits last kept carry made =
          let size = length_reply reply in
          let is_written : written reply (length out) ≡ done (reply_bytes reply) = rw (good, le-ltb _ 31 enough) (does (reply_bytes reply) agrees) in
          let bytes : last ≡ reply_bytes reply ++ drop (length (reply_bytes reply)) out =
          made ∙ ap₂ (λ r d. over (render r d) out) (row_kept row kept) carry ∙ ap (λ b. b ++ drop (length (reply_bytes reply)) out) (take_all (length out) (reply_bytes reply) (omega arith)) in
          ap (λ o. laid o out) is_written ∙ laid_fits (reply_bytes reply) out (omega arith) ∙ ap₂ (λ k l. (done k, l)) size (sym bytes)
