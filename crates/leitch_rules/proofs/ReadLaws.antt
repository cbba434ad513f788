-- The ways in which reading a reply ends, over the definitions. Assumes nothing.
use mathlib.Core.Path.{◌≡◌, ap, sym, ◌∙◌}
use mathlib.Core.List.{List, map}
use Prim.Native.Nat.{ℕ}
use lib.ListN.{length}
use borrow.Author.Tests.{eq-eqb, ne_eqb}
use Rattle.refusals.specs.Refusals.{done, refused, unless}
use Rattle.refusals.specs.Numbers.{number}
use Rattle.refusals.specs.declared.Refusal.{Refusal}
use Rattle.refusals.proofs.Laws.{does}
use Rattle.refusals.proofs.NumberLaws.{refused_by, refused_first_by}
use Rattle.places_rules.specs.Places.{Finding, place, row_fault, found_in}
use Rattle.leitch_rules.specs.declared.Reply.{Reply}
use Rattle.leitch_rules.specs.Row.{reply_row, row_numbers}
use Rattle.leitch_rules.specs.Coding.{reply_in}
use Rattle.leitch_rules.specs.Rule.{fields_refusal, day_refusal}
use Rattle.leitch_rules.specs.Reading.{carried, reply_refusal, reply_of}

-- the row that the code keeps is the manual's
pub row_kept : (row : List ℕ) → row ≡ row_numbers → map place row ≡ reply_row
unfolding row_numbers reply_row place
row_kept row e = ap (map place) e

module _ (bytes : List ℕ) where
  pub ends_by_length : (length bytes ≡ 31 → ⊥) → refused 1 ≡ reply_of bytes
  unfolding reply_of reply_refusal unless
  ends_by_length other = rw (ne_eqb _ 31 other)

  -- what the row finds in 31 characters
  module _ (size : length bytes ≡ 31) (found : Finding) (row : List ℕ) (kept : row ≡ row_numbers) (e : found ≡ found_in (map place row) bytes) where
    seen : found ≡ found_in reply_row bytes
    seen = e ∙ ap (λ r. found_in r bytes) (row_kept row kept)

    fault_is : found.fault ≡ row_fault reply_row bytes
    unfolding found_in
    fault_is = ap (λ f. f.fault) seen

    carried_is : carried bytes ≡ reply_in found.digits
    unfolding found_in carried
    carried_is = ap reply_in (sym (ap (λ f. f.digits) seen))

    pub ends_in_row : (why : Refusal) → number why ≡ found.fault → refused (number why) ≡ reply_of bytes
    unfolding reply_of reply_refusal
    ends_in_row why same = rw (eq-eqb _ 31 size) (refused_first_by (carried bytes) why _ (same ∙ fault_is))

    module _ (fits : found.fault ≡ 0) (reply : Reply) (is : reply ≡ reply_in found.digits) where
      told : carried bytes ≡ reply
      told = carried_is ∙ sym is

      none : row_fault reply_row bytes ≡ 0
      none = sym fault_is ∙ fits

      pub ends_refused : (why : Refusal) → number why ≡ fields_refusal reply → refused (number why) ≡ reply_of bytes
      unfolding reply_of reply_refusal
      ends_refused why same = rw (eq-eqb _ 31 size, none, told) (refused_first_by reply why _ same)

      module _ (good : fields_refusal reply ≡ 0) where
        pub ends_disagreeing : (why : Refusal) → number why ≡ day_refusal reply → refused (number why) ≡ reply_of bytes
        unfolding reply_of reply_refusal
        ends_disagreeing why same = rw (eq-eqb _ 31 size, none, told, good) (refused_by reply why same)

        pub ends_good : day_refusal reply ≡ 0 → done reply ≡ reply_of bytes
        unfolding reply_of reply_refusal
        ends_good agrees = sym (rw (eq-eqb _ 31 size, none, told, good) (does reply agrees))
