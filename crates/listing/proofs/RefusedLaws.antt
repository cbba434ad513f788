-- A record that the rule refuses has no row, and what a `?` passes on says why. Assumes nothing.
use Rattle.std.proofs.Common.{◌≡◌, ℕ, List, Result, ap, sym, ◌∙◌}
use Rattle.std.specs.Result.{IsErrAnd}
use Rattle.refusals.specs.declared.Refusal.{Refusal}
use Rattle.refusals.specs.Numbers.{number, outcome}
use Rattle.refusals.specs.Refusals.{unless}
use Rattle.refusals.proofs.NumberLaws.{number_some, passed_on}
use Rattle.lent_buffer.specs.Laying.{laid}
use Rattle.record_rules.specs.declared.Record.{Record}
use Rattle.record_rules.specs.Rule.{refusal_of}
use Rattle.listing_rules.proofs.RowLaws.{rule_refuses}

pub no_row : (rec : Record) (row out : List ℕ) (told : Result ℕ Refusal) (why : Refusal) → number why ≡ refusal_of rec
    → IsErrAnd told (λ passed. passed ≡ why) → laid (unless (refusal_of rec) row) out ≡ (outcome told, out)
no_row rec row out told why is passed =
    rule_refuses rec row out (number why) is (number_some why) ∙ ap (λ answer. (answer, out)) (sym (passed_on told why passed))
