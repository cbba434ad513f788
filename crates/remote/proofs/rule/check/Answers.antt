-- `remote::rule::check` meets its contract.
use Rattle.std.proofs.Common.{Fits, w8, arith, rules, le-ltb, inl, inr, subst}
use Rattle.remote_rules.specs.Rule.{status_refusal}
use Rattle.remote_rules.specs.declared.Command.TheVariants.{TimAsked}
use borrow.Fn.Kinds.{GoodsP}
use Rattle.remote.proofs.rule.check.Lts as lts
use Rattle.remote.proofs.rule.check.Goals as goal

pub returns-in-Tim : goal.returns-in-Tim
unfolding status_refusal
returns-in-Tim c =
    let status = c.in-Tim.field-0 in
    let fits : Fits w8 status = search rules in
    rw (c.in-Tim.is, le-ltb 255 status (omega arith)) c.check_moment.ensures

-- an arm that binds nothing is not told that the status is a byte: it is told of the command on entry
pub returns-in-TimAsked : goal.returns-in-TimAsked
unfolding status_refusal
returns-in-TimAsked c =
    elim c.in-TimAsked.is [
      | inl asked ↦
          let told : GoodsP tt lts.ps (TimAsked asked.0, tt) = subst (λ x. GoodsP tt lts.ps (x, tt)) asked.1 c.well_formed in
          rw (asked.1, le-ltb 255 asked.0 (omega (arith, told)))
      | inr (inl dif) ↦ rw dif
      | inr (inr pos) ↦ rw pos
    ]
