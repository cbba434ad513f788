-- `delivery_log::block::reads_well` meets its contract.
use mathlib.Core.Path.{◌≡◌, refl, ap, ◌∙◌}
use Rattle.std.specs.Prelude.{Result, Ok, Err}
use Rattle.std.specs.Result.{is_ok}
use Rattle.refusals.specs.declared.Refusal.{Refusal}
use Rattle.refusals.specs.Numbers.{outcome}
use Rattle.record_rules.specs.declared.Record.{Record}
use Rattle.log_rules.specs.Good.{is_done, reads_well}
use Rattle.delivery_log.proofs.block.reads_well.Goals as goal

ok_is_done : (read : Result Record Refusal) → is_ok read ≡ is_done (outcome read)
ok_is_done (Ok rec) = refl
ok_is_done (Err refusal) = refl

pub returns : goal.returns
unfolding reads_well
returns c = c.is_ok.ensures.value ∙ ok_is_done c.read.result ∙ ap is_done c.read.ensures
