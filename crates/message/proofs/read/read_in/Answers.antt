-- `message::read::read_in` meets its contract.
use Rattle.std.proofs.Common.{sym, ◌∙◌}
use Rattle.refusals.proofs.NumberLaws.{passed_on}
use Rattle.message_rules.proofs.MessageLaws.{as_command, as_stamp}
use Rattle.message.proofs.read.read_in.Goals as goal

pub returns-then-is_command : goal.returns-then-is_command
returns-then-is_command c = as_command c.args.order c.args.bytes.now _ (sym c.is_command.ensures ∙ c.if-is_command.true) c.in_ok-read.ensures

pub returns-in_err-read : goal.returns-in_err-read
returns-in_err-read c =
    passed_on _ _ c.from_residual.ensures.1
    ∙ as_command c.args.order c.args.bytes.now _ (sym c.is_command.ensures ∙ c.if-is_command.true) c.in_err-read.ensures

pub returns : goal.returns
returns c = as_stamp c.args.order c.args.bytes.now _ (sym c.is_command.ensures ∙ c.if-is_command.false) c.in_ok-read_in.ensures

pub returns-in_err-read_in : goal.returns-in_err-read_in
returns-in_err-read_in c =
    passed_on _ _ c.from_residual-in_err-read_in.ensures.1
    ∙ as_stamp c.args.order c.args.bytes.now _ (sym c.is_command.ensures ∙ c.if-is_command.false) c.in_err-read_in.ensures
