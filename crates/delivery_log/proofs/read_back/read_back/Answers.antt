-- `delivery_log::read_back::read_back` meets its contract.
use Rattle.delivery_log.proofs.HandOutLaws.{telegram_out}
use Rattle.delivery_log.proofs.read_back.read_back.Goals as goal

pub returns : goal.returns
returns c = telegram_out c.args.region c.args.block c.args.slot c.in_ok-start.start c.in_ok-start.size c.in_ok-start.ensures
