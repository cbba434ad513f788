-- `telegram::read::read_in` meets its contract.
use Rattle.std.proofs.Common.{sym, ap, ◌∙◌}
use Rattle.telegram_rules.specs.Reading.{read_in}
use Rattle.telegram.proofs.read.read_in.Goals as goal

pub returns-in-AsPrinted : goal.returns-in-AsPrinted
returns-in-AsPrinted c =
    let start = c.args in
    c.read.ensures ∙ ap (λ order. read_in order start.control start.bytes.now) (sym c.in-AsPrinted.is)

pub returns-in-Exchanged : goal.returns-in-Exchanged
returns-in-Exchanged c =
    let start = c.args in
    c.read_exchanged.ensures ∙ ap (λ order. read_in order start.control start.bytes.now) (sym c.in-Exchanged.is)
