-- `requests::read` meets its contract.
use mathlib.Core.Path.{◌∙◌}
use native.Mathlib.Omega.{arith}
use Rattle.requests.specs.declared.Asked.TheVariants.{Time, TimeAndDate, UtcTimeAndDate}
use Rattle.requests.proofs.ReadLaws.{empty, by_capital, by_small, by_none}
use Rattle.requests.proofs.read.Goals as goal

pub returns-then-is_empty : goal.returns-then-is_empty
returns-then-is_empty c = empty c.args.bytes.now (grind arith)

pub returns-in-85 : goal.returns-in-85
returns-in-85 c =
    c.by_row.ensures ∙ by_capital Time c.args.bytes.now (grind arith) c.in-85.is

pub returns-in-68 : goal.returns-in-68
returns-in-68 c =
    c.by_row-in-68.ensures ∙ by_capital TimeAndDate c.args.bytes.now (grind arith) c.in-68.is

pub returns-in-71 : goal.returns-in-71
returns-in-71 c =
    c.by_row-in-71.ensures ∙ by_capital UtcTimeAndDate c.args.bytes.now (grind arith) c.in-71.is

pub returns-in-117 : goal.returns-in-117
returns-in-117 c =
    c.by_row-in-117.ensures ∙ by_small Time c.args.bytes.now (grind arith) c.in-117.is

pub returns-in-100 : goal.returns-in-100
returns-in-100 c =
    c.by_row-in-100.ensures ∙ by_small TimeAndDate c.args.bytes.now (grind arith) c.in-100.is

pub returns-in-103 : goal.returns-in-103
returns-in-103 c =
    c.by_row-in-103.ensures ∙ by_small UtcTimeAndDate c.args.bytes.now (grind arith) c.in-103.is

pub returns-in_default : goal.returns-in_default
returns-in_default c =
    by_none c.args.bytes.now
    elim [ Time ↦ λ e. omega arith | TimeAndDate ↦ λ e. omega arith | UtcTimeAndDate ↦ λ e. omega arith ]
    elim [ Time ↦ λ e. omega arith | TimeAndDate ↦ λ e. omega arith | UtcTimeAndDate ↦ λ e. omega arith ]
