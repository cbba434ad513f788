-- `telegram::several::Several::add` meets its contract: each way it ends is a law of the definition.
use Rattle.std.proofs.Common.{length, refl, sym, ap, ◌∙◌, arith}
use Rattle.refusals.specs.Refusals.{refused}
use Rattle.refusals.specs.Numbers.{outcome}
use Rattle.lent_buffer.specs.Endings.{ending_numbered}
use Rattle.lent_buffer.proofs.LayingLaws.{within_done, stands}
use Rattle.lent_buffer.proofs.TailLaws.{tail_lent, tail_length}
use Rattle.telegram_rules.specs.Writing.{telegram_for}
use Rattle.telegram.specs.SeveralTelegrams.{several_as}
use Rattle.telegram.proofs.SeveralLaws.{ended_before, one_stands, one_stops}
use Rattle.telegram.proofs.several.Several.add.Goals as goal

pub returns-in-Err : goal.returns-in-Err
returns-in-Err c = ended_before _ (several_as c.args.self) _ _ _ (ap ending_numbered c.in-Err.is)

pub overflow_add-result : goal.overflow_add-result
overflow_add-result c =
    let a = c.args in
    let used = a.self.used in
    let out = a.out.now in
    let lent = tail_lent used out _ c.min-start.ensures in
    let made = stands (telegram_for a.choice a.rec) _ _ _ c.in-Ok.ensures in
    omega (arith, (within_done _ _ made.bytes made.is_laid).1, made.size, ap length lent, tail_length used out)

pub returns-in-Ok : goal.returns-in-Ok
returns-in-Ok c =
    let a = c.args in
    one_stands a.choice (several_as a.self) a.out.now (ap ending_numbered c.in_default.is) a.rec _ _ _
    c.min-start.ensures c.write.ensures _ _
    refl (ap outcome c.in-Ok.is)

pub returns-in-Err-write : goal.returns-in-Err-write
returns-in-Err-write c =
    let a = c.args in
    one_stops a.choice (several_as a.self) a.out.now (ap ending_numbered c.in_default.is) a.rec _ _ _
    c.min-start.ensures
    c.write.ensures _ (omega arith) (ap outcome c.in-Err-write.is ∙ ap refused (sym c.number.ensures))
