-- `clock::Clock::step` meets its contract.
use mathlib.Core.Path.{ap}
use Rattle.clock.specs.Stepping.{stepped_by, step_of}
use Rattle.clock.proofs.Clock.step.Goals as goal

pub returns-in-Ok : goal.returns-in-Ok
unfolding step_of
returns-in-Ok c = ap (stepped_by c.args.self) c.in-Ok.ensures

pub returns-in-Err : goal.returns-in-Err
unfolding step_of
returns-in-Err c = ap (stepped_by c.args.self) c.in-Err.ensures
