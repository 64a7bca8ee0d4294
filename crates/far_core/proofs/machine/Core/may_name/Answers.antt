use Rattle.std.proofs.Common.{ap}
use Rattle.std.specs.Prelude.{is_some}
use Rattle.far_events.specs.declared.event.Event.TheVariants.{Name}
use Rattle.far_events.specs.state.Memory.{state_of}
use Rattle.far_core.proofs.Calls.{test_is_guard}
use Rattle.far_core.proofs.machine.Core.may_name.Goals as goal

pub may_name-requires-clause-rows : goal.may_name-requires-clause-rows
may_name-requires-clause-rows c = (c.args.self.now.rows_are c.in-Some.rows c.in-Some.is).same

pub returns-in-Some : goal.returns-in-Some
returns-in-Some c =
    let guard = test_is_guard (state_of c.args.self.now.memory) (Name c.args.pointer c.args.old c.args.new) c.may_name.result c.args.self.now.law c.may_name.ensures in
    (λ yes. (ap is_some c.in-Some.is, guard.0 yes), λ both. guard.1 both.1)
