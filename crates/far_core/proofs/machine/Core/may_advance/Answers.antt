use Rattle.far_events.specs.declared.event.Event.TheVariants.{Advance}
use Rattle.far_events.specs.state.Memory.{state_of}
use Rattle.far_core.proofs.Calls.{test_is_guard}
use Rattle.far_core.proofs.machine.Core.may_advance.Goals as goal

pub returns : goal.returns
returns c = test_is_guard (state_of c.args.self.now.memory) (Advance c.args.logs) c.may_advance.result c.args.self.now.law c.may_advance.ensures
