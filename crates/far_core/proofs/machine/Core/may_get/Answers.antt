use Rattle.far_events.specs.declared.event.Event.TheVariants.{Get}
use Rattle.far_events.specs.state.Memory.{state_of}
use Rattle.far_core.proofs.Calls.{test_is_guard}
use Rattle.far_core.proofs.machine.Core.may_get.Goals as goal

pub returns : goal.returns
returns c = test_is_guard (state_of c.args.self.now.memory) (Get c.args.log c.args.at c.args.free) c.may_get.result c.args.self.now.law c.may_get.ensures
