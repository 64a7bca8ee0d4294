use Rattle.far_events.specs.declared.event.Event.TheVariants.{Offer}
use Rattle.far_events.specs.state.Memory.{state_of}
use Rattle.far_core.proofs.Calls.{test_is_guard}
use Rattle.far_core.proofs.machine.Core.may_offer.Goals as goal

pub returns : goal.returns
returns c = test_is_guard (state_of c.args.self.now.memory) (Offer c.args.job c.args.pointer c.args.to) c.may_offer.result c.args.self.now.law c.may_offer.ensures
