use Rattle.far_core.specs.state.CoreState.{core_state}
use Rattle.far_events.specs.declared.event.Event.TheVariants.{Put}
use Rattle.far_events.specs.declared.event.Reply.TheVariants.{Done}
use Rattle.far_hand.proofs.Making.{legal_made}
use Rattle.std.proofs.Common.{refl}
use Rattle.far_hand.proofs.plain.PlainNear.put.Goals as goal

pub returns-clause-made : goal.returns-clause-made
returns-clause-made c = legal_made (core_state c.args.self.now.core) (core_state c.put.new.self) (Put c.args.log c.args.at c.args.word) Done c.requires.legal c.put.ensures.state refl
