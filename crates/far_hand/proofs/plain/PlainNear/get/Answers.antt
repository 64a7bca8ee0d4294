use Rattle.far_core.specs.state.CoreState.{core_state}
use Rattle.far_events.specs.declared.event.Event.TheVariants.{Get}
use Rattle.far_events.specs.declared.event.Reply.TheVariants.{Word}
use Rattle.far_hand.proofs.Making.{legal_made}
use Rattle.far_hand.proofs.plain.PlainNear.get.Goals as goal

pub returns-clause-made : goal.returns-clause-made
returns-clause-made c = legal_made (core_state c.args.self.now.core) (core_state c.get.new.self) (Get c.args.log c.args.at c.args.free) (Word c.get.result) c.requires.legal c.get.ensures.state c.get.ensures.word

pub returns-clause-set : goal.returns-clause-set
returns-clause-set c = λ _. c.get.ensures.state
