use Rattle.far_core.specs.state.CoreState.{core_state}
use Rattle.far_events.specs.declared.event.Event.TheVariants.{Mark}
use Rattle.far_events.specs.declared.event.Reply.TheVariants.{Word}
use Rattle.far_hand.proofs.Making.{legal_made}
use Rattle.far_hand.proofs.plain.PlainNear.mark.Goals as goal

pub returns-clause-made : goal.returns-clause-made
returns-clause-made c = legal_made (core_state c.args.self.now.core) (core_state c.mark.new.self) (Mark c.args.pointer) (Word c.mark.result) c.requires.legal c.mark.ensures.state c.mark.ensures.word
