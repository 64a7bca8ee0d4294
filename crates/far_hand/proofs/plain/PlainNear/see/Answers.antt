use Rattle.far_core.specs.state.CoreState.{core_state}
use Rattle.far_events.specs.declared.event.Event.TheVariants.{See}
use Rattle.far_events.specs.declared.event.Reply.TheVariants.{Word}
use Rattle.far_hand.proofs.Making.{legal_made}
use Rattle.std.proofs.Common.{refl}
use Rattle.far_hand.proofs.plain.PlainNear.see.Goals as goal

pub returns-clause-made : goal.returns-clause-made
returns-clause-made c =
    let s = core_state c.args.self.now.core in
    legal_made s s (See c.args.pointer) (Word c.see.result) c.requires.legal refl c.see.ensures.word
