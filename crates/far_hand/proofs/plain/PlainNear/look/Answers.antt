use Rattle.std.proofs.Common.{◌≡◌, ap, refl, ◌∙◌}
use Rattle.far_core.specs.state.CoreState.{core_state}
use Rattle.far_hand.proofs.RoundSteps.{scope_at}
use Rattle.far_events.specs.declared.event.Event.TheVariants.{Look}
use Rattle.far_events.specs.declared.event.Reply.TheVariants.{Word}
use Rattle.far_hand.proofs.Making.{legal_made}
use Rattle.far_events.specs.state.State.{State}
use Rattle.far_hand.proofs.plain.PlainNear.look.Goals as goal

pub returns-clause-scope : goal.returns-clause-scope
returns-clause-scope c =
    let s = core_state c.args.self.now.core in
    let is : s.scope c.args.owner ≡ c.look.result = cc in
    scope_at s c.args.self.now.core.law c.args.owner c.look.result is

pub returns-clause-made : goal.returns-clause-made
returns-clause-made c = legal_made (core_state c.args.self.now.core) (core_state c.look.new.self) (Look c.args.owner) (Word c.look.result) c.requires.legal c.look.ensures.state c.look.ensures.word

pub returns-clause-saw : goal.returns-clause-saw
returns-clause-saw c =
    let s = core_state c.args.self.now.core in
    let is : s.scope c.args.owner ≡ c.look.result = cc in
    ∣ (core_state c.look.new.self, refl, ap (λ (u : State). u.scope c.args.owner) c.look.ensures.state ∙ is) ∣₁
