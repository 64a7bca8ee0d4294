use Rattle.std.proofs.Common.{◌∙◌, refl}
use Rattle.far_events.specs.declared.event.Event.TheVariants.{Pin}
use Rattle.far_events.specs.state.Memory.{state_of}
use Rattle.far_core.proofs.Calls.{law_after}
use Rattle.far_events.proofs.Calls.{next_is_after}
use Rattle.far_core.proofs.Kept.{rows_after}
use Rattle.far_core.proofs.machine.Core.pin.Goals as goal

pub invariant_of-self : goal.invariant_of-self
invariant_of-self c = record {
  law = law_after (state_of c.args.self.now.memory) _ (Pin c.args.owner c.args.pointer) c.pin.ensures.state c.args.self.now.law c.requires.legal tt;
  rows_are = rows_after c.args.self.now.rows (state_of c.args.self.now.memory) _ (Pin c.args.owner c.args.pointer) c.pin.ensures.state refl c.args.self.now.rows_are;
}

pub returns-clause-state : goal.returns-clause-state
returns-clause-state c = c.pin.ensures.state ∙ next_is_after _ _

pub returns-clause-held : goal.returns-clause-held
returns-clause-held c = c.pin.ensures.held

pub returns-clause-word : goal.returns-clause-word
returns-clause-word c = c.pin.ensures.word
