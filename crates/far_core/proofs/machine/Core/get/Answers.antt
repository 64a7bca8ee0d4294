use Rattle.std.proofs.Common.{◌∙◌, refl}
use Rattle.far_events.specs.declared.event.Event.TheVariants.{Get}
use Rattle.far_events.specs.state.Memory.{state_of}
use Rattle.far_core.proofs.Calls.{law_after}
use Rattle.far_events.proofs.Calls.{next_is_after}
use Rattle.far_core.proofs.Kept.{rows_after}
use Rattle.far_core.proofs.machine.Core.get.Goals as goal

pub invariant_of-self : goal.invariant_of-self
invariant_of-self c = record {
  law = law_after (state_of c.args.self.now.memory) _ (Get c.args.log c.args.at c.args.free) c.get.ensures.state c.args.self.now.law c.requires.legal tt;
  rows_are = rows_after c.args.self.now.rows (state_of c.args.self.now.memory) _ (Get c.args.log c.args.at c.args.free) c.get.ensures.state refl c.args.self.now.rows_are;
}

pub returns-clause-state : goal.returns-clause-state
returns-clause-state c = c.get.ensures.state ∙ next_is_after _ _

pub returns-clause-word : goal.returns-clause-word
returns-clause-word c = c.get.ensures.word
