use Rattle.std.proofs.Common.{◌∙◌, refl}
use Rattle.far_events.specs.declared.event.Event.TheVariants.{Put}
use Rattle.far_events.specs.state.Memory.{state_of}
use Rattle.far_core.proofs.Calls.{law_after}
use Rattle.far_events.proofs.Calls.{next_is_after}
use Rattle.far_core.proofs.Kept.{rows_after}
use Rattle.far_core.proofs.machine.Core.put.Goals as goal

pub invariant_of-self : goal.invariant_of-self
invariant_of-self c = record {
  law = law_after (state_of c.args.self.now.memory) _ (Put c.args.log c.args.at c.args.word) c.put.ensures c.args.self.now.law c.requires.legal c.ranges.word.fits;
  rows_are = rows_after c.args.self.now.rows (state_of c.args.self.now.memory) _ (Put c.args.log c.args.at c.args.word) c.put.ensures refl c.args.self.now.rows_are;
}

pub returns-clause-state : goal.returns-clause-state
returns-clause-state c = c.put.ensures ∙ next_is_after _ _
