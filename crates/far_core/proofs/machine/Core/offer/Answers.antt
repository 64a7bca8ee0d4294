use Rattle.std.proofs.Common.{◌∙◌, refl}
use Rattle.far_events.specs.declared.event.Event.TheVariants.{Offer}
use Rattle.far_events.specs.state.Memory.{state_of}
use Rattle.far_core.proofs.Calls.{law_after}
use Rattle.far_events.proofs.Calls.{next_is_after}
use Rattle.far_core.proofs.Kept.{rows_after}
use Rattle.far_core.proofs.Owing.{is_test}
use Rattle.far_core.proofs.machine.Core.offer.Goals as goal

pub offer-requires-clause-legal : goal.offer-requires-clause-legal
offer-requires-clause-legal c = is_test (state_of c.args.self.now.memory) (Offer c.args.job c.args.pointer c.args.to) c.requires.legal

pub invariant_of-self : goal.invariant_of-self
invariant_of-self c = record {
  law = law_after (state_of c.args.self.now.memory) _ (Offer c.args.job c.args.pointer c.args.to) c.offer.ensures c.args.self.now.law c.requires.legal tt;
  rows_are = rows_after c.args.self.now.rows (state_of c.args.self.now.memory) _ (Offer c.args.job c.args.pointer c.args.to) c.offer.ensures refl c.args.self.now.rows_are;
}

pub returns-clause-state : goal.returns-clause-state
returns-clause-state c = c.offer.ensures ∙ next_is_after _ _
