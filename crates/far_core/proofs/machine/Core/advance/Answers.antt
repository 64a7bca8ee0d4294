use Rattle.std.proofs.Common.{◌∙◌, refl}
use Rattle.far_events.specs.declared.event.Event.TheVariants.{Advance}
use Rattle.far_events.specs.state.Memory.{state_of}
use Rattle.far_core.proofs.Calls.{law_after}
use Rattle.far_events.proofs.Calls.{next_is_after}
use Rattle.far_core.proofs.Kept.{rows_after}
use Rattle.far_core.proofs.Owing.{is_test}
use Rattle.far_core.proofs.machine.Core.advance.Goals as goal

pub advance-requires-clause-legal : goal.advance-requires-clause-legal
advance-requires-clause-legal c = is_test (state_of c.args.self.now.memory) (Advance c.args.logs) c.requires.legal

pub invariant_of-self : goal.invariant_of-self
invariant_of-self c = record {
  law = law_after (state_of c.args.self.now.memory) _ (Advance c.args.logs) c.advance.ensures.state c.args.self.now.law c.requires.legal tt;
  rows_are = rows_after c.args.self.now.rows (state_of c.args.self.now.memory) _ (Advance c.args.logs) c.advance.ensures.state refl c.args.self.now.rows_are;
}

pub returns-clause-state : goal.returns-clause-state
returns-clause-state c = c.advance.ensures.state ∙ next_is_after _ _

pub returns-clause-epoch : goal.returns-clause-epoch
returns-clause-epoch c = c.advance.ensures.epoch
