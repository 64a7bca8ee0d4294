use Rattle.std.proofs.Common.{◌∙◌, refl}
use Rattle.far_events.specs.declared.event.Event.TheVariants.{Claim}
use Rattle.far_events.specs.state.Memory.{state_of}
use Rattle.far_core.proofs.Calls.{law_after}
use Rattle.far_events.proofs.Calls.{next_is_after}
use Rattle.far_core.proofs.Kept.{rows_after}
use Rattle.far_core.proofs.Owing.{is_test}
use Rattle.far_core.proofs.machine.Core.claim.Goals as goal

pub claim-requires : goal.claim-requires
claim-requires c = is_test (state_of c.args.self.now.memory) (Claim c.args.copier c.args.job c.args.old) c.requires.legal

pub invariant_of-self : goal.invariant_of-self
invariant_of-self c = record {
  law = law_after (state_of c.args.self.now.memory) _ (Claim c.args.copier c.args.job c.args.old) c.claim.ensures.state c.args.self.now.law c.requires.legal c.ranges.old.fits;
  rows_are = rows_after c.args.self.now.rows (state_of c.args.self.now.memory) _ (Claim c.args.copier c.args.job c.args.old) c.claim.ensures.state refl c.args.self.now.rows_are;
}

pub returns-clause-state : goal.returns-clause-state
returns-clause-state c = c.claim.ensures.state ∙ next_is_after _ _

pub returns-clause-won : goal.returns-clause-won
returns-clause-won c = c.claim.ensures.won

pub returns-clause-found : goal.returns-clause-found
returns-clause-found c = c.claim.ensures.found
