use Rattle.std.proofs.Common.{ap, sym, ◌∙◌}
use Rattle.far_events.specs.state.Memory.{state_of}
use Rattle.far_events.specs.state.State.{State}
use Rattle.far_core.proofs.Accesses.{heats_end, heats_keep, heats_legal}
use Rattle.far_core.proofs.Kept.{rows_same}
use Rattle.far_core.proofs.machine.Core.heat.Goals as goal

pub invariant_of-self : goal.invariant_of-self
invariant_of-self c = record {
  law = rw c.heat.ensures (heats_keep (state_of c.args.self.now.memory) c.args.self.now.law c.args.owner c.args.pointer c.requires.rest);
  rows_are = rows_same c.args.self.now.rows (state_of c.args.self.now.memory) (state_of c.heat.new.self) (ap (λ (u : State). u.stored) c.heat.ensures) (ap (λ (u : State). u.mutators) c.heat.ensures) c.args.self.now.rows_are;
}

pub returns-clause-events : goal.returns-clause-events
returns-clause-events c = c.heat.ensures ∙ sym (heats_end (state_of c.args.self.now.memory) c.args.self.now.law c.args.owner c.args.pointer c.requires.rest)

pub returns-clause-legal : goal.returns-clause-legal
returns-clause-legal c = heats_legal (state_of c.args.self.now.memory) c.args.self.now.law c.args.owner c.args.pointer c.requires.rest
