use Rattle.std.proofs.Common.{sym, ◌∙◌, ap}
use Rattle.far_events.specs.state.Memory.{state_of}
use Rattle.far_core.proofs.Ranges.{zeros_end, zeros_keep, zeros_legal}
use Rattle.far_core.proofs.Kept.{rows_same}
use Rattle.far_events.specs.state.State.{State}
use Rattle.far_core.proofs.machine.Core.put_zeros.Goals as goal

pub invariant_of-self : goal.invariant_of-self
invariant_of-self c = record {
  law = rw c.put_zeros.ensures (zeros_keep (state_of c.args.self.now.memory) c.args.self.now.law c.args.place.log c.args.place.at c.args.count c.requires.log c.requires.unsealed c.requires.past c.requires.inside);
  rows_are = rows_same c.args.self.now.rows (state_of c.args.self.now.memory) (state_of c.put_zeros.new.self) (ap (λ (u : State). u.stored) c.put_zeros.ensures) (ap (λ (u : State). u.mutators) c.put_zeros.ensures) c.args.self.now.rows_are;
}

pub returns-clause-state : goal.returns-clause-state
returns-clause-state c = c.put_zeros.ensures ∙ sym (zeros_end (state_of c.args.self.now.memory) c.args.self.now.law c.args.place.log c.args.place.at c.args.count c.requires.log c.requires.unsealed c.requires.past c.requires.inside)

pub returns-clause-legal : goal.returns-clause-legal
returns-clause-legal c = zeros_legal (state_of c.args.self.now.memory) c.args.self.now.law c.args.place.log c.args.place.at c.args.count c.requires.log c.requires.unsealed c.requires.past c.requires.inside
