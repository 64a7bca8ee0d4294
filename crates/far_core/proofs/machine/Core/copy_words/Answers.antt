use Rattle.std.proofs.Common.{sym, ◌∙◌, ap}
use Rattle.far_events.specs.state.Memory.{state_of}
use Rattle.far_core.proofs.Ranges.{copies_end, copies_keep, copies_legal}
use Rattle.far_core.proofs.Kept.{rows_same}
use Rattle.far_events.specs.state.State.{State}
use Rattle.far_core.proofs.machine.Core.copy_words.Goals as goal

pub invariant_of-self : goal.invariant_of-self
invariant_of-self c = record {
  law = rw c.copy_words.ensures (copies_keep (state_of c.args.self.now.memory) c.args.self.now.law c.args.from.log c.args.from.at c.args.to.log c.args.to.at c.args.count c.requires.source c.requires.within c.requires.target c.requires.unsealed c.requires.past c.requires.inside);
  rows_are = rows_same c.args.self.now.rows (state_of c.args.self.now.memory) (state_of c.copy_words.new.self) (ap (λ (u : State). u.stored) c.copy_words.ensures) (ap (λ (u : State). u.mutators) c.copy_words.ensures) c.args.self.now.rows_are;
}

pub returns-clause-state : goal.returns-clause-state
returns-clause-state c = c.copy_words.ensures ∙ sym (copies_end (state_of c.args.self.now.memory) c.args.self.now.law c.args.from.log c.args.from.at c.args.to.log c.args.to.at c.args.count c.requires.source c.requires.within c.requires.target c.requires.unsealed c.requires.past c.requires.inside)

pub returns-clause-legal : goal.returns-clause-legal
returns-clause-legal c = copies_legal (state_of c.args.self.now.memory) c.args.self.now.law c.args.from.log c.args.from.at c.args.to.log c.args.to.at c.args.count c.requires.source c.requires.within c.requires.target c.requires.unsealed c.requires.past c.requires.inside
