use Rattle.std.proofs.Common.{length, sym, ◌∙◌, ap}
use Rattle.std.specs.Prelude.{slice_index}
use Rattle.far_events.specs.state.Memory.{state_of}
use Rattle.far_core.proofs.Ranges.{stored_at, stored_beside, stores_end, stores_keep, stores_legal}
use Rattle.far_core.proofs.Kept.{rows_same}
use Rattle.far_events.specs.state.State.{State}
use Rattle.far_core.proofs.machine.Core.store_all.Goals as goal

pub invariant_of-self : goal.invariant_of-self
invariant_of-self c = record {
  law = rw c.store_all.ensures (stores_keep (state_of c.args.self.now.memory) c.args.self.now.law c.args.owner c.args.pointer c.args.first c.args.words.now c.requires.own c.requires.soiled c.requires.inside c.requires.padding (λ k. (c.type_inv.words k).fits));
  rows_are = rows_same c.args.self.now.rows (state_of c.args.self.now.memory) (state_of c.store_all.new.self) (ap (λ (u : State). u.stored) c.store_all.ensures) (ap (λ (u : State). u.mutators) c.store_all.ensures) c.args.self.now.rows_are;
}

pub returns-clause-state : goal.returns-clause-state
returns-clause-state c = c.store_all.ensures ∙ sym (stores_end (state_of c.args.self.now.memory) c.args.self.now.law c.args.owner c.args.pointer c.args.first c.args.words.now c.requires.own c.requires.soiled c.requires.inside c.requires.padding (λ k. (c.type_inv.words k).fits))

pub returns-clause-legal : goal.returns-clause-legal
returns-clause-legal c = stores_legal (state_of c.args.self.now.memory) c.args.self.now.law c.args.owner c.args.pointer c.args.first c.args.words.now c.requires.own c.requires.soiled c.requires.inside c.requires.padding (λ k. (c.type_inv.words k).fits)

pub returns-clause-words : goal.returns-clause-words
returns-clause-words c = λ place held k lt. stored_at (state_of c.args.self.now.memory) c.args.self.now.law c.args.pointer c.args.first (length c.args.words.now) (λ i. slice_index c.args.words.now i) _ c.store_all.ensures place held k lt

pub returns-clause-others : goal.returns-clause-others
returns-clause-others c = λ place held a out. stored_beside (state_of c.args.self.now.memory) c.args.self.now.law c.args.pointer c.args.first (length c.args.words.now) (λ i. slice_index c.args.words.now i) _ c.store_all.ensures place held a out
