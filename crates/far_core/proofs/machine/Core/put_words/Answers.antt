use Rattle.std.proofs.Common.{sym, ◌∙◌, ap}
use Rattle.far_word.specs.Bytes.{packed_word}
use Rattle.far_events.specs.state.Memory.{state_of}
use Rattle.far_events.proofs.PackedRows.{packed_fits}
use Rattle.far_core.proofs.Ranges.{puts_end, puts_keep, puts_legal}
use Rattle.far_core.proofs.Kept.{rows_same}
use Rattle.far_events.specs.state.State.{State}
use Rattle.far_core.proofs.machine.Core.put_words.Goals as goal

pub invariant_of-self : goal.invariant_of-self
invariant_of-self c = record {
  law = rw c.put_words.ensures (puts_keep (state_of c.args.self.now.memory) c.args.self.now.law c.args.place.log c.args.place.at c.args.count c.requires.log c.requires.unsealed c.requires.past c.requires.inside (packed_word c.args.bytes.now) (λ k _. packed_fits c.args.bytes.now k (λ i. (c.type_inv.bytes i).fits)));
  rows_are = rows_same c.args.self.now.rows (state_of c.args.self.now.memory) (state_of c.put_words.new.self) (ap (λ (u : State). u.stored) c.put_words.ensures) (ap (λ (u : State). u.mutators) c.put_words.ensures) c.args.self.now.rows_are;
}

pub returns-clause-state : goal.returns-clause-state
returns-clause-state c = c.put_words.ensures ∙ sym (puts_end (state_of c.args.self.now.memory) c.args.self.now.law c.args.place.log c.args.place.at c.args.count c.requires.log c.requires.unsealed c.requires.past c.requires.inside (packed_word c.args.bytes.now) (λ k _. packed_fits c.args.bytes.now k (λ i. (c.type_inv.bytes i).fits)))

pub returns-clause-legal : goal.returns-clause-legal
returns-clause-legal c = puts_legal (state_of c.args.self.now.memory) c.args.self.now.law c.args.place.log c.args.place.at c.args.count c.requires.log c.requires.unsealed c.requires.past c.requires.inside (packed_word c.args.bytes.now) (λ k _. packed_fits c.args.bytes.now k (λ i. (c.type_inv.bytes i).fits))
