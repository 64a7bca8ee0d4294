use Rattle.std.proofs.Common.{inl, inr}
use Rattle.far_events.specs.state.Words.{word_in}
use Rattle.far_events.proofs.Words.{carried, copied_each}
use Rattle.far_events.proofs.memory.words.Words.carry_many.Goals as goal

pub returns-then-source-count-clause-words : goal.returns-then-source-count-clause-words
unfolding word_in
returns-then-source-count-clause-words c =
    carried c.args.self.now.bytes c.deref_mut.result.now c.copy_behind.new.bytes c.deref_mut.ensures.value c.args.source c.args.target c.args.count
    (inl c.if-source-count.true) c.copy_behind.ensures.length c.copy_behind.ensures.bytes

pub returns-then-target-count-clause-words : goal.returns-then-target-count-clause-words
unfolding word_in
returns-then-target-count-clause-words c =
    carried c.args.self.now.bytes c.deref_mut-then-target-count.result.now c.copy_before.new.bytes c.deref_mut-then-target-count.ensures.value c.args.source c.args.target c.args.count
    (inr c.if-target-count.true) c.copy_before.ensures.length c.copy_before.ensures.bytes

pub returns-else-target-count-clause-words : goal.returns-else-target-count-clause-words
unfolding word_in
returns-else-target-count-clause-words c =
    copied_each c.args.self.now.bytes c.deref_mut-else-target-count.result.now c.copy_each.new.bytes c.deref_mut-else-target-count.ensures.value c.args.source c.args.target c.args.count
    c.copy_each.ensures.length c.copy_each.ensures.words
