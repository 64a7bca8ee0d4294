use Rattle.far_events.specs.state.Words.{word_in}
use Rattle.far_events.proofs.Words.{copied_each}
use Rattle.far_events.proofs.memory.words.Words.carry.Goals as goal

pub returns-then-count-lt-FEW-clause-words : goal.returns-then-count-lt-FEW-clause-words
unfolding word_in
returns-then-count-lt-FEW-clause-words c =
    copied_each c.args.self.now.bytes c.deref_mut.result.now c.copy_each.new.bytes c.deref_mut.ensures.value c.args.source c.args.target c.args.count
    c.copy_each.ensures.length c.copy_each.ensures.words
