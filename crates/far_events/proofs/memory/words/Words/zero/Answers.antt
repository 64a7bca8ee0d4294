use Rattle.std.proofs.Common.{◌+◌, ◌-◌, ◌*◌, arith}
use Rattle.far_events.specs.state.Words.{word_in}
use Rattle.far_events.proofs.Words.{zero_is}
use Rattle.far_events.proofs.memory.words.Words.zero.Goals as goal

pub returns-clause-words : goal.returns-clause-words
unfolding word_in
returns-clause-words c =
    zero_is c.args.self.now.bytes c.deref_mut.result.now c.fill.new.self c.deref_mut.ensures.value c.args.from
    (8 * (c.args.from + c.args.count) - 8 * c.args.from) c.args.count (c.fill.ensures.after (λ y e. e)) (omega arith) (omega (arith, c.requires, c.args.self.now.bytes.ok.0))
