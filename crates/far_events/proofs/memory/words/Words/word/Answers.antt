use Rattle.std.proofs.Common.{◌∙◌, ap, arith, length}
use Rattle.far_word.specs.Bytes.{packed_word}
use Rattle.far_events.specs.state.Words.{word_in}
use Rattle.far_word.proofs.WordBytes.{read_whole}
use Rattle.far_events.proofs.memory.words.Words.word.Goals as goal

pub returns : goal.returns
unfolding word_in
returns c =
    c.read_u64.ensures ∙ read_whole c.deref.result.now c.args.at (omega (arith, c.requires, ap length c.deref.ensures.value, c.args.self.now.bytes.ok.0))
    ∙ ap (λ bs. packed_word bs c.args.at) c.deref.ensures.value
