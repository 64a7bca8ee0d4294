use Rattle.std.proofs.Common.{◌≡◌, ◌∙◌, ◌*◌, arith, drop, length, take}
use Rattle.std.proofs.lemmas.List.{length-take-le}
use Rattle.far_events.specs.state.Memory.{state_of}
use Rattle.far_events.specs.state.Words.{word_in}
use Rattle.far_events.proofs.Words.{front_read}
use Rattle.far_events.proofs.memory.Memory.unpack_words.Goals as goal

pub returns-clause-front : goal.returns-clause-front
unfolding state_of
returns-clause-front c =
    let long : length (take (8 * c.args.count) c.args.row.now) ≡ 8 * c.args.count = length-take-le (8 * c.args.count) c.args.row.now c.requires.room in
    front_read (word_in c.args.self.now.words) c.read.new.bytes (drop (8 * c.args.count) c.args.row.now) c.args.from c.args.count (c.read.ensures.length ∙ long)
    (λ k lt. c.read.ensures.bytes k (omega (arith, long, lt)))
