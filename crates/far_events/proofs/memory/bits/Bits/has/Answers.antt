use Rattle.far_events.specs.state.Bits.{bit_in}
use Rattle.far_events.proofs.Bits.{bit_read}
use Rattle.far_events.proofs.memory.bits.Bits.has.Goals as goal

pub returns : goal.returns
unfolding bit_in
returns c = bit_read c.args.self.now.words.items c.args.bit _ c.word_at-found.ensures
