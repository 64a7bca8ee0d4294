use Rattle.std.proofs.Common.{◌/◌, ◌<◌, ◌∙◌, arith}
use Rattle.std.proofs.lemmas.Grind.{get_or_default_zero}
use Rattle.std.specs.Prelude.{length}
use Rattle.far_events.specs.state.Bits.{bit_in}
use Rattle.far_events.proofs.Bits.{bit_set}
use Rattle.far_events.proofs.memory.bits.Bits.set.Goals as goal

pub returns-clause-set : goal.returns-clause-set
unfolding bit_in
returns-clause-set c =
    let words = c.args.self.now.words.items in
    let inside : c.args.bit / 64 < length words = omega (arith, c.requires, c.args.self.now.words.ok.0) in
    bit_set words c.args.bit _ inside (c.index-word.ensures ∙ get_or_default_zero words (c.args.bit / 64) c.index-word.result.now inside)
