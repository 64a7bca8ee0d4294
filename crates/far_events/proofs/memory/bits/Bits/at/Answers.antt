use Rattle.std.proofs.Common.{◌/◌, ◌<◌, ◌∙◌, arith}
use Rattle.std.proofs.lemmas.Grind.{get_or_default_zero}
use Rattle.std.specs.Prelude.{length}
use Rattle.far_events.specs.state.Bits.{bit_in}
use Rattle.far_events.proofs.Bits.{bit_read}
use Rattle.far_events.proofs.memory.bits.Bits.at.Goals as goal

pub returns : goal.returns
unfolding bit_in
returns c =
    let words = c.args.self.now.words.items in
    let inside : c.args.bit / 64 < length words = omega (arith, c.requires, c.args.self.now.words.ok.0) in
    bit_read words c.args.bit _ (c.index-found.ensures ∙ get_or_default_zero words (c.args.bit / 64) c.index-found.result.now inside)
