use Rattle.std.proofs.Common.{◌+◌, ◌-◌, ◌*◌, arith, refl}
use Rattle.far_events.specs.state.Bits.{bit_in}
use Rattle.far_events.proofs.Bits.{part_cleared}
use Rattle.far_events.proofs.Rows.{part_filled}
use Rattle.far_events.proofs.memory.bits.Bits.clear_part.Goals as goal

pub returns-clause-clear : goal.returns-clause-clear
unfolding bit_in
returns-clause-clear c =
    let words = c.args.words in
    part_cleared c.args.self.now.words.items _ words c.args.part
    (part_filled words c.requires.some c.args.self.now.words _ c.fill.new.self (c.args.part * words) (c.args.part * words + words - c.args.part * words) c.deref_mut.ensures.value
    0 0 c.args.part refl (omega arith) (c.fill.ensures.after (λ y e. e)) (omega (arith, c.requires.inside, c.args.self.now.words.ok.0)))
