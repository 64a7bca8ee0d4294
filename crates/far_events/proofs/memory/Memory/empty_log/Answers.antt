use Rattle.std.proofs.Common.{◌/◌, ◌∙◌, ℕ, ap, arith, Bool}
use Rattle.far_word.specs.declared.sizes.TheConstants.{LOG_WORDS}
use Rattle.far_events.specs.state.Bits.{bit_in}
use Rattle.far_events.specs.state.Memory.{state_of}
use Rattle.far_events.proofs.Bits.{part_by}
use Rattle.far_events.proofs.memory.Memory.empty_log.Goals as goal

pub clear_part-requires-clause-inside : goal.clear_part-requires-clause-inside
unfolding state_of
clear_part-requires-clause-inside c = omega (arith, c.requires, c.args.self.now.starts_sized)

pub returns : goal.returns
unfolding state_of
returns c = ap (λ (f : ℕ → Bool). record (state_of c.args.self.now) { starts = f })
    (c.clear_part.ensures.clear ∙ part_by (bit_in c.args.self.now.starts) c.args.log (λ b. b / 64 / 8) (λ b. b / LOG_WORDS) (λ b. omega arith))
