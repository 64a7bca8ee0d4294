use Rattle.std.proofs.Common.{◌<◌, ◌^◌, ap, ◌∙◌, arith, bit_and, ◌/◌, ◌-◌}
use Rattle.std.proofs.lemmas.Nat.{one_shl, and_mask}
use Rattle.far_word.proofs.field.field.Goals as goal

pub returns : goal.returns
returns c = let h : c.args.bits < 64 = omega arith in ap (λ m. bit_and (c.args.word / 2 ^ c.args.low) (m - 1)) (one_shl c.args.bits 64 h) ∙ and_mask (c.args.word / 2 ^ c.args.low) c.args.bits
