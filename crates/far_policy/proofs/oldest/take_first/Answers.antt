use Rattle.std.proofs.Common.{arith}
use Rattle.far_policy.proofs.Choices.{front_of_front}
use Rattle.far_policy.proofs.oldest.take_first.Goals as goal

pub returns : goal.returns
returns c = front_of_front c.args.rows.now c.args.most c.min.result c.loop-row.row-index c.loop-row.out c.min.ensures c.loop-row.invariant.0 (omega arith)
