use Rattle.std.proofs.Common.{◌+◌, ◌-◌, arith}
use Rattle.far_events.proofs.Words.{before_copied}
use Rattle.far_events.proofs.memory.words.copy_before.Goals as goal

pub returns-clause-bytes : goal.returns-clause-bytes
returns-clause-bytes c =
    before_copied c.args.bytes.now c.split_at_mut-front.result.0.now c.split_at_mut-front.result.1.now c.copy_from_slice.new.self c.args.source c.args.target c.args.size (c.args.target + c.args.size - c.args.target)
    c.split_at_mut-front.ensures.front c.split_at_mut-front.ensures.back (omega arith) c.copy_from_slice.ensures.after c.requires.apart c.requires.inside
