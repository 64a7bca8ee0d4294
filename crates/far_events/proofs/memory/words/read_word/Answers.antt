use Rattle.std.proofs.Common.{◌∙◌, arith}
use Rattle.far_word.proofs.WordBytes.{read_whole}
use Rattle.far_events.proofs.memory.words.read_word.Goals as goal

pub returns : goal.returns
returns c = c.read_u64.ensures ∙ read_whole c.args.bytes.now c.args.at (omega (arith, c.requires))
