use Rattle.far_packed.specs.Blocks.{table}
use Rattle.far_packed.proofs.Tables.{clears}
use Rattle.far_packed.proofs.near.clear.Goals as goal

pub returns : goal.returns
returns c = clears (table c.args.near.now) c.requires.shaped c.args.number c.requires.there
