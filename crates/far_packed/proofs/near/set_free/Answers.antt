use Rattle.far_packed.specs.Blocks.{table}
use Rattle.far_packed.proofs.Tables.{frees}
use Rattle.far_packed.proofs.near.set_free.Goals as goal

pub returns : goal.returns
returns c = λ number was. frees (table c.args.near.now) c.requires.shaped c.args.block number c.args.near.now.free c.requires.none was
