use Rattle.std.proofs.Common.{arith}
use Rattle.far_index.proofs.Words.{within}
use Rattle.far_index.proofs.index.Index.is_empty_at.Goals as goal

pub index-requires : goal.index-requires
index-requires c = omega (arith, within c.self.inside.words.items c.self.inside.rests.items c.args.self.now c.self.view_is c.self.invariant c.args.i c.requires, c.self.inside.words.ok.0)
