use Rattle.std.proofs.Common.{arith}
use Rattle.far_index.proofs.Words.{so_long}
use Rattle.far_index.proofs.index.Index.len.Goals as goal

pub returns : goal.returns
returns c = omega (arith, c.len.ensures, so_long c.self.inside.words.items c.self.inside.rests.items c.args.self.now c.self.view_is c.self.invariant, c.self.inside.words.ok.0)
