use Rattle.far_array.proofs.Told.{len_is}
use Rattle.far_array.proofs.array.Array.len.Goals as goal

pub returns : goal.returns
returns g c = let p = c.self.inside.parts in len_is (g.O.Objects.far p.worker) p.blocks.items p.per p.size p.len c.args.self.now c.self.view_is
