use Rattle.far_array.proofs.Told.{size_fits, size_some}
use Rattle.far_array.proofs.array.Array.size.Goals as goal

pub returns-clause-some : goal.returns-clause-some
returns-clause-some g c = let p = c.self.inside.parts in size_some (g.O.Objects.far p.worker) p.blocks.items p.per p.size p.len c.args.self.now c.self.view_is c.self.invariant

pub returns-clause-fits : goal.returns-clause-fits
returns-clause-fits g c = let p = c.self.inside.parts in size_fits (g.O.Objects.far p.worker) p.blocks.items p.per p.size p.len c.args.self.now c.self.view_is c.self.invariant
