use Rattle.far_array.proofs.Told.{few_blocks, has_place}
use Rattle.far_array.proofs.array.Array.blocks.Goals as goal

pub returns-clause-room : goal.returns-clause-room
returns-clause-room g c = let p = c.self.inside.parts in has_place (g.O.Objects.far p.worker) p.blocks.items p.per p.size p.len c.args.self.now c.self.view_is c.self.invariant

pub returns-clause-few : goal.returns-clause-few
returns-clause-few g c = let p = c.self.inside.parts in few_blocks (g.O.Objects.far p.worker) p.blocks.items p.per p.size p.len c.args.self.now c.self.view_is c.self.invariant
