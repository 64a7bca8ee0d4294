use Rattle.std.proofs.Common.{◌∙◌, length}
use Rattle.far_array.specs.Rows.{rows}
use Rattle.far_array.proofs.Lists.{len_of_rows}
use Rattle.far_array.proofs.Told.{no_spare}
use Rattle.far_array.proofs.array.Array.truncate.Goals as goal

pub returns-clause-blocks : goal.returns-clause-blocks
returns-clause-blocks g c =
    let p = c.self.inside.parts in
    let n = c.cut.new.parts in
    let h = g.O.Objects.far n.worker in
    no_spare (g.O.Objects.far p.worker) p.blocks.items p.per p.size p.len c.args.self.now c.self.view_is c.self.invariant (length n.blocks.items) c.if-n-self.n (rows h n.blocks.items n.per n.size n.len) c.cut.ensures.tight
    (len_of_rows h n.blocks.items n.per n.size n.len ∙ c.cut.ensures.len)
