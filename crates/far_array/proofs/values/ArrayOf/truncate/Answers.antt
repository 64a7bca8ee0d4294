use Rattle.std.proofs.Common.{◌∙◌, ap, sym, map, take}
use Rattle.std.specs.List.{take-map}
use Rattle.far_array.proofs.Decoded.{items_of}
use Rattle.far_array.proofs.values.ArrayOf.truncate.Goals as goal

pub returns-clause-made : goal.returns-clause-made
returns-clause-made g c =
    let d = g.T.Record.decoded in
    let r = c.self.inside.held.rows in
    ap (λ xs. map d xs) c.truncate.ensures.made ∙ sym (take-map d c.args.n r.items) ∙ ap (λ xs. take c.args.n xs) (items_of d r c.args.self.now c.self.view_is)
