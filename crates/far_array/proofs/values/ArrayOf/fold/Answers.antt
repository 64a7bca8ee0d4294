use Rattle.std.proofs.Common.{◌∙◌, subst}
use Rattle.std.specs.Prelude.{IfOk}
use Rattle.std.specs.List.{FoldsTo}
use Rattle.far_array.proofs.Decoded.{honest_of, items_of}
use Rattle.far_array.proofs.values.ArrayOf.fold.Given as given
use Rattle.far_array.proofs.values.ArrayOf.fold.Goals as goal

pub returns-clause-folded : goal.returns-clause-folded
returns-clause-folded g c = λ h.
    let d = g.T.Record.decoded in
    let r = c.self.inside.held.rows in
    subst (λ xs. IfOk c.fold_values.result (λ b. FoldsTo {P = g.row.A.Denot} {A = g.row.T.Denot} (λ a x y. given.F-post g c.args.f a x y) c.args.first xs b)) (items_of d r c.args.self.now c.self.view_is)
    (c.fold_values.ensures.folded (honest_of d r c.args.self.now c.self.view_is ∙ h))
