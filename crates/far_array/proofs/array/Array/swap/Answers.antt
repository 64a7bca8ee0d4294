use Rattle.std.proofs.Common.{◌∙◌, ap, inl, inr, arith}
use Rattle.std.specs.List.{swap}
use Rattle.far_array.specs.Rows.{Rows}
use Rattle.far_array.proofs.Reached.{on_ok}
use Rattle.far_array.proofs.Lists.{len_of_rows}
use Rattle.far_array.proofs.Told.{honest_is, len_is, ok_if, two_range, unbarred_two, why_unswapped}
use Rattle.far_array.proofs.array.Array.swap.Goals as goal

pub returns-then-i-self-clause-why : goal.returns-then-i-self-clause-why
returns-then-i-self-clause-why g c =
    let p = c.self.inside.parts in
    two_range (g.O.Objects.far p.worker) p.blocks.items p.per p.size p.len c.args.self.now c.self.view_is c.args.i c.args.j _ (inl (omega arith))

pub returns-then-j-self-clause-why : goal.returns-then-j-self-clause-why
returns-then-j-self-clause-why g c =
    let p = c.self.inside.parts in
    two_range (g.O.Objects.far p.worker) p.blocks.items p.per p.size p.len c.args.self.now c.self.view_is c.args.i c.args.j _ (inr (omega arith))

pub returns-clause-len : goal.returns-clause-len
returns-clause-len g c =
    let p = c.self.inside.parts in
    let n = c.swap_rows.new.parts in
    len_of_rows (g.O.Objects.far n.worker) n.blocks.items n.per n.size n.len ∙ c.swap_rows.ensures.len ∙ len_is (g.O.Objects.far p.worker) p.blocks.items p.per p.size p.len c.args.self.now c.self.view_is

pub returns-clause-made : goal.returns-clause-made
returns-clause-made g c = λ h.
    let p = c.self.inside.parts in
    on_ok c.swap_rows.result _ _
    (λ x. x ∙ ap (λ (u : Rows). swap u.items c.args.i c.args.j) c.self.view_is)
    (c.swap_rows.ensures.made (honest_is (g.O.Objects.far p.worker) p.blocks.items p.per p.size p.len c.args.self.now c.self.view_is ∙ h))

pub returns-clause-done : goal.returns-clause-done
returns-clause-done g c =
    let p = c.self.inside.parts in
    ok_if c.swap_rows.result _ (unbarred_two (g.O.Objects.far p.worker) p.blocks.items p.per p.size p.len c.args.self.now c.self.view_is c.args.i c.args.j (omega arith) (omega arith))

pub returns-clause-why : goal.returns-clause-why
returns-clause-why g c =
    let p = c.self.inside.parts in
    why_unswapped (g.O.Objects.far p.worker) p.blocks.items p.per p.size p.len c.args.self.now c.self.view_is c.swap_rows.result g.O.Objects.unreached g.O.Objects.unmade c.args.i c.args.j (omega arith) (omega arith) c.swap_rows.ensures.why
