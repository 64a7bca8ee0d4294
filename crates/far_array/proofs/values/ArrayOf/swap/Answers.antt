use Rattle.std.proofs.Common.{◌≡◌, ◌∙◌, ap, map}
use Rattle.std.specs.List.{swap}
use Rattle.std.proofs.lemmas.List.{length-map}
use Rattle.far_array.proofs.Reached.{on_ok}
use Rattle.far_array.proofs.Decoded.{honest_of, items_of, len_of, map-swap, two_done, two_why}
use Rattle.far_array.proofs.values.ArrayOf.swap.Goals as goal

pub returns-clause-len : goal.returns-clause-len
returns-clause-len g c =
    let r = c.self.inside.held.rows in
    length-map c.swap.new.self.items g.T.Record.decoded ∙ c.swap.ensures.len ∙ len_of g.T.Record.decoded r c.args.self.now c.self.view_is

pub returns-clause-made : goal.returns-clause-made
returns-clause-made g c = λ h.
    let d = g.T.Record.decoded in
    let r = c.self.inside.held.rows in
    let n = c.swap.new.self in
    on_ok c.swap.result _ (map d n.items ≡ swap c.args.self.now.items c.args.i c.args.j)
    (λ x. ap (λ xs. map d xs) x ∙ map-swap d r.items c.args.i c.args.j ∙ ap (λ xs. swap xs c.args.i c.args.j) (items_of d r c.args.self.now c.self.view_is))
    (c.swap.ensures.made (honest_of d r c.args.self.now c.self.view_is ∙ h))

pub returns-clause-done : goal.returns-clause-done
returns-clause-done g c = two_done g.T.Record.decoded c.self.inside.held.rows c.args.self.now c.self.view_is c.swap.result c.args.i c.args.j c.swap.ensures.done

pub returns-clause-why : goal.returns-clause-why
returns-clause-why g c =
    two_why g.T.Record.decoded c.self.inside.held.rows c.args.self.now c.self.view_is c.swap.result g.O.Objects.unreached g.O.Objects.unmade c.args.i c.args.j c.swap.ensures.why
