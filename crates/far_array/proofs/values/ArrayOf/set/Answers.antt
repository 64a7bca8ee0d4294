use Rattle.std.proofs.Common.{◌≡◌, ◌∙◌, ap, map}
use Rattle.std.specs.Prelude.{slice_set}
use Rattle.std.proofs.lemmas.List.{length-map}
use Rattle.far_array.proofs.Reached.{on_ok}
use Rattle.far_array.proofs.Decoded.{done_of, honest_of, items_of, len_of, why_of}
use Rattle.far_array.proofs.values.ArrayOf.set.Goals as goal

pub returns-clause-len : goal.returns-clause-len
returns-clause-len g c =
    let r = c.self.inside.held.rows in
    let n = c.set_value.new.held.rows in
    length-map n.items g.T.Record.decoded ∙ c.set_value.ensures.len ∙ len_of g.T.Record.decoded r c.args.self.now c.self.view_is

pub returns-clause-made : goal.returns-clause-made
returns-clause-made g c = λ h.
    let r = c.self.inside.held.rows in
    let n = c.set_value.new.held.rows in
    let e = c.set_value.ensures in
    on_ok c.set_value.result _ (map g.T.Record.decoded n.items ≡ slice_set c.args.self.now.items c.args.i c.args.value.now)
    (λ x. x ∙ ap (λ xs. slice_set xs c.args.i c.args.value.now) (items_of g.T.Record.decoded r c.args.self.now c.self.view_is))
    (e.made (honest_of g.T.Record.decoded r c.args.self.now c.self.view_is ∙ h))

pub returns-clause-done : goal.returns-clause-done
returns-clause-done g c =
    let r = c.self.inside.held.rows in
    done_of g.T.Record.decoded r c.args.self.now c.self.view_is c.set_value.result c.args.i g.T.Record.SIZE c.self.invariant.0 c.set_value.ensures.done

pub returns-clause-why : goal.returns-clause-why
returns-clause-why g c =
    let r = c.self.inside.held.rows in
    why_of g.T.Record.decoded r c.args.self.now c.self.view_is c.set_value.result g.O.Objects.unreached c.args.i g.T.Record.SIZE c.self.invariant.0 c.set_value.ensures.why
