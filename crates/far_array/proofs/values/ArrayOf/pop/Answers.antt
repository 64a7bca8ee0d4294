use Rattle.std.proofs.Common.{◌∙◌, ◌-◌, ap, sym, length, map, take}
use Rattle.std.specs.List.{take-map}
use Rattle.far_array.proofs.Reached.{on_ok}
use Rattle.far_array.proofs.Decoded.{honest_of, items_of, last_done, last_got, last_why, len_of}
use Rattle.far_array.proofs.values.ArrayOf.pop.Goals as goal

pub returns-clause-got : goal.returns-clause-got
returns-clause-got g c = λ h.
    let r = c.self.inside.held.rows in
    let e = c.pop_value.ensures in
    last_got g.T.Record.decoded r c.args.self.now c.self.view_is c.pop_value.result g.T.Record.SIZE (e.got (honest_of g.T.Record.decoded r c.args.self.now c.self.view_is ∙ h)) e.done

pub returns-clause-made : goal.returns-clause-made
returns-clause-made g c =
    let r = c.self.inside.held.rows in
    let v = c.args.self.now in
    let d = g.T.Record.decoded in
    on_ok c.pop_value.result _ _
    (λ x. ap (λ xs. map d xs) x ∙ sym (take-map d (length r.items - 1) r.items) ∙ (λ k. take (len_of d r v c.self.view_is k - 1) (items_of d r v c.self.view_is k))) c.pop_value.ensures.made

pub returns-clause-done : goal.returns-clause-done
returns-clause-done g c =
    let r = c.self.inside.held.rows in
    last_done g.T.Record.decoded r c.args.self.now c.self.view_is c.pop_value.result g.T.Record.SIZE c.self.invariant.0 c.pop_value.ensures.done

pub returns-clause-why : goal.returns-clause-why
returns-clause-why g c =
    let r = c.self.inside.held.rows in
    last_why g.T.Record.decoded r c.args.self.now c.self.view_is c.pop_value.result g.O.Objects.unreached g.T.Record.SIZE c.self.invariant.0 c.pop_value.ensures.why
