use Rattle.std.proofs.Common.{◌∙◌, ◌+◌, ◌++◌, ◌∷◌, [], ap, subst, Bool}
use Rattle.std.specs.Prelude.{if◌then◌else◌, IfErr}
use Rattle.std.proofs.lemmas.List.{length-map}
use Rattle.far_array.specs.Reasons.{IsWhyUnput}
use Rattle.far_array.proofs.Reached.{on_ok}
use Rattle.far_array.proofs.Decoded.{blocks_of, honest_of, items_of, len_of, room_of}
use Rattle.far_array.proofs.values.ArrayOf.push.Goals as goal

pub returns-clause-blocks : goal.returns-clause-blocks
returns-clause-blocks g c =
    let r = c.self.inside.held.rows in
    let v = c.args.self.now in
    let d = g.T.Record.decoded in
    on_ok c.push_value.result _ _
    (λ x. x ∙ (λ k. if room_of d r v c.self.view_is g.T.Record.SIZE c.self.invariant.0 k then blocks_of d r v c.self.view_is k else blocks_of d r v c.self.view_is k + 1)) c.push_value.ensures.blocks

pub returns-clause-len : goal.returns-clause-len
returns-clause-len g c =
    let r = c.self.inside.held.rows in
    let n = c.push_value.new.held.rows in
    on_ok c.push_value.result _ _ (λ x. length-map n.items g.T.Record.decoded ∙ x ∙ ap (λ k. k + 1) (len_of g.T.Record.decoded r c.args.self.now c.self.view_is)) c.push_value.ensures.len

pub returns-clause-made : goal.returns-clause-made
returns-clause-made g c = λ h.
    let r = c.self.inside.held.rows in
    let e = c.push_value.ensures in
    on_ok c.push_value.result _ _
    (λ x. x ∙ ap (λ xs. xs ++ c.args.value.now ∷ []) (items_of g.T.Record.decoded r c.args.self.now c.self.view_is))
    (e.made (honest_of g.T.Record.decoded r c.args.self.now c.self.view_is ∙ h))

pub returns-clause-why : goal.returns-clause-why
returns-clause-why g c =
    let r = c.self.inside.held.rows in
    let v = c.args.self.now in
    let d = g.T.Record.decoded in
    subst (λ (q : Bool × Bool). IfErr c.push_value.result (IsWhyUnput q.0 (g.O.Objects.unreached q.1) g.O.Objects.unmade))
    (λ k. (room_of d r v c.self.view_is g.T.Record.SIZE c.self.invariant.0 k, honest_of d r v c.self.view_is k)) c.push_value.ensures.why
