use Rattle.std.proofs.Common.{◌≡◌, List, length, take, drop, true, Bool, ◌∙◌, ap, subst, ℕ}
use Rattle.std.specs.Prelude.{IfErr, None, OnOk}
use Rattle.far_array.specs.Listed.{beyond, many_from}
use Rattle.far_array.specs.Reasons.{IsWhy, IsWhyNotGiven}
use Rattle.far_array.proofs.Reached.{on_ok}
use Rattle.far_array.proofs.Decoded.{honest_of, items_of, len_of}
use Rattle.far_array.proofs.values.ArrayOf.get_many.Goals as goal

pub returns-clause-many : goal.returns-clause-many
returns-clause-many g c =
    let r = c.self.inside.held.rows in
    on_ok c.read_values.result _ _ (λ x. x ∙ ap (λ n. many_from g.T.Record.SIZE n c.args.i) (len_of g.T.Record.decoded r c.args.self.now c.self.view_is)) c.read_values.ensures.many

pub returns-clause-got : goal.returns-clause-got
returns-clause-got g c = λ h.
    let d = g.T.Record.decoded in
    let r = c.self.inside.held.rows in
    let v = c.args.self.now in
    on_ok c.read_values.result _ _
    (λ x. x ∙ (λ k. take (many_from g.T.Record.SIZE (len_of d r v c.self.view_is k) c.args.i) (drop c.args.i (items_of d r v c.self.view_is k))))
    (c.read_values.ensures.got (honest_of d r v c.self.view_is ∙ h))

pub returns-clause-done : goal.returns-clause-done
returns-clause-done g c =
    let r = c.self.inside.held.rows in
    subst (λ n. OnOk c.read_values.result (beyond c.args.i n ≡ None)) (len_of g.T.Record.decoded r c.args.self.now c.self.view_is) c.read_values.ensures.done

pub returns-clause-why : goal.returns-clause-why
returns-clause-why g c =
    let d = g.T.Record.decoded in
    let r = c.self.inside.held.rows in
    let v = c.args.self.now in
    subst (λ (q : ℕ × Bool). IfErr c.read_values.result (IsWhy (beyond c.args.i q.0) (IsWhyNotGiven (g.O.Objects.unreached q.1))))
    (λ k. (len_of d r v c.self.view_is k, honest_of d r v c.self.view_is k)) c.read_values.ensures.why
