use Rattle.std.proofs.Common.{◌∙◌}
use Rattle.far_array.proofs.Decoded.{done_of, got_of, honest_of, why_of}
use Rattle.far_array.proofs.values.ArrayOf.get.Goals as goal

pub returns-clause-got : goal.returns-clause-got
returns-clause-got g c = λ h.
    let r = c.self.inside.held.rows in
    let e = c.get_value.ensures in
    got_of g.T.Record.decoded r c.args.self.now c.self.view_is c.get_value.result c.args.i g.T.Record.SIZE (e.got (honest_of g.T.Record.decoded r c.args.self.now c.self.view_is ∙ h)) e.done

pub returns-clause-done : goal.returns-clause-done
returns-clause-done g c =
    let r = c.self.inside.held.rows in
    done_of g.T.Record.decoded r c.args.self.now c.self.view_is c.get_value.result c.args.i g.T.Record.SIZE c.self.invariant.0 c.get_value.ensures.done

pub returns-clause-why : goal.returns-clause-why
returns-clause-why g c =
    let r = c.self.inside.held.rows in
    why_of g.T.Record.decoded r c.args.self.now c.self.view_is c.get_value.result g.O.Objects.unreached c.args.i g.T.Record.SIZE c.self.invariant.0 c.get_value.ensures.why
