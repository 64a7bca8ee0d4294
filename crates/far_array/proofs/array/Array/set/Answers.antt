use Rattle.std.proofs.Common.{◌≡◌, ◌∙◌, length, arith}
use Rattle.std.specs.Prelude.{slice_set}
use Rattle.far_array.specs.Rows.{rows}
use Rattle.far_array.proofs.Reached.{on_ok}
use Rattle.far_array.proofs.Told.{at_length, at_range, honest_is, ok_if, unbarred_at, was_set, why_missed}
use Rattle.far_array.proofs.array.Array.set.Goals as goal

pub returns-then-i-self-clause-why : goal.returns-then-i-self-clause-why
returns-then-i-self-clause-why g c =
    let p = c.self.inside.parts in
    at_range (g.O.Objects.far p.worker) p.blocks.items p.per p.size p.len c.args.self.now c.self.view_is c.args.i (length c.args.bytes.now) _ (omega arith)

pub returns-then-bytes-self-clause-why : goal.returns-then-bytes-self-clause-why
returns-then-bytes-self-clause-why g c =
    let p = c.self.inside.parts in
    at_length (g.O.Objects.far p.worker) p.blocks.items p.per p.size p.len c.args.self.now c.self.view_is c.args.i (length c.args.bytes.now) _ (omega arith) (λ e. omega (arith, e))

pub returns-clause-made : goal.returns-clause-made
returns-clause-made g c = λ h.
    let p = c.self.inside.parts in
    let n = c.write_row.new.parts in
    let e = c.write_row.ensures in
    let f = g.O.Objects.far p.worker in
    on_ok c.write_row.result _ (rows (g.O.Objects.far n.worker) n.blocks.items n.per n.size n.len ≡ slice_set c.args.self.now.items c.args.i c.args.bytes.now)
    (was_set f p.blocks.items p.per p.size p.len c.args.self.now c.self.view_is c.args.i c.args.bytes.now (g.O.Objects.far n.worker) n.blocks.items n.per n.size n.len e.per e.size e.len c.self.invariant.room (omega arith)
    (honest_is f p.blocks.items p.per p.size p.len c.args.self.now c.self.view_is ∙ h))
    e.wrote

pub returns-clause-done : goal.returns-clause-done
returns-clause-done g c =
    let p = c.self.inside.parts in
    ok_if c.write_row.result _ (unbarred_at (g.O.Objects.far p.worker) p.blocks.items p.per p.size p.len c.args.self.now c.self.view_is c.args.i (length c.args.bytes.now) (omega arith) (omega arith))

pub returns-clause-why : goal.returns-clause-why
returns-clause-why g c =
    let p = c.self.inside.parts in
    why_missed (g.O.Objects.far p.worker) p.blocks.items p.per p.size p.len c.args.self.now c.self.view_is c.write_row.result g.O.Objects.unreached c.args.i (length c.args.bytes.now) (omega arith) (omega arith) c.write_row.ensures.why
