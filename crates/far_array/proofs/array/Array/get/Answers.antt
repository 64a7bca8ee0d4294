use Rattle.std.proofs.Common.{◌≡◌, ◌∙◌, [], length, arith}
use Rattle.std.specs.Prelude.{slice_index_or}
use Rattle.far_array.proofs.Reached.{on_ok}
use Rattle.far_array.proofs.Told.{at_length, at_range, got, honest_is, ok_if, unbarred_at, why_missed}
use Rattle.far_array.proofs.array.Array.get.Goals as goal

pub returns-then-i-self-clause-why : goal.returns-then-i-self-clause-why
returns-then-i-self-clause-why g c =
    let p = c.self.inside.parts in
    at_range (g.O.Objects.far p.worker) p.blocks.items p.per p.size p.len c.args.self.now c.self.view_is c.args.i (length c.args.out.now) _ (omega arith)

pub returns-then-out-self-clause-why : goal.returns-then-out-self-clause-why
returns-then-out-self-clause-why g c =
    let p = c.self.inside.parts in
    at_length (g.O.Objects.far p.worker) p.blocks.items p.per p.size p.len c.args.self.now c.self.view_is c.args.i (length c.args.out.now) _ (omega arith) (λ e. omega (arith, e))

pub returns-clause-got : goal.returns-clause-got
returns-clause-got g c = λ h.
    let p = c.self.inside.parts in
    let f = g.O.Objects.far p.worker in
    on_ok c.read_row.result _ (c.read_row.new.out ≡ slice_index_or c.args.self.now.items c.args.i [])
    (got f p.blocks.items p.per p.size p.len c.args.self.now c.self.view_is c.args.i c.read_row.new.out (omega arith))
    (c.read_row.ensures.read (honest_is f p.blocks.items p.per p.size p.len c.args.self.now c.self.view_is ∙ h))

pub returns-clause-done : goal.returns-clause-done
returns-clause-done g c =
    let p = c.self.inside.parts in
    ok_if c.read_row.result _ (unbarred_at (g.O.Objects.far p.worker) p.blocks.items p.per p.size p.len c.args.self.now c.self.view_is c.args.i (length c.args.out.now) (omega arith) (omega arith))

pub returns-clause-why : goal.returns-clause-why
returns-clause-why g c =
    let p = c.self.inside.parts in
    why_missed (g.O.Objects.far p.worker) p.blocks.items p.per p.size p.len c.args.self.now c.self.view_is c.read_row.result g.O.Objects.unreached c.args.i (length c.args.out.now) (omega arith) (omega arith) c.read_row.ensures.why
