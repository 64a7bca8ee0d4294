use Rattle.std.proofs.Common.{◌-◌, ◌∙◌, [], length, take, ap, arith}
use Rattle.std.specs.Prelude.{slice_index_or, Err}
use Rattle.far_array.specs.Rows.{Rows, rows}
use Rattle.far_array.proofs.Told.{got, honest_is, len_is, unbarred_at, why_missed}
use Rattle.far_array.proofs.array.Array.pop.Goals as goal

pub returns-in-Err-clause-why : goal.returns-in-Err-clause-why
returns-in-Err-clause-why g c =
    let p = c.self.inside.parts in
    let l = len_is (g.O.Objects.far p.worker) p.blocks.items p.per p.size p.len c.args.self.now c.self.view_is in
    why_missed (g.O.Objects.far p.worker) p.blocks.items p.per p.size p.len c.args.self.now c.self.view_is {A = Unit {0}} (Err c.in-Err.why) g.O.Objects.unreached (length c.args.self.now.items - 1) (length c.args.out.now) (omega (arith, l)) (omega arith) c.in-Err.ensures.why

pub returns-clause-got : goal.returns-clause-got
returns-clause-got g c = λ h.
    let p = c.self.inside.parts in
    let f = g.O.Objects.far p.worker in
    let l = len_is f p.blocks.items p.per p.size p.len c.args.self.now c.self.view_is in
    got f p.blocks.items p.per p.size p.len c.args.self.now c.self.view_is (p.len - 1) c.read_row.new.out (omega arith) (c.in-Ok.ensures.read (honest_is f p.blocks.items p.per p.size p.len c.args.self.now c.self.view_is ∙ h))
    ∙ ap (λ k. slice_index_or c.args.self.now.items (k - 1) []) l

pub returns-clause-made : goal.returns-clause-made
returns-clause-made g c =
    let p = c.self.inside.parts in
    let q = c.read_row.new.parts in
    let n = c.cut.new.parts in
    let e = c.read_row.ensures in
    let f = g.O.Objects.far p.worker in
    let l = len_is f p.blocks.items p.per p.size p.len c.args.self.now c.self.view_is in
    ap (λ k. rows (g.O.Objects.far n.worker) n.blocks.items n.per n.size k) c.cut.ensures.len
    ∙ c.cut.ensures.made
    ∙ (λ k. take (p.len - 1) (rows (e.same k) (e.blocks k).items (e.per k) (e.size k) (e.len k)))
    ∙ ap (λ (u : Rows). take (p.len - 1) u.items) c.self.view_is
    ∙ ap (λ k. take (k - 1) c.args.self.now.items) l

pub returns-clause-done : goal.returns-clause-done
returns-clause-done g c =
    let p = c.self.inside.parts in
    let l = len_is (g.O.Objects.far p.worker) p.blocks.items p.per p.size p.len c.args.self.now c.self.view_is in
    unbarred_at (g.O.Objects.far p.worker) p.blocks.items p.per p.size p.len c.args.self.now c.self.view_is (length c.args.self.now.items - 1) (length c.args.out.now) (omega (arith, l)) (omega arith)
