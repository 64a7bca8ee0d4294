use Rattle.std.proofs.Common.{length, ◌∙◌, arith}
use Rattle.far_array.proofs.Told.{got_piece, honest_is, many_is, many_length, many_missed, many_range, unbarred_many}
use Rattle.far_array.proofs.array.Array.get_many.Goals as goal

pub returns-then-i-self-clause-why : goal.returns-then-i-self-clause-why
returns-then-i-self-clause-why g c =
    let p = c.self.inside.parts in
    many_range (g.O.Objects.far p.worker) p.blocks.items p.per p.size p.len c.args.self.now c.self.view_is c.args.i (length c.args.out.now) _ (omega arith)

pub returns-then-out-self-clause-why : goal.returns-then-out-self-clause-why
returns-then-out-self-clause-why g c =
    let p = c.self.inside.parts in
    many_length (g.O.Objects.far p.worker) p.blocks.items p.per p.size p.len c.args.self.now c.self.view_is c.args.i (length c.args.out.now) _ (omega arith) (omega arith)

pub returns-in-Err-clause-why : goal.returns-in-Err-clause-why
returns-in-Err-clause-why g c =
    let p = c.self.inside.parts in
    many_missed (g.O.Objects.far p.worker) p.blocks.items p.per p.size p.len c.args.self.now c.self.view_is g.O.Objects.unreached c.args.i (length c.args.out.now) c.in-Err.why (omega arith) (omega arith) c.in-Err.ensures.why

pub returns-clause-done : goal.returns-clause-done
returns-clause-done g c =
    let p = c.self.inside.parts in
    unbarred_many (g.O.Objects.far p.worker) p.blocks.items p.per p.size p.len c.args.self.now c.self.view_is c.args.i (length c.args.out.now) (omega arith) (omega arith)

pub returns-clause-many : goal.returns-clause-many
returns-clause-many g c =
    let p = c.self.inside.parts in
    many_is (g.O.Objects.far p.worker) p.blocks.items p.per p.size p.len c.args.self.now c.self.view_is c.self.invariant c.args.i (length c.args.out.now) c.many_rows-n.result c.many_rows-n.ensures.many

pub returns-clause-got : goal.returns-clause-got
returns-clause-got g c = λ h k l.
    let p = c.self.inside.parts in
    let low = c.many_rows-n.ensures.low in
    got_piece (g.O.Objects.far p.worker) p.blocks.items p.per p.size p.len c.args.self.now c.self.view_is c.args.i k c.read_front.new.out (omega (arith, low, l))
    (c.in-Ok.ensures.read (honest_is (g.O.Objects.far p.worker) p.blocks.items p.per p.size p.len c.args.self.now c.self.view_is ∙ h) k l)
