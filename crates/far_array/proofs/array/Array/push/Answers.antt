use Rattle.std.proofs.Common.{◌≡◌, ◌+◌, ◌∙◌, length, ap, arith}
use Rattle.std.specs.Prelude.{if◌then◌else◌}
use Rattle.far_array.specs.Rows.{has_room}
use Rattle.far_array.proofs.Reached.{on_ok}
use Rattle.far_array.proofs.Lists.{len_of_rows}
use Rattle.far_array.proofs.Told.{len_is, more_blocks, why_unput}
use Rattle.far_array.proofs.array.Array.push.Goals as goal

pub returns-clause-blocks : goal.returns-clause-blocks
returns-clause-blocks g c =
    let p = c.self.inside.parts in
    let n = c.put_row.new.parts in
    let v = c.args.self.now in
    on_ok c.put_row.result _ (length n.blocks.items ≡ (if has_room v then v.blocks else v.blocks + 1))
    (more_blocks (g.O.Objects.far p.worker) p.blocks.items p.per p.size p.len v c.self.view_is c.self.invariant (length n.blocks.items)) c.put_row.ensures.blocks

pub returns-clause-len : goal.returns-clause-len
returns-clause-len g c =
    let p = c.self.inside.parts in
    let n = c.put_row.new.parts in
    let v = c.args.self.now in
    let f = g.O.Objects.far n.worker in
    on_ok c.put_row.result _ _
    (λ e. len_of_rows f n.blocks.items n.per n.size n.len ∙ e ∙ ap (λ k. k + 1) (len_is (g.O.Objects.far p.worker) p.blocks.items p.per p.size p.len v c.self.view_is)) c.put_row.ensures.len

pub returns-clause-why : goal.returns-clause-why
returns-clause-why g c =
    let p = c.self.inside.parts in
    why_unput (g.O.Objects.far p.worker) p.blocks.items p.per p.size p.len c.args.self.now c.self.view_is c.self.invariant c.put_row.result g.O.Objects.unreached g.O.Objects.unmade (length c.args.bytes.now) (omega arith) c.put_row.ensures.why
