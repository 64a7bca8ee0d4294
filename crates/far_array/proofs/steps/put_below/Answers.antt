use Rattle.std.proofs.Common.{◌+◌, ◌∙◌}
use Rattle.far_array.specs.Rows.{rows}
use Rattle.far_array.proofs.Lists.{push_rows}
use Rattle.far_array.proofs.steps.put_below.Goals as goal

pub returns-in-Ok-clause-made : goal.returns-in-Ok-clause-made
returns-in-Ok-clause-made g c = λ o.
    let p = c.args.parts.now in
    let n = c.write_row.new.parts in
    let e = c.write_row.ensures in
    let h = g.O.Objects.far n.worker in
    (λ k. rows h n.blocks.items (e.per k) (e.size k) (p.len + 1))
    ∙ push_rows c.args.bytes.now (g.O.Objects.far p.worker) h p.blocks.items n.blocks.items p.per p.size p.len c.requires.sound.room o c.in-Ok.ensures.wrote
