use Rattle.std.proofs.Common.{◌+◌, ◌*◌, ◌≤◌, ◌∙◌, sym, subst, length}
use Rattle.far_array.specs.Places.{Wrote}
use Rattle.far_array.specs.Rows.{rows}
use Rattle.far_array.proofs.Lists.{kept_rows, push_rows}
use Rattle.far_array.proofs.Sizes.{put_above_sound}
use Rattle.far_array.proofs.steps.put_above.Goals as goal

pub returns-in-Ok-clause-sound : goal.returns-in-Ok-clause-sound
returns-in-Ok-clause-sound g c =
    let p = c.args.parts.now in
    let n = c.push_block.new.parts in
    let e = c.push_block.ensures in
    put_above_sound c.args.bytes.now (g.O.Objects.far p.worker) (g.O.Objects.far n.worker) p.blocks.items n.blocks.items p.per n.per p.size n.size p.len n.len e.per e.size e.len c.requires.sound
    c.in-Ok.ensures.longer c.in-Ok.ensures.count c.requires.full c.in-Ok.ensures.wrote

pub returns-in-Ok-clause-made : goal.returns-in-Ok-clause-made
returns-in-Ok-clause-made g c = λ o.
    let p = c.args.parts.now in
    let n = c.push_block.new.parts in
    let e = c.push_block.ensures in
    let f = g.O.Objects.far p.worker in
    let h = g.O.Objects.far n.worker in
    (λ k. rows h n.blocks.items (e.per k) (e.size k) (e.len k + 1))
    ∙ push_rows c.args.bytes.now f h p.blocks.items n.blocks.items p.per p.size p.len c.requires.sound.room o
    (subst (λ k. Wrote k c.args.bytes.now f h p.blocks.items n.blocks.items p.per p.size) (sym c.requires.full) c.in-Ok.ensures.wrote)

pub returns-in-Err-clause-refused : goal.returns-in-Err-clause-refused
returns-in-Err-clause-refused g c =
    let p = c.args.parts.now in
    let n = c.push_block.new.parts in
    let e = c.push_block.ensures in
    let f = g.O.Objects.far p.worker in
    let h = g.O.Objects.far n.worker in
    let kept = c.in-Err.ensures.kept in
    let same = c.in-Err.ensures.same in
    let room : p.len ≤ p.per * length n.blocks.items = subst (λ xs. p.len ≤ p.per * length xs) (sym same) c.requires.sound.room in
    let items = (λ k. rows h n.blocks.items (e.per k) (e.size k) (e.len k)) ∙ kept_rows f h p.blocks.items n.blocks.items p.per p.size p.len room kept in
    λ k. record { honest = kept.honest k; size = e.size k; blocks = length (same k); items = items k }
