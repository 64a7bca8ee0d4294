use Rattle.std.proofs.Common.{ℕ, sym, ◌∙◌, subst}
use Rattle.far_array.specs.Places.{Sound}
use Rattle.far_array.specs.Rows.{rows}
use Rattle.far_array.proofs.Lists.{cut_rows, kept_rows}
use Rattle.far_array.proofs.Sizes.{cut_sound, has, tight}
use Rattle.far_array.proofs.steps.cut.Goals as goal

pub returns-clause-sound : goal.returns-clause-sound
returns-clause-sound g c =
    let p = c.args.parts.now in
    let q = c.shrink.new.parts in
    let e = c.shrink.ensures in
    subst (λ (x : ℕ × ℕ). Sound (g.O.Objects.far q.worker) q.blocks.items x.0 x.1 c.args.n) (λ k. (sym e.per k, sym e.size k))
    (cut_sound (g.O.Objects.far p.worker) (g.O.Objects.far q.worker) p.blocks.items q.blocks.items p.per p.size p.len c.args.n c.filled.result c.args.spare c.requires.sound e.kept e.blocks c.requires.fewer c.filled.ensures.room c.filled.ensures.few c.requires.few)

pub returns-clause-tight : goal.returns-clause-tight
returns-clause-tight g c =
    let p = c.args.parts.now in
    let q = c.shrink.new.parts in
    let e = c.shrink.ensures in
    tight (g.O.Objects.far p.worker) (g.O.Objects.far q.worker) p.blocks.items q.blocks.items p.per p.size p.len c.args.n c.filled.result c.args.spare c.requires.sound e.kept e.blocks c.requires.fewer c.filled.ensures.room c.filled.ensures.few c.requires.few

pub returns-clause-made : goal.returns-clause-made
returns-clause-made g c =
    let p = c.args.parts.now in
    let q = c.shrink.new.parts in
    let e = c.shrink.ensures in
    let f = g.O.Objects.far p.worker in
    let h = g.O.Objects.far q.worker in
    (λ k. rows h q.blocks.items (e.per k) (e.size k) c.args.n)
    ∙ kept_rows f h p.blocks.items q.blocks.items p.per p.size c.args.n
    (has f h p.blocks.items q.blocks.items p.per p.size p.len c.args.n c.filled.result c.args.spare c.requires.sound e.kept e.blocks c.requires.fewer c.filled.ensures.room c.filled.ensures.few c.requires.few) e.kept
    ∙ cut_rows f p.blocks.items p.per p.size p.len c.args.n c.requires.fewer
